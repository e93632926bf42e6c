-- Definitions for the inside of the crate. No contract of a public call names them.
pub mod Devices
pub mod Zone
