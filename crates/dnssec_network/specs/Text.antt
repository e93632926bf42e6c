pub mod Lines
pub mod Reading
pub mod Due
pub mod Questions
pub mod Faults
pub mod Scripts
