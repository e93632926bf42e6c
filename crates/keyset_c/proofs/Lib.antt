-- The library for C: a box that goes out as a pointer and comes back. The five proofs by hand are
-- under box_parts and pointer.
pub mod Opened
pub mod Values
