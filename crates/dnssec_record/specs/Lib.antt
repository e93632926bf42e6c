pub mod Answer
pub mod Courses
pub mod Device
pub mod Fault
pub mod Inner
pub mod Output
pub mod Session
pub mod Std
