pub mod Wishes
pub mod Reading
pub mod Writing
pub mod Lint
pub mod Faults
