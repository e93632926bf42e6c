pub mod Inner
pub mod Json
pub mod Keys
pub mod Names
pub mod Rolls
pub mod Sets
pub mod Status
