pub mod Keys
pub mod Rolls
pub mod Lists
pub mod Start
pub mod Refusals
pub mod Wait
pub mod Inner
