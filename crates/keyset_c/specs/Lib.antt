pub mod Answered
pub mod Handles
pub mod Lent
pub mod Owned
pub mod Policies
pub mod Sessions
pub mod Texts
