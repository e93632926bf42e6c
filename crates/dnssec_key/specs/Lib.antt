pub mod State
pub mod Key
pub mod Stamping
pub mod RollTable
pub mod Sides
pub mod Inner
pub mod Setters
pub mod Texts
