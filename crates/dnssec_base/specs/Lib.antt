pub mod AlgorithmNames
pub mod Inner
pub mod NameLaws
pub mod NameText
pub mod WireName
pub mod Moment
pub mod Stamps
pub mod ErrorTexts
