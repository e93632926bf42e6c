-- The status of a zone: its texts.
pub mod Chains
pub mod Listing
