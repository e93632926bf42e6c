-- A user of the key set needn't read these. Contracts of `dnssec_zone` that `dnssec_keyset` calls
-- name `NewKeys`, `KeyMark` and `Entries`. So does what a contract sees of a `KeySet`: its lists.
pub mod KeyMark
pub mod Bits
pub mod TagIndex
pub mod Tags
pub mod Entries
pub mod Counts
pub mod NewKeys
pub mod Over
pub mod Ends
pub mod Reported
pub mod Derived
