-- The law of exchange, which `dnssec_run` lifts to records.
--
-- | Clause     | Law                        | Lemma          | Files                       |
-- |------------|----------------------------|----------------|-----------------------------|
-- | `exchange` | `NeighboursMayBeExchanged` | `Law.exchange` | all, in the order below     |
pub mod Kinds
pub mod Seen
pub mod Clearances
pub mod Law
