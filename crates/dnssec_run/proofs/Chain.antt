-- The chain of trust: every position of the record of a plain list is safe; and safe by each
-- algorithm, if its starts keep the sets whole. One chain is shown, of a family of keys (`of` in
-- `Tale`): of all keys, and of those of one algorithm. What a start makes of either is `Family`.
--
-- | Clause       | Law               | Lemma         | Files                   |
-- |--------------|-------------------|---------------|-------------------------|
-- | `chain`      | `StaysSafe`       | `chain-holds` | all, in the order below |
-- | `each_chain` | `StaysSafeByEach` | `each-holds`  | the same                |
pub mod Side
pub mod Tables
pub mod Flags
pub mod Facts
pub mod Tale
pub mod Kinds
pub mod EarlyEnds
pub mod Setters
pub mod Shown
pub mod Rolls
pub mod History
pub mod Places
pub mod Same
pub mod Returns
pub mod Lists
pub mod Invariant
pub mod OneKey
pub mod Steps
pub mod Gentles
pub mod KeyCalls
pub mod Phases
pub mod RollFacts
pub mod Keeping
pub mod Life
pub mod BothSides
pub mod FirstCalls
pub mod Waits
pub mod SideBySide
pub mod Allowed
pub mod Algorithms
pub mod Family
pub mod Trust
