-- The laws of whole rolls: clauses of `run` on lists that set nothing by hand.
--
-- | Clause     | Law                   | Lemma             | Files                           |
-- |------------|-----------------------|-------------------|---------------------------------|
-- | `stamps`   | `NeverMissesStamp`    | `never-misses`    | Keys, OrderedKeys, Order        |
-- | `settled`  | `SettlesBetweenRolls` | `settles-between` | the same                        |
-- | `waits`    | `WaitsExactly`        | `waits-exactly`   | the same; Armed, Reports, Waits |
-- | `goes_on`  | `GoesOn`              | `goes-on`         | Completion                      |
-- | `finishes` | `RollsFinish`         | `rolls-finish`    | the same; Going, Completion     |
--
-- `Keys` has what the flags and stamps of one key may be in each phase, and after an early end, as
-- one test and its tables; `OrderedKeys` says so of the keys of a side, by what starts have listed;
-- `Order` that each call keeps them so; from there each law takes what it needs.
-- `Replies` says what an accepted call did, and which rolls are in progress beside one another.
pub mod Replies
pub mod Keys
pub mod OrderedKeys
pub mod Order
pub mod Armed
pub mod Reports
pub mod Waits
pub mod Going
pub mod Completion
