-- The keys, rolls and lists of a zone. What carries each clause:
--
-- | Function or law                  | Lemma                          | Files                    |
-- |----------------------------------|--------------------------------|--------------------------|
-- | `TagIndex::empty`                | `zeros`                        | BitWords                 |
-- | `Keys`: the map that it shows    | ruleset `shown`, `get-walked`  | Walks                    |
-- | `Derived`: the tags              | `TagsAgree-added` and the like | Tags, Quantified         |
-- | `Derived`: the counts            | `counts-added` and the like    | Counted, Walks           |
-- | `check_many_new`                 | `fault-from`, `new-fault`      | Marks                    |
-- | `mark` and back                  | `mark_more`                    | Marks                    |
-- | `may_go_over`                    | `same_algorithms`              | Starts                   |
-- | `check_suitability`              | `all_met-is`                   | Starts                   |
-- | `end_phase`, `delete`            | `counts-ended` and the like    | Counted                  |
-- | `Lists`: the entries             | `entries_of-at`, `filtered`    | Listing                  |
-- | the phases of rolls              | ruleset `phases`               | Phases                   |
-- | `over_from`                      | `walked`, `latest-is`          | Latest, Longest          |
-- | `CountedEnds`                    | `ends-walked`, `last-latest`   | Ended, Counted           |
-- | `Waits`: what is kept            | `latest-moved`, `ends-changed` | Latest, Ended            |
--
-- `Tests` tests all rolls, options and pairs of flags; `Flags` says by it what flags a key may have
-- on each side: for the laws of key sets and of runs.
pub mod BitWords
pub mod Walks
pub mod Phases
pub mod Quantified
pub mod Tags
pub mod Listing
pub mod Counted
pub mod Starts
pub mod Marks
pub mod Longest
pub mod Latest
pub mod Ended
pub mod Tests
pub mod Flags
