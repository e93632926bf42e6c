-- Keys and the table of rolls. What carries each clause:
--
-- | Function               | Lemma                        | Files |
-- |------------------------|------------------------------|-------|
-- | `Display` of states    | `word_added`, `word_skipped` | Words |
-- | `equal_states_are_one` | `alike_states`               | Alike |
-- | `equal_kinds_are_one`  | `alike_kinds`                | Alike |
-- | `retain` in the crates above | `filtered`             | Retained |
-- | `write_stamps`         | `put_last`                   | Stampings |
pub mod Words
pub mod Retained
pub mod Alike
pub mod Stampings
