-- Runs and their records. What carries each clause; those of `run` that a folder carries stand at
-- the head of Chain, WholeRolls, EarlyEnds and Asked.
--
-- | Function and clause       | Lemma                         | Files                        |
-- |---------------------------|-------------------------------|------------------------------|
-- | `run`, `run`              | `run_none`, `run_more`        | Grow                         |
-- | `run`, `sound`            | `stays-sound`                 | Laws; the key set's Laws     |
-- | `run`, `sides`            | `leaves-others`               | the key set's Sides          |
-- | `run`, `exchange`         | `exchange`                    | the key set's Exchange       |
-- | `Recorder::new`           | `agrees-new`, `published-new` | Next                         |
-- | `Adds::put`, `make_tree`  | `puts`, `one-over`            | OneKey, Trees                |
-- | `Recorder::advance`, `ok` | `records-more`                | Next; the key set's After    |
-- | `read_few`, `read_many`   | `read-found`, `all-moved`     | Moves                        |
-- | `Recorder::advance`, `ok` | `leaves`                      | Asked                        |
-- | `set_in`, `set_in_tree`   | `set-found`, `sets-some`      | OneKey                       |
-- | `starts_suffice`          | `starts-suffice`              | Starts                       |
-- | `whole_runs_stay_safe`    | `chain-holds`, `each-holds`   | Chain                        |
-- | the premise of plain lists| `plain-by-sets`               | Premise                      |
-- | all laws of runs          | `came`, `goes`, `by-phase`    | Effects                      |
-- | for callers of `Recorder` | `last-ds` and the like        | Recorded                     |
-- | `changes_after`           | `leads-on`                    | Leads                        |
-- | for the judge             | `position-new` and the like   | OneMore                      |
-- | `Moments`                 | `moments-add`, `latest-is`    | Latest                       |
-- | `keys_in_order`           | `put_in_order`                | InOrder                      |
pub mod Since
pub mod Positions
pub mod Trees
pub mod Moves
pub mod OneKey
pub mod Next
pub mod Grow
pub mod Effects
pub mod Laws
pub mod Chain
pub mod WholeRolls
pub mod Asked
pub mod ListBits
pub mod EarlyEnds
pub mod Premise
pub mod Starts
pub mod Recorded
pub mod Listed
pub mod Moved
pub mod Leads
pub mod OneMore
pub mod Told
pub mod Apart
pub mod Advance
pub mod Latest
pub mod Lent
pub mod InOrder
