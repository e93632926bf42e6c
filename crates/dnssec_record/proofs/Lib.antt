-- Scripts and their answers. What carries each clause:
--
-- | Function and clause         | Lemma                             | Files         |
-- |-----------------------------|-----------------------------------|---------------|
-- | `record_script`, `resume`   | `none_made`, `one_made`           | Made          |
-- | `answer_to`                 | `one_more`, `all_answered`        | Running, Made |
-- | `ZoneState::make`           | `goes_on`                         | Running       |
-- | `Session::call`, `accept`   | `answered`, `script_more`         | Sessions      |
-- | `run_script`, `well_formed` | `of_input`, `never_fault`         | Answering     |
-- | `run_script`, `begun`       | `of_input`                        | Answering     |
-- | `run_script`, `safe`        | `stays-safe`                      | Ending        |
-- | `run_script`, `chain`       | `last-line-safe`                  | Ending        |
pub mod Made
pub mod Running
pub mod Kept
pub mod Sessions
pub mod Answering
pub mod Ending
