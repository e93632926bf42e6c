-- Domain names, algorithms and durations. What carries each clause:
--
-- | Function and clause            | Lemma                    | Files                       |
-- |--------------------------------|--------------------------|-----------------------------|
-- | `Name::from_str`, `name`       | `read_spells`            | Reading, Wholes, WireLabels |
-- | `read`, both                   | ruleset `reading`        | Reading, Faults, Wholes     |
-- | `split_piece`, `split_escape`  | `plain_piece`, `escapes` | Symbols                     |
-- | `are_labels`, `split_label`    | `front`, `label_front`   | WireLabels                  |
-- | `Display` of names and bytes   | `next_label`, `styled`   | PrintedLabels, PrintedBytes |
-- | `SecurityAlgorithm::from_name` | `no_name`                | AlgorithmNames              |
-- | `spells_one_name`              | of its name, as all laws | OneName, Places, Symbols    |
-- | `spells_no_fault`              |                          | NoFault, Faults, Places     |
-- | `spells_unless_fault`          |                          | Complete, Faults, Wholes    |
-- | `one_fault_stands_first`       |                          | OneFault, Faults, Symbols   |
-- | `prints_its_spelling`          |                          | PrintedNames, PrintedBytes  |
-- | `write_decimals`               | `turn`, `all_decimals`   | Decimals                    |
pub mod AlgorithmNames
pub mod Complete
pub mod OneFault
pub mod NoFault
pub mod PrintedNames
pub mod OneName
pub mod Reading
pub mod Faults
pub mod Wholes
pub mod Places
pub mod Symbols
pub mod PrintedLabels
pub mod PrintedBytes
pub mod WireLabels
pub mod Decimals
