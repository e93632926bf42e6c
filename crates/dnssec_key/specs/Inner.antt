-- A user of the key set needn't read this: the words of a roll's column, which the contracts that
-- `dnssec_zone` calls name.
pub mod Columns
