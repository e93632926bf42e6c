-- What an early end undoes: a clause of `run`, on every list of calls.
--
-- | Clause   | Law            | Lemma           | Files         |
-- |----------|----------------|-----------------|---------------|
-- | `undoes` | `UndoesStarts` | `undoes-starts` | Keys, Undoing |
--
-- `Keys` has what a start and an early end do to the flags of one key, says that both roles of a
-- CSK are old together at every position, and follows what a start listed over one call; `Undoing`
-- follows it over a run.
pub mod Keys
pub mod Undoing
