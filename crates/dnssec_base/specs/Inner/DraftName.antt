-- A name while its text is read.
use Rattle.std.specs.Prelude.{ℕ, List}

-- the labels that have ended, as they stand on the wire, and the bytes so far of the next
pub record DraftName : Type 0 where
  pub labels : List ℕ
  pub label : List ℕ
