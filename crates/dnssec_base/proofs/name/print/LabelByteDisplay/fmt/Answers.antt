-- A byte that is not visible prints its number: for what a name displays.
use Rattle.std.proofs.Common.{◌⊎◌, ◌<◌, ◌≤◌, arith, inl, inr, ap, ◌∙◌, ◌∷◌}
use Rattle.std.proofs.{lemmas.Grind.common_steps, Output.has_written_of_eq}
use Rattle.std.specs.Fmt.{styled_decimal}
use Rattle.dnssec_base.proofs.PrintedBytes.{styled}
use Rattle.dnssec_base.proofs.name.print.LabelByteDisplay.fmt.Goals as goal

pub returns-in_default-clause-writes : goal.returns-in_default-clause-writes
returns-in_default-clause-writes g c plain ok =
    let out : (c.args.self.now.0 < 0x21) ⊎ (0x7F ≤ c.args.self.now.0) =
    elim c.in_default.branch [
      | goal.in_default-via-then-byte-lt33 w ↦ inl (omega arith)
      | goal.in_default-via-else-byte-lt33+else-byte-lt127 w ↦ inr (omega arith)
    ] in
    has_written_of_eq _ _ _ _ _
    (ap (λ spec. 92 ∷ styled_decimal spec c.args.self.now.0) c.laid_out.ensures
    ∙ styled c.args.self.now.0 (omega arith) out)
    (c.write-in_default.ensures.writes plain ok)

pub returns-in-33-to-126-clause-writes : goal.returns-in-33-to-126-clause-writes
returns-in-33-to-126-clause-writes g c = grind (arith, common_steps)
