-- The last line asks, and the others are the notes.
use Rattle.std.proofs.Common.{◌==◌, ◌∙◌, ap, sym}
use Rattle.std.specs.List.{slice_split}
use Rattle.dnssec_policy.proofs.automatic.text.asked.Goals as goal

pub returns : goal.returns
returns c = record {
  question = c.in_ok-notes.last.now;
  lines = ap (slice_split (λ b. b == 10)) (sym c.without_end.ensures) ∙ c.in_ok-notes.ensures;
  asks = sym c.in_ok-seconds.ensures;
}
