-- What is written so far and what the other labels print are the whole text: for what a name
-- displays.
use Rattle.std.proofs.Common.{◌≡◌, ℕ, List, ◌++◌, length}
use Rattle.std.specs.Fmt.{HasWritten, IsPlainFormatter}
use Rattle.dnssec_base.specs.{WireName.AreLabels, NameText.name_text, NameText.printed_after}
use Rattle.dnssec_base.proofs.name.NameVecU8Display.fmt.Given as goal

abbrev pub invariant-labels : goal.invariant-labels
invariant-labels g l = record {
  labels : AreLabels 0 l.rest;
  written : IsPlainFormatter l.fn.f
      → (text : List ℕ) × HasWritten g.W.Write.write_str_gives l.fn.f text l.f
      × (text ++ printed_after 0 l.rest ≡ name_text l.self);
}

abbrev pub decreases-labels : goal.decreases-labels
decreases-labels g l = length l.rest
