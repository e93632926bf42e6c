-- The bits are those of the sets up to the place.
use Rattle.dnssec_judge.specs.{Bits.in_word, Inner.Spans.in_spans}
use Rattle.std.proofs.Common.{drop, ℕ, ◌/◌, ◌||◌, ◌≡◌}
use Rattle.dnssec_judge.proofs.window.spans.Spans.word.Given as goal

abbrev pub invariant-loop-place : goal.invariant-loop-place
invariant-loop-place l = (n : ℕ) → n / 64 ≡ l.index
    → (in_word l.word n || in_spans (drop l.place l.self.list.items) n)
    ≡ in_spans l.self.list.items n
