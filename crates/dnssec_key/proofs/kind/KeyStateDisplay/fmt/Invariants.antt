-- What is written so far are the words of the flags so far.
use Rattle.std.{proofs.Common.◌≡◌, specs.Fmt.HasWritten, specs.Fmt.IsPlainFormatter}
use Rattle.dnssec_key.specs.Texts.{comma_list}
use Rattle.dnssec_key.proofs.Words.{separator_after, words_before}
use denote.Text.{Utf8}
use denote.Shadow.{shadow}
use Rattle.dnssec_key.proofs.kind.KeyStateDisplay.fmt.Given as goal

abbrev pub invariant-loop-is_set : goal.invariant-loop-is_set
invariant-loop-is_set g l =
    let words = words_before l.is_set-items l.is_set-index in
    shadow (Utf8 l.separator) × (l.separator ≡ separator_after words)
    × (IsPlainFormatter l.initial.f
    → HasWritten g.W.Write.write_str_gives l.initial.f (comma_list words) l.f)
