-- Each turn writes a word if its flag is set, and nothing else.
use Rattle.std.proofs.Common.{rules, sym, ap}
use Rattle.std.proofs.Output.{has_written_append, has_written_of_eq, has_written_to_eq}
use Rattle.dnssec_key.{specs.Texts.comma_list, proofs.Words.word_added, proofs.Words.word_skipped}
use Rattle.dnssec_key.proofs.kind.KeyStateDisplay.fmt.Goals.{then-is_set+in_ok-write, else-is_set}
use Rattle.dnssec_key.proofs.kind.KeyStateDisplay.fmt.Goals as goal

pub loop-is_set-preserved : goal.loop-is_set-preserved
loop-is_set-preserved g c =
    let (utf8, separator, wrote) = c.loop-is_set.invariant in
    elim c.if-is_set.branch [
      | then-is_set+in_ok-write w ↦
          let added = word_added _ _ _ _ c.loop-is_set-test.true w.if-is_set.true separator in (
            search rules,
            rw w.separator-is added.next,
            λ plain. has_written_to_eq _ _ _ _ _ w.f-is (has_written_of_eq _ _ _ _ _ added.text
                (has_written_append _ _ _ _ _ _ (wrote plain) (search rules))),
          )
      | else-is_set w ↦
          let skipped = word_skipped _ _ _ c.loop-is_set-test.true w.if-is_set.false in (
            rw w.separator-is utf8,
            rw (w.separator-is, skipped) separator,
            λ plain. has_written_to_eq _ _ _ _ _ w.f-is
                (has_written_of_eq _ _ _ _ _ (ap comma_list (sym skipped)) (wrote plain)),
          )
    ]
