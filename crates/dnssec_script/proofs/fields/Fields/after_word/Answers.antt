-- A text that differs from each name names no word.
use Rattle.std.proofs.Common.{◌≡◌, None, subst}
use Rattle.dnssec_script.specs.Script.{word_named}
use Rattle.dnssec_script.proofs.Ascii.{no_word, no_word_at, unless_word}
use Rattle.dnssec_script.proofs.fields.Fields.after_word.Goals as goal

pub returns-in_default : goal.returns-in_default
returns-in_default c =
    let d = c.in_default in
    no_word_at _ _ _ c.split_once.ensures
    (subst (λ text. None ≡ word_named text) c.in_ok-ascii.ensures.same (unless_word _ d.not-text-9
    d.not-text-10 d.not-text-11 d.not-text-12 d.not-text d.not-text-2 d.not-text-3 d.not-text-4
    d.not-text-5 d.not-text-6 d.not-text-7 d.not-text-8 d.not-delete d.not-start d.not-report1
    d.not-wait1 d.not-report2 d.not-wait2 d.not-done d.not-abort))

pub returns-in_err-ascii : goal.returns-in_err-ascii
returns-in_err-ascii c = rw c.from_residual.ensures
    (no_word_at _ _ _ c.split_once.ensures (no_word _ c.in_err-ascii.ensures.none))
