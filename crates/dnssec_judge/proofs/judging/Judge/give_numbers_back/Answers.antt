-- A number is given back only if its bit says that it isn't in use.
use Rattle.dnssec_judge.proofs.Base.{ℕ, ◌/◌, ◌∙◌, ◌≡◌, ap, arith, in_word, is_in_use, refl, rules}
use Rattle.dnssec_judge.proofs.judging.Judge.give_numbers_back.Goals as goal

pub loop-number-preserved : goal.loop-number-preserved
loop-number-preserved c =
    let at = c.loop-number.number in let is = c.loop-number.invariant in
    let word : (n : ℕ) → n / 64 ≡ at / 64
    → in_word c.if-number-eq0.in_use n ≡ is_in_use c.args.self.now.windows n =
    elim c.if-number-eq0.branch [
      | goal.then-number-eq0 w ↦ rw w.in_use-is (λ n e. w.word_in_use-in_use.ensures n e
          ∙ ap (λ j. is_in_use j.windows n) is.kept)
      | goal.else-number-eq0 w ↦ rw w.in_use-is (is.word w.if-number-eq0.false)
    ] in
    record {
      kept = search rules;
      table = search rules;
      in_use = search (rules, word at refl);
      word = λ more n e. word n (omega (arith, more, e));
    }
