-- The parts are a policy, a script and notes.
use Rattle.std.proofs.Common.{◌∙◌, ◌∷◌, List, ap, map, sym, ℕ}
use Rattle.std.proofs.lemmas.Result.{IfOk-weaker}
use denote.Bor.{now}
use denote.Ref.{Bor}
use Rattle.dnssec_policy.proofs.automatic.text.answer_parts.Goals as goal

pub returns-in-Some-asked : goal.returns-in-Some-asked
returns-in-Some-asked c =
    let p = c.in-Some.policy.now.now in let s = c.in-Some-split_first.script.now.now in
    IfOk-weaker c.answer_next.result _ _ (λ line answers. record {
      policy = p;
      script = s;
      noted = c.in-Some-split_first-2.noted.now.now;
      more = map now c.in-Some-split_first-2.more.now;
      are = ap (map now) c.in-Some.ensures.cases.0
          ∙ ap (λ (ps : List (Bor (List ℕ))). p ∷ map now ps) c.in-Some-split_first.ensures.cases.0
          ∙ ap (λ (ps : List (Bor (List ℕ))). p ∷ s ∷ map now ps)
          c.in-Some-split_first-2.ensures.cases.0;
      end = sym c.has_more.ensures ∙ c.if-has_more.false;
      notes = c.in-Some-asked.notes.now;
      seconds = c.in-Some-asked.seconds;
      asks = c.in-Some-asked.ensures;
      answers = answers;
    }) c.answer_next.ensures
