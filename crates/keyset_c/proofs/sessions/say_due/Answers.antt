-- What was handed out, or is too long, are the lines that are due.
use Rattle.std.proofs.Common.{Option, ap, length, string_bytes, sym, subst, ◌∙◌}
use Rattle.std.specs.{Option.option_map, declared.alloc.Global.Global}
use Rattle.std.specs.declared.string.String.{String}
use Rattle.dnssec_network.specs.Text.Due.{AnswersDue, IsDueAfter}
use Rattle.keyset_c.specs.Sessions.{AreOf}
use Rattle.keyset_c.proofs.sessions.say_due.Goals as goal

pub returns-in-Ok-Some-clause-answered : goal.returns-in-Ok-Some-clause-answered
returns-in-Ok-Some-clause-answered c = λ written lines notes entries stands are taken.
    let kept = c.args.kept.now in
    subst (IsDueAfter lines notes entries c.args.seconds)
    (sym (c.hand_out.ensures.written written ∙ c.as_bytes.ensures.value))
    (subst (λ (o : Option (String Global)).
    AnswersDue kept.session c.in-Some.moments kept.notes c.args.seconds
    (option_map string_bytes o))
    c.in-Ok-Some.field-0-is c.in-Ok-Some.ensures.text lines notes entries stands
    (subst (λ o. AreOf o entries) c.in-Some.is are) taken)

pub returns-in-Ok-Some-clause-needed : goal.returns-in-Ok-Some-clause-needed
returns-in-Ok-Some-clause-needed c = λ short. (
  string_bytes c.in-Ok-Some.text,
  (λ lines notes entries stands are taken.
      let kept = c.args.kept.now in
      subst (λ (o : Option (String Global)).
      AnswersDue kept.session c.in-Some.moments kept.notes c.args.seconds
      (option_map string_bytes o))
      c.in-Ok-Some.field-0-is c.in-Ok-Some.ensures.text lines notes entries stands
      (subst (λ o. AreOf o entries) c.in-Some.is are) taken),
  ap length (sym c.as_bytes.ensures.value) ∙ sym c.hand_out.ensures.length,
)
