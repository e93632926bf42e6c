-- The notes take the line, or say why not.
use Rattle.std.proofs.Common.{[], refl, subst, sym, ◌++◌, ◌∷◌}
use Rattle.dnssec_network.specs.Text.Reading.{HasTaken, IsTakeFault}
use Rattle.keyset_c.specs.Sessions.{AreOf, RefusesBy}
use Rattle.keyset_c.proofs.sessions.note.Goals as goal

pub returns-in-Ok-clause-noted : goal.returns-in-Ok-clause-noted
returns-in-Ok-clause-noted c = λ taken. record {
  session = refl;
  answer = refl;
  moments = refl;
  takes = λ lines notes entries stands are was.
      let at = subst (λ o. AreOf o entries) c.in-Some.is are in
      subst (λ m. HasTaken m (notes ++ c.args.line.now ∷ []) c.take_line.new.self) at
      (c.in-Ok.ensures.ok notes
      (subst (λ m. HasTaken m notes c.args.kept.now.notes) (sym at) was));
}

pub returns-in-Err-clause-refused : goal.returns-in-Err-clause-refused
returns-in-Err-clause-refused c = λ other.
    let kept = c.args.kept.now in let line = c.args.line.now in
    subst (λ o. RefusesBy o kept line c.refused.result) (sym c.in-Some.is) (record {
      fault = c.in-Err.fault;
      says = c.refused.ensures.rule;
      is_fault = λ name calls entries stands are.
          subst (λ m. IsTakeFault m kept.notes line c.in-Err.fault)
          (subst (λ o. AreOf o entries) c.in-Some.is are) c.in-Err.ensures.err;
    })

pub returns-in_default-clause-refused : goal.returns-in_default-clause-refused
returns-in_default-clause-refused c = λ other.
    subst (λ o. RefusesBy o c.args.kept.now c.args.line.now 14) (sym c.in_default.is) refl
