-- What is kept has been opened with the line, which names a zone.
use Rattle.std.proofs.Common.{Option, None, Some, [], ap, false, is_some, refl, subst, sym}
use Rattle.std.proofs.Common.{◌≡◌, ◌∙◌, ◌∷◌}
use Rattle.std.proofs.lemmas.Bool.{true≢false}
use Rattle.dnssec_record.specs.Session.{FaultOfZone, Stands}
use Rattle.dnssec_record.specs.declared.session.Session.{Session}
use Rattle.dnssec_script.specs.Script.{NamesZone}
use Rattle.keyset_c.specs.Handles.{kept_by}
use Rattle.keyset_c.specs.declared.open_session.OpenSession.{OpenSession}
use Rattle.keyset_c.proofs.keyset_open.Goals as goal

-- what stands after a line alone has it as its zone
named : {line : _} {session : Session} → Stands (line ∷ []) [] session → NamesZone line
named stands = (stands.name, stands.is_script.0)

is-none : {A : Type 0} (o : Option A) → is_some o ≡ false → o ≡ None
is-none None closed = refl
is-none (Some x) closed = absurd (true≢false closed)

pub put-requires : goal.put-requires
put-requires c =
    is-none (kept_by c.args.session.now) (sym c.is_open.ensures ∙ c.if-is_open.false)

pub returns-in-Ok-new-clause-opened : goal.returns-in-Ok-new-clause-opened
returns-in-Ok-new-clause-opened c = λ opened. record {
  kept = c.in-Ok-new.kept.value;
  is = c.put.ensures.kept;
  stands = rw c.in-Ok-new.ensures.ok c.in-Ok.ensures.ok;
  moments = ap (λ (k : OpenSession). k.moments) c.in-Ok-new.ensures.ok
      ∙ ap Some c.new-in-Ok.ensures;
  notes = ap (λ (k : OpenSession). k.notes) c.in-Ok-new.ensures.ok ∙ c.new-in-Ok-2.ensures;
}

pub returns-in-Ok-new-clause-unnamed : goal.returns-in-Ok-new-clause-unnamed
returns-in-Ok-new-clause-unnamed c = λ closed unnamed. absurd (unnamed (named c.in-Ok.ensures.ok))

pub returns-in-Err-Malformed-clause-malformed : goal.returns-in-Err-Malformed-clause-malformed
returns-in-Err-Malformed-clause-malformed c = λ malformed is.
    (subst (FaultOfZone c.args.line.now) c.in-Err-Malformed.field-0-is
    c.in-Err-Malformed.ensures.err).1 is.0 is.1
