-- A copy of the zone makes the call.
use Rattle.std.proofs.Common.{IfErr, Result, Err, Ok, sym, ◌∙◌}
use Rattle.dnssec_record.specs.declared.session.Session.{Session}
use Rattle.dnssec_record.proofs.Sessions.{advances, answered, decides, speaks}
use Rattle.dnssec_record.proofs.session.Session.attempt.Goals as goal

pub returns-then-not-is_accepted-clause-ok : goal.returns-then-not-is_accepted-clause-ok
returns-then-not-is_accepted-clause-ok c = λ lines entries so.
    let said = rw c.in-Some.is at c.in_ok-statement.ensures.read in
    let refused = sym c.is_accepted.ensures ∙ c.if-not-is_accepted.true in
    let made = c.in_ok-reply.ensures.0 in
    let came = made.comes so.name so.calls entries
    (c.in_ok-zone.ensures so.name so.calls entries so.stands) in
    let next : Session = record { zone = c.answer.new.self } in (
      next,
      decides (answered lines entries c.args.line.now next c.in-Some.statement _ so (sym said)
          made.call made.is_call (advances next came (λ n cs es was. was))
          c.in_ok-reply.ensures.1) refused,
    )

pub returns-clause-ok : goal.returns-clause-ok
returns-clause-ok c = λ lines entries so.
    let said = rw c.in-Some.is at c.in_ok-statement.ensures.read in
    let accepted = sym c.is_accepted.ensures ∙ c.if-not-is_accepted.false in
    let made = c.in_ok-reply.ensures.0 in
    let came = made.comes so.name so.calls entries
    (c.in_ok-zone.ensures so.name so.calls entries so.stands) in
    decides (answered lines entries c.args.line.now _ c.in-Some.statement _ so (sym said)
    made.call made.is_call (advances _ came c.fit.ensures) c.in_ok-reply.ensures.1) accepted

-- whatever the fault is
if-err : {A E : Type 0} (r : Result A E) {P : Type 0} → P → IfErr r (λ e. P)
if-err (Ok a) so = tt
if-err (Err e) so = so

pub returns-in_err-reply-clause-memory : goal.returns-in_err-reply-clause-memory
returns-in_err-reply-clause-memory c =
    if-err c.from_residual-in_err-reply.result
    (speaks c.args.line.now _ c.in-Some.statement c.in_ok-statement.ensures.read c.in-Some.is)
