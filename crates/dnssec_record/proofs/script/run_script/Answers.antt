-- What is taken after each fault, that a script is never called malformed, and what a plain list
-- ends with.
use Rattle.std.proofs.Common.{◌∙◌, inr, subst, sym}
use Rattle.std.proofs.lemmas.Result.{err_from_is_err_and}
use Rattle.dnssec_record.{specs.Answer.IsAnswerOf, proofs.Answering.of_input}
use Rattle.dnssec_record.proofs.{Answering.never_fault, Ending.last-line-safe, Ending.stays-safe}
use Rattle.dnssec_record.proofs.script.run_script.Goals as goal

pub returns-in_err-text-clause-well_formed : goal.returns-in_err-text-clause-well_formed
returns-in_err-text-clause-well_formed g c =
    let r = c.from_residual-in_err-text.result in
    let p = err_from_is_err_and r c.from_residual-in_err-text.ensures.1 in
    of_input _ _ c.deref.result.now _ c.in_ok-script.ensures.whole c.deref.ensures.value
    (λ name calls is n same.
    let returned = p.1 in
    let passed = p.2 in
    never_fault c.deref.result.now _ c.in_err-text.ensures.err name calls is n (cc))

pub returns-in_err-write_all-clause-begun : goal.returns-in_err-write_all-clause-begun
returns-in_err-write_all-clause-begun g c =
    let r = c.from_residual-in_err-write_all.result in
    let p = err_from_is_err_and r c.from_residual-in_err-write_all.ensures.1 in
    let same = c.as_bytes.ensures.value ∙ c.as_str.ensures.value in
    let taken = c.in_err-write_all.ensures.err in
    rw p.1 (inr (of_input _ _ c.deref.result.now _ c.in_ok-script.ensures.whole
    c.deref.ensures.value (
      taken.0,
      taken.1,
      subst (IsAnswerOf c.deref.result.now) (sym same ∙ taken.2) c.in_ok-text.ensures.ok,
      taken.3,
    )))

pub returns-clause-safe : goal.returns-clause-safe
returns-clause-safe g c = stays-safe _ _ _

pub returns-clause-chain : goal.returns-clause-chain
returns-clause-chain g c = last-line-safe _ _ _
