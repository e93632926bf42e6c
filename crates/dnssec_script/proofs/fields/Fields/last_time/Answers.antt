-- The text that is left is one number, or else the fields are no moment.
use Rattle.std.proofs.Common.{◌≡◌, ◌∙◌, ◌∷◌, [], ap, rules, sym, Some}
use Rattle.dnssec_script.specs.Script.{Moment, fields_of}
use Rattle.dnssec_script.proofs.Digits.{only_time}
use Rattle.dnssec_script.proofs.fields.Fields.last_time.Goals as goal

pub returns-in_err-seconds : goal.returns-in_err-seconds
returns-in_err-seconds c =
    let text = c.in_ok-self.field-0.now in
    let left : c.args.self ≡ fields_of text = search rules in
    rw (left, c.from_residual-in_err-seconds.ensures)
    (sym (only_time text _ (sym (c.in_err-seconds.was) ∙ c.number.ensures.read)))

pub returns : goal.returns
returns c =
    let text = c.in_ok-self.field-0.now in
    let left : c.args.self ≡ fields_of text = search rules in
    rw left (ap (λ t. Some (Moment t ∷ [])) (c.from.ensures ∙ c.from_secs.ensures)
    ∙ sym (only_time text _ (sym (c.in_ok-seconds.was) ∙ c.number.ensures.read)))
