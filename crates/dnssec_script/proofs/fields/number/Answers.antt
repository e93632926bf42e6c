-- Digits that write more than 64 bits hold are no number.
use Rattle.std.proofs.Common.{◌<◌, arith, length, rules}
use Rattle.dnssec_script.proofs.Digits.{too_great}
use Rattle.dnssec_script.proofs.fields.number.Goals as goal

pub returns-in_err-checked_mul-clause-read : goal.returns-in_err-checked_mul-clause-read
returns-in_err-checked_mul-clause-read c =
    let at = c.loop-digit in
    let within : at.digit-index < length c.args.text.now = search rules in
    rw (too_great c.args.most c.args.text.now at.digit-index within
    (omega (arith, at.invariant.1, c.ranges.most.fits, c.in_err-checked_mul.ensures)))
    c.from_residual.ensures

pub returns-in_err-number-clause-read : goal.returns-in_err-number-clause-read
returns-in_err-number-clause-read c =
    let at = c.loop-digit in
    let within : at.digit-index < length c.args.text.now = search rules in
    rw (too_great c.args.most c.args.text.now at.digit-index within
    (omega (
      arith,
      at.invariant.1,
      c.ranges.most.fits,
      c.in_ok-checked_mul.ensures,
      c.from.ensures,
      c.in_err-number.ensures,
    )))
    c.from_residual-in_err-number.ensures
