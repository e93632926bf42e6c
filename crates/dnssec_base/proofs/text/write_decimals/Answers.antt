-- Each turn writes one more decimal of what is left.
use Rattle.std.proofs.Common.{rules, ◌≡◌, ◌+◌, ◌/◌, [], ◌∷◌, ◌++◌, refl, sym, ap, ◌∙◌, arith}
use Rattle.std.proofs.Common.{append_assoc, codes}
use Rattle.std.proofs.Output.{has_written_append, has_written_of_eq}
use Rattle.std.proofs.lemmas.{Bool.ne_eqb, Fmt.decimal_digit}
use Rattle.dnssec_base.proofs.Decimals.{turn, place_left, nanos-in_table, all_decimals}
use Rattle.dnssec_base.specs.ErrorTexts.{in_table, decimals_text}
use Rattle.dnssec_base.proofs.text.write_decimals.Goals as goal

pub decimals-init : goal.decimals-init
decimals-init g c = (
  (in_table c.args.unit).places,
  c.nanos-place.ensures ∙ nanos-in_table c.args.unit,
  rw c.nanos-place.ensures c.requires,
  [],
  refl,
  search rules,
)

pub nonzero_div-digit : goal.nonzero_div-digit
nonzero_div-digit g c =
    let (k, place, small, _, _, _) = c.decimals.invariant in
    place_left k c.decimals.place place (omega arith)

pub nonzero_rem-rest : goal.nonzero_rem-rest
nonzero_rem-rest g c =
    let (k, place, small, _, _, _) = c.decimals.invariant in
    place_left k c.decimals.place place (omega arith)

pub decimals-preserved : goal.decimals-preserved
decimals-preserved g c =
    let (k, place, small, done, whole, wrote) = c.decimals.invariant in
    let step = turn k c.decimals.place c.decimals.rest place (omega arith) small in (
      step.next,
      step.place_is,
      step.left,
      done ++ (48 + c.decimals.rest / (c.decimals.place / 10)) ∷ [],
      append_assoc done _ _ ∙ ap (λ t. done ++ t) (sym step.text) ∙ whole,
      λ plain. has_written_of_eq _ _ _ _ _ (ap (λ t. done ++ t) (decimal_digit _ step.digit))
          (has_written_append _ _ _ _ _ _ (wrote plain) (search rules)),
    )

pub returns : goal.returns
returns g c plain ok =
    let (k, place, small, done, whole, wrote) = c.decimals.invariant in
    let none : c.decimals.rest ≡ 0 = omega arith in
    let dot = c.in_ok-write_str.ensures.writes plain ok in
    let decimals = all_decimals k c.decimals.rest done _ none whole in
    let text : codes "." ++ done ≡ decimals_text (in_table c.args.unit) c.args.rest =
    rw (ne_eqb _ _ c.if-rest-eq0.false) (ap (λ t. codes "." ++ t) decimals) in
    has_written_of_eq _ _ _ _ _ text (has_written_append _ _ _ _ _ _ dot (wrote dot.plain))
