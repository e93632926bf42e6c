-- Some key is left over, or none.
use Rattle.std.proofs.Common.{◌∙◌, ap, sym, Bool, Option, None, Some}
use Rattle.std.specs.Prelude.{if◌then◌else◌}
use Rattle.dnssec_policy.specs.declared.why.Why.{Why, TheVariants.OldKeyInUse}
use Rattle.dnssec_policy.{specs.Keys.is_left_over, proofs.Loops.some-lent}
use Rattle.dnssec_policy.proofs.unmet.keys_why.Goals as goal

abbrev old_key : Bool → Option Why
old_key b = if b then Some OldKeyInUse else None

pub returns-then-some_left_over : goal.returns-then-some_left_over
returns-then-some_left_over c end same =
    let set = c.args.state.now.keyset.now in
    sym (ap old_key (some-lent (is_left_over set.rolls) set.keys c.args.keys.now same
    ∙ sym c.some_left_over.ensures ∙ c.if-some_left_over.true))

pub returns-else-some_left_over : goal.returns-else-some_left_over
returns-else-some_left_over c end same =
    let set = c.args.state.now.keyset.now in
    sym (ap old_key (some-lent (is_left_over set.rolls) set.keys c.args.keys.now same
    ∙ sym c.some_left_over.ensures ∙ c.if-some_left_over.false))
