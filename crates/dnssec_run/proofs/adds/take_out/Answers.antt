-- The key is gone, or wasn't there, and all others are as before.
use Rattle.std.proofs.Common.{rules, subst}
use Rattle.std.proofs.lemmas.Fn.{always_returns_same}
use Rattle.dnssec_run.proofs.OneKey.{IsFound, IsMissed, leaves-gap, stands, takes-ascending}
use Rattle.dnssec_run.proofs.OneKey.{takes-key}
use Rattle.dnssec_run.proofs.adds.take_out.Goals as goal

found : (c : goal.After-drop-remove) → IsFound c.args.reference.now c.args.keys.now.items
    c.in-Ok.place
found c = subst (λ keys. IsFound c.args.reference.now keys c.in-Ok.place) c.deref.ensures.value (
  c.in-Ok.ensures.bound,
  c.in-Ok.ensures.position (stands c.args.reference.now)
      (always_returns_same _ _ _ (λ a r f k. (search rules, search rules))),
)

pub returns-in-Ok-clause-ascending : goal.returns-in-Ok-clause-ascending
returns-in-Ok-clause-ascending c = takes-ascending c.args.reference.now _ _ c.in-Ok.place (found c)
    c.remove.ensures.items c.requires

pub returns-in-Ok-clause-taken : goal.returns-in-Ok-clause-taken
returns-in-Ok-clause-taken c = takes-key c.args.reference.now _ _ c.in-Ok.place (found c)
    c.remove.ensures.items c.requires

pub returns-in_default-clause-taken : goal.returns-in_default-clause-taken
returns-in_default-clause-taken c =
    let q = c.args.reference.now in
    let missed = subst (λ keys. IsMissed q keys c.in_default.field-0) c.deref.ensures.value (
      c.in_default.ensures.bound,
      c.in_default.ensures.position (stands q)
          (always_returns_same _ _ _ (λ a r f k. (search rules, search rules))),
    ) in
    leaves-gap q _ c.in_default.field-0 missed c.requires
