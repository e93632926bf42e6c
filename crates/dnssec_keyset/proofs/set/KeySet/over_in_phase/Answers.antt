-- A wait that is due has an end, and a roll without one has no wait.
use Rattle.std.proofs.Common.{Some, sym, ◌∙◌, ap, refl, rules}
use Rattle.dnssec_key.specs.declared.roll.Half.TheVariants.{First, Second}
use Rattle.dnssec_keyset.proofs.Replies.{no-end, no-wait-phase}
use Rattle.dnssec_keyset.proofs.set.KeySet.over_in_phase.Goals as goal

pub returns-in-Some-CacheExpire1-clause-none : goal.returns-in-Some-CacheExpire1-clause-none
returns-in-Some-CacheExpire1-clause-none c =
    no-end _ c.self.inside _ c.self.view_is First c.in-Some-CacheExpire1.ttl
    (sym c.in-Some-CacheExpire1.ensures ∙ ap Some c.in-Some-CacheExpire1.field-0-is)
    c.over_from.result (rw (← c.self.view_is) c.over_from.ensures.missing)

pub returns-in-Some-CacheExpire2-clause-none : goal.returns-in-Some-CacheExpire2-clause-none
returns-in-Some-CacheExpire2-clause-none c =
    no-end _ c.self.inside _ c.self.view_is Second c.in-Some-CacheExpire2.ttl
    (sym c.in-Some-CacheExpire2.ensures ∙ ap Some c.in-Some-CacheExpire2.field-0-is)
    c.over_from-in-Some-CacheExpire2.result
    (rw (← c.self.view_is) c.over_from-in-Some-CacheExpire2.ensures.missing)

pub returns-in-Some-Propagation1-clause-none : goal.returns-in-Some-Propagation1-clause-none
returns-in-Some-Propagation1-clause-none c =
    no-wait-phase _ c.self.inside _ c.self.view_is _
    (sym c.in-Some-Propagation1.ensures ∙ ap Some c.in-Some-Propagation1.field-0-is) refl refl

pub returns-in-Some-Propagation2-clause-none : goal.returns-in-Some-Propagation2-clause-none
returns-in-Some-Propagation2-clause-none c =
    no-wait-phase _ c.self.inside _ c.self.view_is _
    (sym c.in-Some-Propagation2.ensures ∙ ap Some c.in-Some-Propagation2.field-0-is) refl refl

pub returns-in-Some-Done-clause-none : goal.returns-in-Some-Done-clause-none
returns-in-Some-Done-clause-none c =
    no-wait-phase _ c.self.inside _ c.self.view_is _
    (sym c.in-Some-Done.ensures ∙ ap Some c.in-Some-Done.field-0-is) refl refl

pub returns-in-None-clause-none : goal.returns-in-None-clause-none
returns-in-None-clause-none c =
    no-wait-phase _ c.self.inside _ c.self.view_is _ (sym c.in-None.ensures) refl refl

pub returns-in-Some-CacheExpire2-clause-end : goal.returns-in-Some-CacheExpire2-clause-end
returns-in-Some-CacheExpire2-clause-end c = search rules
