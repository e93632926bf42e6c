-- An index that is made of the keys agrees with them.
use Rattle.std.proofs.Common.{refl}
use Rattle.dnssec_zone.proofs.derived.Derived.index_many.Goals as goal

pub returns-in_ok-self-clause-agree : goal.returns-in_ok-self-clause-agree
returns-in_ok-self-clause-agree c = λ old.
    record { says = λ t. rw (c.in_ok-self.ensures.ok t) refl; apart = old.apart }
