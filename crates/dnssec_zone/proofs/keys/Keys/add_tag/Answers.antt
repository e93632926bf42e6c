-- The tag of a key comes into the set with it.
use Rattle.std.proofs.Common.{◌≡◌, None, Some, rules}
use Rattle.std.specs.FinMap.{get}
use Rattle.dnssec_zone.proofs.Marks.{listed-none, listed-put}
use Rattle.dnssec_zone.proofs.keys.Keys.add_tag.Goals as goal

pub returns-in_default-clause-listed : goal.returns-in_default-clause-listed
returns-in_default-clause-listed c =
    let none : get c.args.self.now c.args.reference.now ≡ None = search rules in
    listed-none c.args.self.now c.args.tags.now c.args.reference.now none

pub returns-in-Some-clause-listed : goal.returns-in-Some-clause-listed
returns-in-Some-clause-listed c =
    let found : get c.args.self.now c.args.reference.now ≡ Some c.in-Some.key.now = search rules in
    listed-put c.args.self.now c.as_map.ensures.apart c.args.tags.now _ c.args.reference.now
    c.in-Some.key.now found (λ t. search rules)
