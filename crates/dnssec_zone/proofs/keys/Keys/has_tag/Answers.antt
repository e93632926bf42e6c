-- Without an index each key is asked.
use Rattle.std.{proofs.Common.sym, proofs.Common.rules, proofs.Common.◌∙◌, specs.Prelude.nat_eq}
use Rattle.dnssec_zone.proofs.Walks.{some_key-shown}
use Rattle.dnssec_zone.proofs.keys.Keys.has_tag.Goals as goal

pub returns-in-None : goal.returns-in-None
returns-in-None c = rw (← c.self.view_is) (c.some_has_tag.ensures.some
    ∙ sym (some_key-shown (λ k. nat_eq k.key_tag c.args.key_tag) c.self.inside.map
    c.some_has_tag.ensures.unique))

pub returns-in-Some : goal.returns-in-Some
returns-in-Some c = search rules
