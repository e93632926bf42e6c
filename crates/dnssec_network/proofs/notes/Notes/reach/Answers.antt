-- What is noted of all servers is true, if the facts are.
use Rattle.std.proofs.Common.{◌≡◌, rules}
use Rattle.dnssec_run.specs.Safe.{kind_of}
use Rattle.dnssec_network.specs.{Facts.news_of, Facts.ttl_before, Reach.reach_of, Spread.known}
use Rattle.dnssec_network.specs.declared.spread.Reach.TheVariants.{Everywhere}
use Rattle.dnssec_network.proofs.Reached.{all-give}
use Rattle.dnssec_network.proofs.notes.Notes.reach.Goals as goal

pub returns-clause-is_true : goal.returns-clause-is_true
returns-clause-is_true c e network time are back =
    let a = c.args in
    let is : reach_of a.base (known a.base (ttl_before a.self.now.before (kind_of a.kind))
    (news_of (kind_of a.kind) a.self.now.facts)) a.now ≡ Everywhere = search rules in
    all-give a.self.now.before a.self.now.facts network time are (kind_of a.kind) a.base a.now is
    back
