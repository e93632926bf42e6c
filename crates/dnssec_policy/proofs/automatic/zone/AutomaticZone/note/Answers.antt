-- What is true with one fact more was true without it.
use Rattle.std.proofs.{Common.refl, lemmas.Result.on_ok_weaker}
use Rattle.dnssec_policy.proofs.Zone.Grown.{one-noted}
use Rattle.dnssec_policy.proofs.automatic.zone.AutomaticZone.note.Goals as goal

pub returns-clause-noted : goal.returns-clause-noted
returns-clause-noted c = on_ok_weaker c.note.result (λ has. has.notes) c.note.ensures.ok

pub returns-clause-ok : goal.returns-clause-ok
returns-clause-ok c = on_ok_weaker c.note.result
    (λ has name calls entries asked so.
    one-noted name calls entries asked _ c.args.self.now _ so refl refl has.notes has.highest)
    c.note.ensures.ok
