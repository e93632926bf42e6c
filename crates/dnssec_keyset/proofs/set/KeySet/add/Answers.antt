-- What was listed stays, and a key with another tag comes in.
use Rattle.std.proofs.Common.{string_bytes}
use Rattle.dnssec_keyset.specs.contracts.set.KeySet.{the_view}
use Rattle.dnssec_keyset.proofs.{Listing.added, Allowed.add-step}
use Rattle.dnssec_keyset.proofs.set.KeySet.add.Goals as goal

pub invariant_of-self : goal.invariant_of-self
invariant_of-self c = (added c.self.invariant _ (string_bytes c.args.pubref) c.args.key
    c.add.result c.add.ensures.reply c.add.ensures.ok c.add.ensures.err).0

pub returns : goal.returns
returns c = rw (← c.self.view_is) (add-step (the_view c.self.inside) c.add.new.self _
    (string_bytes c.args.pubref) c.args.key c.add.result
    (added c.self.invariant _ (string_bytes c.args.pubref) c.args.key c.add.result
    c.add.ensures.reply c.add.ensures.ok c.add.ensures.err).1
    c.add.ensures.reply c.add.ensures.ok c.add.ensures.err)
