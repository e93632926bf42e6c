-- The listing at the key's place is set.
use Rattle.std.proofs.Common.{◌∙◌, ap, subst, sym, ◌≡◌}
use Rattle.dnssec_run.specs.Adds.{IsAt, changed_by, change_to, set_listing, set_shown}
use Rattle.dnssec_run.proofs.OneKey.{listing-at, set-ascending, set-found}
use Rattle.dnssec_run.proofs.adds.set_in.Goals as goal

place : (c : goal.After-keys-1)
    → IsAt c.args.keys.now.items c.in-Some.place c.args.reference.now
place c = subst (λ keys. IsAt keys c.in-Some.place c.args.reference.now) c.deref.ensures.value
    c.in-Some.ensures.some

now : (c : goal.After-keys-1)
    → c.show.new.self ≡ set_listing c.args.touched c.args.is c.index_mut.result.now.listing
now c = c.show.ensures.now
    ∙ ap (λ lists. set_shown lists c.index_mut.result.now.listing) c.choose-shown.ensures

pub returns-clause-ascending : goal.returns-clause-ascending
returns-clause-ascending c = set-ascending c.args.reference.now
    (set_listing c.args.touched c.args.is) c.args.keys.now.items c.in-Some.place
    c.index_mut.result.now c.show.new.self (place c) c.index_mut.ensures.value (now c) c.requires

pub returns-clause-change : goal.returns-clause-change
returns-clause-change c =
    let known = listing-at c.args.reference.now
    (set_listing c.args.touched c.args.is) c.args.keys.now.items c.in-Some.place
    c.index_mut.result.now c.show.new.self (place c) c.index_mut.ensures.value (now c) c.requires in
    c.show.ensures.change
    ∙ ap (λ lists. change_to lists c.index_mut.result.now.listing) c.choose-shown.ensures
    ∙ ap (changed_by c.args.touched c.args.is) (sym known)

pub returns-clause-set : goal.returns-clause-set
returns-clause-set c = set-found c.args.reference.now
    (set_listing c.args.touched c.args.is) c.args.keys.now.items c.in-Some.place
    c.index_mut.result.now c.show.new.self (place c) c.index_mut.ensures.value (now c) c.requires
