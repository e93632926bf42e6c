-- The listing that the tree lends is set.
use Rattle.std.proofs.Common.{◌∙◌, Some, ap, cond, rules, sym}
use Rattle.std.proofs.lemmas.Map.Text.{btree_map_updates_text}
use Rattle.std.specs.{BTreeMap.get_by_text, Str.bytes_eq}
use Rattle.dnssec_run.specs.Adds.{set_listing, set_shown}
use Rattle.dnssec_run.specs.declared.lists.KeyListing.{KeyListing}
use Rattle.dnssec_run.proofs.OneKey.{sets-some}
use Rattle.dnssec_run.proofs.many.set_in_tree.Goals as goal

pub returns-clause-set : goal.returns-clause-set
returns-clause-set c q =
    let r = c.args.reference.now in
    let old = c.args.tree.now in
    let was = c.in-Some.listing.now in
    let f : KeyListing → KeyListing = set_listing c.args.touched c.args.is in
    let now = c.show.ensures.now
    ∙ ap (λ lists. set_shown lists was) c.choose-shown.ensures in
    btree_map_updates_text r old (c.get_mut.follows.lender c.show.new.self) (Some c.show.new.self)
    ((c.get_mut.follows.holds c.show.new.self).3 (search rules)) q
    ∙ ap (λ n. cond (bytes_eq r q) (Some n) (get_by_text old q)) now
    ∙ sets-some r f was (get_by_text old) q (sym c.in-Some.ensures.value)
