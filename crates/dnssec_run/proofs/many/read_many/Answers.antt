-- The next listing is put in; and in the end each key has what its flags say.
use Rattle.std.proofs.Common.{◌≡◌, ◌∙◌, ◌++◌, Some, append-nil, ap, cond, map, rules, sym}
use Rattle.std.proofs.Common.{List, ℕ}
use Rattle.std.proofs.lemmas.List.{drop_all}
use Rattle.std.proofs.lemmas.Map.Text.{btree_map_updates_text}
use Rattle.std.specs.{BTreeMap.get_by_text, Option.option_map, Str.bytes_eq}
use Rattle.std.specs.HashMap as hash
use Rattle.dnssec_run.specs.Adds.{by_text, reread}
use Rattle.dnssec_run.specs.Lists.{lists_of}
use Rattle.dnssec_run.specs.declared.lists.KeyListing.{KeyListing}
use Rattle.dnssec_run.proofs.Moves.{all-moved, move_lent, moved_to, moves-next, moves_of}
use Rattle.dnssec_run.proofs.OneKey.{sets-none, sets-some}
use Rattle.dnssec_run.proofs.Trees.{ascending-by_text, find-by_text}
use Rattle.dnssec_run.proofs.many.read_many.Goals as goal
use Rattle.dnssec_run.proofs.many.read_many.Goals.{in-Some-get_mut, in_default-get_mut}

pub loop-reference-2-preserved : goal.loop-reference-2-preserved
loop-reference-2-preserved c q =
    let item = c.loop-reference-2-item.result in
    let r = c.as_str.result.now in
    let old = c.loop-reference-2.tree in
    let f : KeyListing → KeyListing = reread (Some item.1.now) in
    let put : get_by_text c.match-get_mut.tree q
    ≡ cond (bytes_eq r q) (option_map f (get_by_text old q)) (get_by_text old q) =
    elim c.match-get_mut.branch [
      | in-Some-get_mut w ↦
          let shown : w.showing-listing.result ≡ lists_of item.1.now.keytype = search rules in
          rw (w.tree-is, shown)
          (btree_map_updates_text r old (c.get_mut.follows.lender (f w.in-Some-get_mut.listing.now))
          (Some (f w.in-Some-get_mut.listing.now))
          ((c.get_mut.follows.holds (f w.in-Some-get_mut.listing.now)).3 (search rules)) q
          ∙ sets-some r f w.in-Some-get_mut.listing.now (get_by_text old) q
          (sym w.in-Some-get_mut.ensures.value))
      | in_default-get_mut w ↦
          let same : c.get_mut.follows.lender-at-none ≡ old = search rules in
          rw (w.tree-is, same)
          (sets-none r f (get_by_text old) (sym w.in_default-get_mut.ensures.value) q)
    ] in
    moves-next c.deref-reference-items.result.now c.loop-reference-2.reference-index item
    c.loop-reference-2-test.true (sym c.loop-reference-2-item.is) q (get_by_text old q) _
    (put ∙ ap (λ (r : List ℕ). cond (bytes_eq r q) (option_map f (get_by_text old q))
    (get_by_text old q)) c.as_str.ensures.value)
    ∙ c.loop-reference-2.invariant q

pub returns-clause-read : goal.returns-clause-read
returns-clause-read c q =
    let key = hash.get_by_text c.args.keys.now in
    let tree = c.args.tree.now in
    let items = c.deref-reference-items.result.now in
    let all : map move_lent items ≡ moves_of key (by_text tree.entries) =
    ap (map move_lent) c.deref-reference-items.ensures.value ∙ sym (append-nil _)
    ∙ ap (λ es. map move_lent c.loop-reference.moved.items ++ moves_of key (by_text es))
    (sym c.in-None.ensures.steps.0) ∙ c.loop-reference.invariant.moves in
    ap (λ ms. moved_to (map move_lent ms) q (get_by_text c.loop-reference-2.tree q))
    (sym (drop_all c.loop-reference-2.reference-index items c.loop-reference-2-test.false))
    ∙ c.loop-reference-2.invariant q
    ∙ ap (λ ms. moved_to ms q (get_by_text tree q)) all
    ∙ ap (moved_to (moves_of key (by_text tree.entries)) q) (sym (find-by_text tree.entries q))
    ∙ all-moved key (by_text tree.entries) q
    (ascending-by_text tree.entries c.iter-reference-items.ensures.ordered)
    ∙ ap (option_map (reread (key q))) (find-by_text tree.entries q)
