-- One change more.
use Rattle.dnssec_judge.proofs.Base.{ℕ, ◌+◌, ◌<◌, ◌∙◌, ◌∷◌, ◌≡◌, add_at, ap, AreNumbered, at_list}
use Rattle.dnssec_judge.proofs.Base.{Change, Contains, drafted, drop, drop_more, get_or, has_after}
use Rattle.dnssec_judge.proofs.Base.{has_bit, if◌then◌else◌, IsTable, length, List, nat_eq, Shown}
use Rattle.dnssec_judge.proofs.Base.{subst, sym, true}
use Rattle.dnssec_judge.specs.Bits.{rest_in}
use Rattle.dnssec_judge.proofs.Adds.{moved-bit, moves-as}
use Rattle.dnssec_judge.specs.declared.sets.held.{Bits.Bits, BitsDraft.BitsDraft}
use Rattle.dnssec_judge.specs.declared.sets.adds.Table.{Table}
use Rattle.dnssec_run.specs.Changes.{moves}
use Rattle.std.proofs.lemmas.List.Elements.{Contains-get_or}
use Rattle.dnssec_judge.proofs.sets.held.Bits.changed.Goals as goal

-- a key moves, and its bit is written
module _ (base : Bits) (old new : BitsDraft) (list : Shown) (changes : List Change) (i : ℕ)
    (change : Change) (numbers : Table) (t : IsTable numbers)
    (numbered : AreNumbered numbers changes) (lt : i < length changes)
    (is : change ≡ get_or changes i change) (number n : ℕ) where
  pub goes-on : add_at numbers number ≡ change.added → moves list change ≡ true
      → has_bit (drafted base new) n ≡ (if nat_eq number n then at_list change.shown list
      else has_bit (drafted base old) n)
      → has_after list (drop (i + 1) changes) (add_at numbers n) (has_bit (drafted base new) n)
      ≡ has_after list (drop i changes) (add_at numbers n) (has_bit (drafted base old) n)
  goes-on at moved here =
      let next : drop i changes ≡ change ∷ drop (i + 1) changes = drop_more changes i change lt
      ∙ ap (λ (m : Change). m ∷ drop (i + 1) changes) (sym is) in
      let counts = (numbered change (subst (Contains changes) (sym is)
      (Contains-get_or changes i change lt))).0 in
      ap (has_after list (drop (i + 1) changes) (add_at numbers n)) (moved-bit numbers t list change
      number n (has_bit (drafted base old) n) (has_bit (drafted base new) n) counts at moved here)
      ∙ sym (ap (λ cs. has_after list cs (add_at numbers n) (has_bit (drafted base old) n)) next)

pub loop-change-preserved : goal.loop-change-preserved
loop-change-preserved c t numbered n =
    let moved = moves-as _ _ c.in-Some.comes (sym c.moves.ensures ∙ c.in-Some.is) in
    let draft = c.loop-change.draft in let base = c.args.self.now in
    goes-on base draft (record draft { first = c.put.result }) c.args.list c.args.changes.now
    c.loop-change.change-index c.change-item.result c.args.numbers.now t numbered
    c.loop-change-test.true c.change-item.is c.in-Some-find.number n c.in-Some-find.ensures.some
    moved.0 (rw (moved.1) (c.put.ensures n (rest_in draft.rest base)))
    ∙ c.loop-change.invariant t numbered n

pub loop-change-preserved-then-number-ge-WORD : goal.loop-change-preserved-then-number-ge-WORD
loop-change-preserved-then-number-ge-WORD c t numbered n =
    let moved = moves-as _ _ c.in-Some.comes (sym c.moves.ensures ∙ c.in-Some.is) in
    goes-on c.args.self.now c.loop-change.draft c.put_far.new.self c.args.list c.args.changes.now
    c.loop-change.change-index c.change-item.result c.args.numbers.now t numbered
    c.loop-change-test.true c.change-item.is c.in-Some-find.number n c.in-Some-find.ensures.some
    moved.0 (rw (moved.1) (c.in_ok-put_far.ensures n)) ∙ c.loop-change.invariant t numbered n
