-- No two keys of a run were added at one position: for callers of `Recorder`.
use Rattle.std.proofs.Common.{◌≡◌, ◌≤◌, ◌<◌, ℕ, zero, suc, true, List, [], Some}
use Rattle.std.proofs.Common.{refl, sym, ap, ◌∙◌, subst, arith, inl, inr, length}
use Rattle.std.specs.Prelude.{slice_get}
use Rattle.std.specs.Option.{option_map_or}
use Rattle.std.specs.{Cmp.Lexicographic.bytes_decides, Cmp.Lexicographic.slice_cmp, List.Contains}
use Rattle.std.specs.{FinMap.get, FinMap.get-empty, Ordering.nat_cmp}
use Rattle.std.proofs.lemmas.Bool.{cases_lt, true≢false}
use Rattle.std.proofs.lemmas.Option.{none-some, same_Some, slice_get_cases}
use Rattle.dnssec_key.specs.Key.{KeyParts}
use Rattle.dnssec_keyset.specs.KeySet.{KeySetParts}
use Rattle.dnssec_run.specs.declared.{call.Call.Call, record.Entry.Entry, lists.Shown.Shown}
use Rattle.dnssec_run.specs.{Changes.TellsApart, Changes.add_of, Changes.list_at, Lists.shows}
use Rattle.dnssec_run.specs.Published.{Id, World, keys_where}
use Rattle.dnssec_run.specs.Record.{IsRun, call_of, world_at}
use Rattle.dnssec_run.specs.Safe.{blank, position_at, position_of}
use Rattle.dnssec_run.proofs.Asked.Changes.{blank-list, list-is}
use Rattle.dnssec_run.proofs.{Chain.Shown.found_in, Laws.made-at}
use Rattle.dnssec_run.proofs.Effects.{added-at, adds, came, not-added}
use Rattle.dnssec_run.proofs.Moved.{AreApart, some-shown, there}
use Rattle.dnssec_run.proofs.Positions.{shown-ascending, shown-found}
use Rattle.dnssec_run.proofs.WholeRolls.Replies.{added-next, outcome}
use Rattle.dnssec_keyset.specs.Step as keyset

-- one call adds one key
one-key : (c : keyset.Call) (q r : List ℕ) → adds c q ≡ true → adds c r ≡ true → q ≡ r
one-key (keyset.AddKey x k) q r a b = sym ((bytes_decides x q).0 a) ∙ (bytes_decides x r).0 b
one-key _ q r a b = absurd (true≢false (sym a))

module _ {name : List ℕ} {calls : List Call} {entries : List Entry}
    (run : IsRun name calls entries) where
  abbrev at : ℕ → World
  at n = world_at name calls entries n

  -- the call that added a key
  abbrev AddedBy : ℕ → List ℕ → Type 0
  AddedBy n q = (i : ℕ) × (c : Call) × ((at n).added q ≡ suc i) × (slice_get calls i ≡ Some c)
      × (adds (call_of c) q ≡ true)

  added-by : (n : ℕ) → n ≤ length entries → (q : List ℕ) (k : KeyParts)
      → get (at n).set.keys q ≡ Some k → AddedBy n q
  unfolding world_at
  added-by zero le q k is = absurd (none-some k (sym (get-empty (slice_cmp nat_cmp) q) ∙ is))
  added-by (suc n) le q k is =
      let x = made-at run n le in
      let before = added-by n (omega (arith, le)) q in
      elim (outcome run n x.0 x.1 x.2 x.3) [
        | inl y ↦
            let old = before k (ap (λ (s : KeySetParts). get s.keys q) (sym y.1) ∙ is) in
            (old.0, old.1, rw (added-next run n x.0 x.1 x.2 x.3, y.0) old.2, old.3, old.4)
        | inr d ↦ elim (came (at n).set (at (suc n)).set (call_of x.0) d.2 q k is) [
          | inl new ↦ (
            n,
            x.0,
            rw (added-next run n x.0 x.1 x.2 x.3, d.0, added-at, new.0) refl,
            x.2,
            new.0,
          )
          | inr was ↦
              let old = before was.0 was.1 in
              let none = not-added (at n).set (call_of x.0) d.1 q was.0 was.1 in (
                old.0,
                old.1,
                rw (added-next run n x.0 x.1 x.2 x.3, d.0, added-at, none) old.2,
                old.3,
                old.4,
              )
        ]
      ]

  pub worlds-apart : (m n : ℕ) → m ≤ length entries → n ≤ length entries → AreApart (at m) (at n)
  worlds-apart m n lm ln q r j k is_q is_r same =
      let a = added-by m lm q j is_q in
      let b = added-by n ln r k is_r in
      let i : a.0 ≡ b.0 = omega (arith, a.2, b.2, same) in
      let c : a.1 ≡ b.1 = same_Some _ _ (sym a.3 ∙ ap (slice_get calls) i ∙ b.3) in
      one-key (call_of b.1) q r (subst (λ c. adds (call_of c) q ≡ true) c a.4) b.4

  -- what a list has is a key that was added
  in-list : (s : Shown) (n : ℕ) (id : Id) → Contains (list_at s (position_at entries n)) id
      → (n ≤ length entries) × (k : KeyParts) × (get (at n).set.keys id.0 ≡ Some k)
      × ((at n).added id.0 ≡ id.1)
  unfolding position_at
  in-list s n id c = elim (cases_lt (length entries) n) [
    | inl past ↦ absurd (nothing n past c)
    | inr within ↦
        let le : n ≤ length entries = omega (arith, within) in
        let c = subst (λ l. Contains l id) (list-is run s n le) c in
        let x = some-shown (shows s) (get (at n).set.keys id.0) ((at n).added id.0) id.1
        (sym (shown-found (shows s) (at n) id.0)
        ∙ found_in (keys_where (shows s) (at n)) (shown-ascending (shows s) (at n)) id c) in
        let k = there (shows s) (get (at n).set.keys id.0) x.0 in
        (le, k.0, k.1, x.1)
  ]
    where
      nothing : (n : ℕ) → length entries < n → Contains (list_at s (position_at entries n)) id → ⊥
      nothing zero past c = absurd (omega (arith, past))
      nothing (suc i) past c = elim ((slice_get_cases entries i).1) [
        | inl e ↦ absurd (omega (arith, e.1, past))
        | inr e ↦
            let none : list_at s (position_at entries (suc i)) ≡ [] =
            ap (λ o. list_at s (option_map_or position_of o blank)) e.1 ∙ blank-list s in
            let c = subst (λ l. Contains l id) none c in
            absurd (omega (arith, c.1))
      ]

  pub adds-apart : TellsApart add_of entries
  adds-apart list other m n a b in_a in_b same =
      let x = in-list list m a in_a in
      let y = in-list other n b in_b in
      let q = worlds-apart m n x.0 y.0 a.0 b.0 x.1 y.1 x.2 y.2 (x.3 ∙ same ∙ sym y.3) in
      λ i. (q i, same i)
