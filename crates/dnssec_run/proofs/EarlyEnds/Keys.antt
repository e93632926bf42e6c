-- What a start and an early end do to the flags of one key; that both roles of a CSK are old
-- together at every position; and a roll in its first phase over one call that isn't on it: what is
-- kept of its start, and the keys that it lists.
use Rattle.std.proofs.Common.{◌≡◌, Bool, true, ◌&&◌, ◌||◌, refl, false, ℕ, inl, inr, sym, ◌∙◌}
use Rattle.std.proofs.Common.{arith, ap, subst, List, Option, None, Some, not}
use Rattle.std.proofs.lemmas.Bool.{and_parts}
use Rattle.std.proofs.{Math.Bool.and-true, Math.Bool.and-false, lemmas.Option.none-some}
use Rattle.std.specs.{Prelude.if◌then◌else◌, Option.option_map_or, Str.bytes_eq, FinMap.get}
use Rattle.std.specs.{FinMap.get-empty, Cmp.Lexicographic.slice_cmp, Ordering.nat_cmp}
use Rattle.dnssec_key.specs.declared.roll.Half.{Half}
use Rattle.dnssec_key.specs.declared.roll.Half.TheVariants.{First}
use Rattle.dnssec_key.specs.RollTable.{column, half_of}
use Rattle.dnssec_key.specs.Setters.{Setting, set_by, is_flag_setting}
use Rattle.dnssec_key.specs.declared.kind.KeyType.{KeyType, TheVariants.Csk}
use Rattle.dnssec_key.specs.{declared.roll.RollType.RollType, State.is_kept, Key.all_states}
use Rattle.dnssec_key.specs.{Key.KeyParts, declared.roll.RollState.TheVariants.Propagation1}
use Rattle.dnssec_zone.proofs.Flags.{ended, may_start, started}
use Rattle.dnssec_zone.proofs.Tests.{alike}
use Rattle.dnssec_zone.specs.Lists.{Listed, Lists, without, listed_by}
use Rattle.dnssec_zone.specs.Start.{is_listed, lists_kind, side_of}
use Rattle.dnssec_zone.specs.Rolls.{same_roll, phase_of}
use Rattle.dnssec_run.proofs.Effects.{came, deletes, end-kind, goes, is_on, key_added, moved_key}
use Rattle.dnssec_run.proofs.Effects.{phase-came, phase_put, start-kind}
use Rattle.dnssec_run.proofs.{Laws.kept-by, Premise.start_of, WholeRolls.Replies.leaves-beside}
use Rattle.dnssec_run.proofs.{WholeRolls.Replies.outcome, Chain.Lists.is_listed-filter}
use Rattle.dnssec_run.specs.declared.{call.Call.Call, record.Entry.Entry}
use Rattle.dnssec_run.specs.Record.{IsRun, call_of, world_at}
use Rattle.dnssec_run.specs.EarlyEnds.{touches}
use Rattle.dnssec_keyset.specs.Laws.{LeavesOthers, RollsTogether, roll_of}
use Rattle.dnssec_keyset.{specs.KeySet.KeySetParts, proofs.Changes.Changes, proofs.Laws.same-is}
use Rattle.dnssec_keyset.specs.Step as keyset
use Rattle.dnssec_zone.specs.Wait as waits

-- ---- both roles are old together

abbrev pub tied : KeyType → Bool
tied (Csk s t) = alike s.old t.old
tied _ = true

tied_listed : (r : RollType) (o i : Bool) (k : KeyType) → tied k ≡ true
    → (tied (started r o i k) ≡ true) × (tied (ended r o i k) ≡ true)
unfolding column
tied_listed r o i k e = grind arith

tied_waited : (r : RollType) (half : Half) (k : KeyType) → tied k ≡ true
    → tied ((half_of r half).moves k) ≡ true
unfolding column
tied_waited r half k e = grind arith

-- ---- an early end takes back what the start did

pub undone_facts : (r : RollType) (o i : Bool) (k : KeyType) → (may_start r o i k && tied k) ≡ true
    → (ended r (o && all_states is_kept k) i (started r o i k) ≡ k)
    × ((o || i) ≡ true → lists_kind (side_of r) (started r o i k) ≡ true)
unfolding column
undone_facts r o i k e = grind (arith, and_parts)

-- ---- every position

-- each key of the set
abbrev pub AllTied : KeySetParts → Type 0
AllTied set = (q : List ℕ) (k : KeyParts) → get set.keys q ≡ Some k → tied k.keytype ≡ true

tied-set : (b : Bool) (s : Setting) (k : KeyParts) → tied k.keytype ≡ true
    → tied (if b then set_by s k else k).keytype ≡ true
tied-set b s k h = grind arith

-- the key that a call adds, if any
abbrev adds_tied : keyset.Call → Bool
adds_tied c = option_map_or (λ (k : KeyParts). tied k.keytype) (key_added c) true

adds-tied : (c : Call) → adds_tied (call_of c) ≡ true
adds-tied c = grind arith

module _ (old new : KeySetParts) (all : AllTied old) where
  tied-moved : (c : keyset.Call) (q : List ℕ) (k : KeyParts) → tied k.keytype ≡ true
      → tied (moved_key old c q k).keytype ≡ true
  tied-moved (keyset.Set r s) q k h = tied-set (bytes_eq r q) s k h
  tied-moved (keyset.StartRoll r olds news now) q k h = ap tied (start-kind r now _ _ k)
      ∙ (tied_listed r (is_listed olds q) (is_listed news q) k.keytype h).0
  tied-moved (keyset.Wait r half now) q k h = tied_waited r half k.keytype h
  tied-moved (keyset.AbortRoll r) q k h =
      let l = listed_by old.lists r in ap tied (end-kind r _ _ k)
      ∙ (tied_listed r (is_listed l.olds q) (is_listed l.news q) k.keytype h).1
  tied-moved _ q k h = h

  tied-step : (c : keyset.Call) → adds_tied c ≡ true → Changes old c new → AllTied new
  tied-step c add m q j e = elim (came old new c m q j e) [
    | inl x ↦ rw x.1 at add
    | inr b ↦ rw (← b.2) (tied-moved c q b.0 (all q b.0 b.1))
  ]

pub all-tied : {name : List ℕ} {calls : List Call} {entries : List Entry}
    → IsRun name calls entries → (n : ℕ) → AllTied (world_at name calls entries n).set
all-tied {name} {calls} {entries} run = kept-by name calls entries AllTied
    (λ q k e. absurd (none-some k (sym (get-empty (slice_cmp nat_cmp) q) ∙ e)))
    (λ n c e ci ei h. elim (outcome run n c e ci ei) [
      | inl x ↦ subst AllTied (sym x.1) h
      | inr d ↦ tied-step _ _ h (call_of c) (adds-tied c) d.2
    ])

-- ---- what is kept of a start, over one call

-- whether a reference is listed as old, and whether as new
abbrev pub kept : Listed → List ℕ → Bool × Bool
kept l q = (is_listed l.olds q, is_listed l.news q)

module _ (roll : RollType) (q : List ℕ) where
  cut : (b : Bool) (o i : Bool) → ◌≡◌ {A = Bool × Bool} (o && not b, i && not b)
      (if b then (false, false) else (o, i))
  cut true o i = λ j. (and-false o j, and-false i j)
  cut false o i = λ j. (and-true o j, and-true i j)

  -- a reference is dropped, or none
  dropped : (b : Bool) (r : List ℕ) (l : Lists)
      → kept (listed_by (if b then without r l else l) roll) q
      ≡ (if b && bytes_eq r q then (false, false) else kept (l roll) q)
  dropped true r l = (λ j. (
    is_listed-filter (λ x. not (bytes_eq r x)) (l roll).olds q j,
    is_listed-filter (λ x. not (bytes_eq r x)) (l roll).news q j,
  )) ∙ cut (bytes_eq r q) (is_listed (l roll).olds q) (is_listed (l roll).news q)
  dropped false r l = refl

  abbrev pub kept_in : KeySetParts → Bool × Bool
  kept_in set = kept (listed_by set.lists roll) q

  -- a touched key is kept no more, and each other as before
  pub lists-step : (old new : KeySetParts) (c : keyset.Call) → Changes old c new
      → is_on c roll ≡ false
      → kept_in new ≡ (if touches c q then (false, false) else kept_in old)
  lists-step old new (keyset.Set r s) m aside = rw m.lists (dropped (is_flag_setting s) r old.lists)
  lists-step old new (keyset.DeleteKey r) m aside = rw m.lists (dropped true r old.lists)
  lists-step old new (keyset.StartRoll r olds news now) m aside = rw (m.lists, aside) refl
  lists-step old new (keyset.Report r First ttl now) m aside = rw (m.lists, aside) refl
  lists-step old new (keyset.AbortRoll r) m aside = rw (m.lists, aside) refl
  lists-step old new _ m aside = rw m.lists refl

-- ---- the phase

-- only a start puts its roll into the first phase
puts-first : (c : keyset.Call) → phase_put c ≡ Some Propagation1 → start_of c ≡ roll_of c
puts-first c e = grind arith

on-roll : (o : Option RollType) (roll : RollType)
    → option_map_or (λ (r : RollType). same_roll r roll) o false ≡ true → o ≡ Some roll
on-roll None roll on = cc
on-roll (Some r) roll on = ap Some (same-is r roll on)

-- so after another call it was in it before, and the call isn't on it
pub phase-before : (roll : RollType) (old new : KeySetParts)
    → phase_of new.rolls roll ≡ Some Propagation1 → (c : keyset.Call) → Changes old c new
    → (start_of c ≡ Some roll → ⊥)
    → (phase_of old.rolls roll ≡ Some Propagation1) × (is_on c roll ≡ false)
phase-before roll old new spreads c m none =
    elim (phase-came old new c m roll Propagation1 spreads) [
      | inl x ↦ absurd (none (puts-first c x.1 ∙ on-roll (roll_of c) roll x.0))
      | inr x ↦ (x.1, x.0)
    ]

-- ---- a key

-- a call that is on no roll, and doesn't touch it
same-flags : (old : KeySetParts) (c : keyset.Call) (q : List ℕ) (k : KeyParts) → roll_of c ≡ None
    → touches c q ≡ false → (moved_key old c q k).keytype ≡ k.keytype
same-flags old c q k off none = grind arith

stays-there : (c : keyset.Call) (q : List ℕ) → touches c q ≡ false → deletes c q ≡ false
stays-there c q none = grind arith

-- the set has a key with these flags there
abbrev pub HasKind : KeySetParts → List ℕ → KeyType → Type 0
HasKind set q t = (j : KeyParts) × (get set.keys q ≡ Some j) × (j.keytype ≡ t)

pub key-step : (roll : RollType) (old new : KeySetParts) → RollsTogether old.rolls
    → phase_of old.rolls roll ≡ Some Propagation1 → (q : List ℕ) (t : KeyType)
    → HasKind old q t → lists_kind (side_of roll) t ≡ true → (c : keyset.Call)
    → keyset.clearance old c ≡ waits.Clear → Changes old c new → LeavesOthers old c new
    → is_on c roll ≡ false → touches c q ≡ false → HasKind new q t
key-step roll old new all going q t x own c v m leaves aside none = by (roll_of c) refl
  where
    by : (o : Option RollType) → roll_of c ≡ o → HasKind new q t
    by None off = (
      moved_key old c q x.0,
      goes old new c v m q x.0 x.1 (stays-there c q none),
      same-flags old c q x.0 off none ∙ x.2,
    )
    by (Some r) on = (
      x.0,
      leaves-beside old roll Propagation1 going all new c v aside leaves r on q x.0 x.1
          (ap (lists_kind (side_of roll)) x.2 ∙ own),
      x.2,
    )
