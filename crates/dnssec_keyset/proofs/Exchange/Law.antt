-- Two neighbouring calls of rolls that go together may be exchanged: neither sees what the other
-- changes.
use Rattle.dnssec_keyset.proofs.Moves.{IsOn, Starts, Reports, EndsEarly, is-on, MovesBy, key_after}
use Rattle.dnssec_keyset.proofs.Exchange.Seen.{Alike, SameFor, apart-side, same-after, same-itself}
use Rattle.dnssec_keyset.specs.Step.{Call, Reply, Refused, Step, IsRefusedFor, after, after_reply}
use Rattle.std.proofs.Common.{arith, ◌≡◌, ℕ, true, false, cond, List, [], ◌∷◌, Some, None, refl}
use Rattle.dnssec_zone.specs.Start.{is_listed, lists_kind, old_entry_fault, old_fault, side_of}
use Rattle.dnssec_keyset.proofs.Moves.{listed_after, moves-back, moves-on, phase_after}
use Rattle.dnssec_keyset.proofs.{Exchange.Seen.same-sym, After.after-changes, After.changes-after}
use Rattle.dnssec_keyset.proofs.{After.step-after, Laws.no_cause, Laws.same-is, Laws.step-keeps}
use Rattle.dnssec_keyset.proofs.{Exchange.Kinds.apart-kinds, Exchange.Kinds.apart-rolls}
use Rattle.dnssec_keyset.proofs.{Exchange.Kinds.kind-after, Changes.Changes, Sides.starts-clear}
use Rattle.dnssec_keyset.proofs.{Sides.stays-after, Exchange.Clearances.clearance-same}
use Rattle.dnssec_keyset.specs.{Step.clearance, KeySet.KeySetParts, Laws.AreApart}
use Rattle.dnssec_keyset.specs.{Laws.MayBeExchanged}
use Rattle.std.proofs.Common.{inl, inr, sym, ap, subst, ◌∙◌}
use Rattle.std.proofs.lemmas.Bool.{cases_Bool}
use Rattle.dnssec_zone.specs.{Start.together, Lists.has_kept_key, Rolls.same_roll, Wait.Clear}
use Rattle.std.specs.{Prelude.Option, Prelude.filter, Prelude.if◌then◌else◌, Option.option_map}
use Rattle.std.specs.{Option.option_map_or, FinMap.get}
use Rattle.dnssec_key.specs.{declared.roll.RollType.RollType, State.is_kept, Key.KeyParts}
use Rattle.dnssec_key.specs.declared.roll.Half.TheVariants.{First}
use Rattle.dnssec_key.specs.{Key.all_states, RollTable.after_early_end}
use Rattle.dnssec_zone.proofs.Listing.Starts.{none_of_both}

-- a call gets the same reply in each set that its roll sees the same
step-elsewhere : (b : RollType) (s t new : KeySetParts) (call : Call) (reply : Reply) → IsOn b call
    → SameFor b s t → Step s call reply new → Step t call reply (after_reply reply call t)
step-elsewhere b s t new call (Refused cause) on same h =
    (subst (λ v. IsRefusedFor v call cause) (clearance-same b s t call on same) h.0, refl)
step-elsewhere b s t new call _ on same h =
    (sym (clearance-same b s t call on same) ∙ h.0, h.1, refl)

-- and leaves what another roll sees that goes with its roll
same-step : (a b : RollType) → together a b ≡ true → (s t : KeySetParts) (call : Call)
    (reply : Reply) → IsOn a call → Step s call reply t → SameFor b s t
same-step a b apart s t call reply on = step-keeps (SameFor b s) s t call reply (same-itself b s)
    (same-after a b apart s t call on)

-- ---- both are accepted

-- what is put in for two rolls, phases or lists
abbrev put : {A : Type 0} → (RollType → A) → RollType → A → RollType → A
put m roll x = λ q. if same_roll roll q then x else m q

puts-swap : {A : Type 0} (a b : RollType) (m : RollType → A) (x y : A) → same_roll a b ≡ false
    → put (put m a x) b y ≡ put (put m b y) a x
puts-swap a b m x y apart = λ i q. at q i
  where
    at : (q : RollType) → put (put m a x) b y q ≡ put (put m b y) a x q
    at q = grind (arith, apart, same-is b q)

-- what a start keeps depends on the keys that the roll sees
kept-same : (b : RollType) (o p : Option KeyParts) → Alike b o p
    → old_entry_fault b o ≡ None
    → option_map_or (λ (k : KeyParts). all_states is_kept k.keytype) o false
    ≡ option_map_or (λ (k : KeyParts). all_states is_kept k.keytype) p false
kept-same b o p alike own = grind arith

module _ (b : RollType) (s t : KeySetParts) (same : SameFor b s t) where
  olds-same : (olds : List (List ℕ)) → old_fault b (get s.keys) olds ≡ None
      → filter (has_kept_key s.keys) olds ≡ filter (has_kept_key t.keys) olds
  olds-same [] none = refl
  olds-same (q ∷ qs) none = λ i.
      let both = none_of_both _ _ none in
      cond (kept-same b _ _ (same.keys q) both.0 i) (q ∷ olds-same qs both.1 i)
      (olds-same qs both.1 i)

  listed-alike : (call : Call) → IsOn b call → clearance s call ≡ Clear
      → listed_after s call ≡ listed_after t call
  unfolding listed_after
  listed-alike call (Starts olds news now) clear = λ i. record {
    olds = olds-same olds (starts-clear b s olds news (no_cause _ clear)).0 i;
    news = news;
  }
  listed-alike call (Reports First ttl now) clear = refl
  listed-alike call EndsEarly clear = refl
  listed-alike call _ clear = same.listed

  key-alike : (call : Call) → IsOn b call → key_after s.lists call ≡ key_after t.lists call
  unfolding key_after
  key-alike call EndsEarly = λ i q k. after_early_end b (is_listed (same.listed i).olds q)
      (is_listed (same.listed i).news q) k
  key-alike call _ = refl

module _ (a b : RollType) (apart : together a b ≡ true) (s : KeySetParts) (first second : Call)
    (first_on : IsOn a first) (second_on : IsOn b second) (first_clear : clearance s first ≡ Clear)
    (second_clear : clearance s second ≡ Clear) where
  -- the sets between
  abbrev s1 : KeySetParts
  s1 = after first s

  abbrev m : KeySetParts
  m = after second s

  seen : SameFor b s s1
  seen = same-after a b apart s s1 first first_on first_clear (after-changes s first)

  later : SameFor a s m
  later = same-after b a (apart-side a b apart) s m second second_on second_clear
      (after-changes s second)

  m1 : MovesBy s first a s1
  m1 = moves-on s s1 first a first_on (after-changes s first)

  m2 : MovesBy s1 second b (after second s1)
  m2 = moves-on s1 (after second s1) second b second_on (after-changes s1 second)

  mm : MovesBy s second b m
  mm = moves-on s m second b second_on (after-changes s second)

  -- each call as a change of the set before both
  abbrev key_first : List ℕ → KeyParts → KeyParts
  key_first = key_after s.lists first

  abbrev key_second : List ℕ → KeyParts → KeyParts
  key_second = key_after s.lists second

  first-later : key_first ≡ key_after m.lists first
  first-later = key-alike a s m later first first_on

  second-later : key_second ≡ key_after s1.lists second
  second-later = key-alike b s s1 seen second second_on

  -- the two changes of one key
  one-key : (q : List ℕ) (k : KeyParts) → get s.keys q ≡ Some k
      → key_second q (key_first q k) ≡ key_first q (key_second q k)
  one-key q k is = elim (cases_Bool (lists_kind (side_of b) k.keytype)) [
    | inl own ↦
        let off = apart-kinds (side_of a) (side_of b) k.keytype apart own in
        let stays = stays-after m first a q (key_second q k) first_on
        (sym (clearance-same a s m first first_on later) ∙ first_clear)
        (mm.keys q ∙ ap (option_map (key_second q)) is)
        (kind-after (side_of a) s.lists second q k ∙ off) in
        ap (key_second q) (stays-after s first a q k first_on first_clear is off)
        ∙ sym (ap (λ f. f q (key_second q k)) first-later ∙ stays)
    | inr off ↦
        let stays = stays-after s1 second b q (key_first q k) second_on
        (sym (clearance-same b s s1 second second_on seen) ∙ second_clear)
        (m1.keys q ∙ ap (option_map (key_first q)) is)
        (kind-after (side_of b) s.lists first q k ∙ off) in
        (ap (λ f. f q (key_first q k)) second-later ∙ stays)
        ∙ sym (ap (key_first q) (stays-after s second b q k second_on second_clear is off))
  ]

  exchanged : Changes m first (after second s1)
  exchanged = moves-back m (after second s1) first a first_on (record {
    name = m2.name ∙ m1.name ∙ sym mm.name;
    rolls = rw (m2.rolls, m1.rolls, mm.rolls)
        (puts-swap a b s.rolls (phase_after first) (phase_after second) (apart-rolls a b apart));
    lists = rw (
      m2.lists,
      m1.lists,
      mm.lists,
      ← (listed-alike b s s1 seen second second_on second_clear),
      ← (listed-alike a s m later first first_on first_clear),
    ) (puts-swap a b s.lists (listed_after s first) (listed_after s second)
        (apart-rolls a b apart));
    keys = λ q. rw (m2.keys q, ← second-later, m1.keys q, mm.keys q, ← first-later)
        (grind (arith, one-key q));
  })

  both : after second s1 ≡ after first m
  both = changes-after m (after second s1) first exchanged

-- ---- the law

swapped : (a b : RollType) → together a b ≡ true → (s n k : KeySetParts) (first second : Call)
    → IsOn a first → IsOn b second → (r1 r2 : Reply) → Step s first r1 n → Step s second r2 k
    → after_reply r2 second (after_reply r1 first s)
    ≡ after_reply r1 first (after_reply r2 second s)
swapped a b apart s n k first second on1 on2 (Refused cause) r2 h g = refl
swapped a b apart s n k first second on1 on2 r1 (Refused cause) h g = refl
swapped a b apart s n k first second on1 on2 r1 r2 h g =
    both a b apart s first second on1 on2 h.0 g.0

pub exchange : (s s1 s2 : KeySetParts) (first second : Call) (r1 r2 : Reply)
    → AreApart first second → Step s first r1 s1 → Step s1 second r2 s2
    → MayBeExchanged s s2 first second r1 r2
exchange s s1 s2 first second r1 r2 calls step1 step2 =
    let a = calls.roll_first in
    let b = calls.roll_second in
    let on1 = is-on first a calls.first_is in
    let on2 = is-on second b calls.second_is in
    let m = after_reply r2 second s in
    let second_here = step-elsewhere b s1 s s2 second r2 on2
    (same-sym b s s1 (same-step a b calls.apart s s1 first r1 on1 step1)) step2 in
    let first_later = step-elsewhere a s m s1 first r1 on1
    (same-step b a (apart-side a b calls.apart) s m second r2 on2 second_here) step1 in
    let end : s2 ≡ after_reply r1 first m = step-after s1 s2 second r2 step2
    ∙ ap (after_reply r2 second) (step-after s s1 first r1 step1)
    ∙ swapped a b calls.apart s s1 m first second on1 on2 r1 r2 step1 second_here in
    record {
      between = m;
      second_step = second_here;
      first_step = subst (Step m first r1) (sym end) first_later;
    }
