-- What the keys of a set say of the wait to come, by the moment it counts from; and that no stamp
-- is later than the time of the set: for `waits`.
use Rattle.std.proofs.Common.{◌≡◌, ℕ, ◌≤◌, ◌⊎◌, inl, inr, Bool, true, false, not, refl, sym, ◌∙◌}
use Rattle.std.proofs.Common.{ap, arith, List, None, Some, subst}
use Rattle.std.proofs.lemmas.{Bool.true≢false, Bool.and_parts, Iterator.Adapters.option_map_id}
use Rattle.std.specs.{Option.option_map, Option.option_map_or, FinMap.get}
use Rattle.dnssec_key.specs.declared.roll.Half.{Half}
use Rattle.dnssec_key.specs.declared.roll.Half.TheVariants.{First, Second}
use Rattle.dnssec_key.specs.RollTable.{half_of, column, after_report}
use Rattle.dnssec_key.specs.RollTable.{after_wait}
use Rattle.dnssec_key.specs.declared.roll.RollType.{RollType, TheVariants.ZskDoubleSignatureRoll}
use Rattle.dnssec_key.specs.{declared.kind.KeyType.KeyType, Key.KeyParts}
use Rattle.dnssec_zone.specs.{Rolls.same_roll, Start.lists_kind, Start.side_of}
use Rattle.dnssec_zone.proofs.Flags.{Zone, Late, flags_fit}
use Rattle.dnssec_zone.proofs.Tags.{mapped}
use Rattle.dnssec_keyset.{specs.KeySet.KeySetParts, proofs.Changes.Changes}
use Rattle.dnssec_run.specs.{declared.call.Call.Call, Record.call_of}
use Rattle.dnssec_run.proofs.Effects.{came, key_added, moved_key}
use Rattle.dnssec_run.proofs.Chain.Facts.{stays, stamped_in, timer, stays_wait}
use Rattle.dnssec_run.proofs.Chain.Phases.{Beside, report_stamp, start_stamps, wait_stamps}
use Rattle.dnssec_run.proofs.Chain.Same.{SameStamps, alike-round, was_there}
use Rattle.dnssec_run.proofs.Chain.Tables.{written, Stamp, read, checked}
use Rattle.dnssec_run.proofs.Chain.Tale.{stamp_of, early-end-parts, start-parts}
use Rattle.dnssec_run.proofs.Chain.{KeyCalls.put_alike, Setters.harmless, Trust.moment}
use Rattle.dnssec_run.proofs.WholeRolls.Keys.{Expiring, dates, fits_of, in_order}
use Rattle.dnssec_run.proofs.WholeRolls.{Order.besides, Order.is_calm, OrderedKeys.stamp_reported}
use Rattle.dnssec_keyset.specs.Step as keyset
use Rattle.dnssec_zone.proofs.Flags.{is_idle}
use Rattle.std.proofs.Common.{◌&&◌}

-- a key that matters to the roll: it may list it, and it isn't idle
abbrev touches : RollType → KeyType → Bool
touches q k = lists_kind (side_of q) k && not (is_idle k)

-- ---- finite facts

-- a wait checks only keys that matter to its roll, and a roll goes on only with such keys
checked_touches : (r : RollType) (half : Half) (k : KeyType) → checked r half k ≡ true
    → touches r k ≡ true
unfolding column
checked_touches r half k e = grind (arith, and_parts)

stays_touches : (r : RollType) (half : Half) (k : KeyType) → stays r half k ≡ true
    → touches r k ≡ true
stays_touches r half k e =
    checked_touches r (stamped_in r half) k (and_parts _ _ (and_parts _ _ e).1).0

abbrev pub zds : RollType
zds = ZskDoubleSignatureRoll

abbrev pub is_zds : RollType → Bool
is_zds r = same_roll r zds

-- a Double-Signature ZSK roll waits on the same key in both halves, and reads the stamps of its
-- first report
pub zds_facts : (k : KeyType) → (stays zds First k ≡ true
    → (written (read zds Second) zds First k ≡ true)
    × (stays zds First ((half_of zds First).moves k) ≡ true))
    × (checked zds Second ((half_of zds First).moves k) ≡ true → checked zds Second k ≡ true)
    × (flags_fit Zone (Late zds) k ≡ true → stays zds First k ≡ true → checked zds Second k ≡ true)
unfolding column
zds_facts k = grind (arith, and_parts)

-- the second report of a Double-Signature ZSK roll does nothing
silent : (now : ℕ) (k : KeyParts) → after_report zds Second now k ≡ k
unfolding column
silent now k = refl

-- ---- what a set says of a waiting roll

-- a key that the roll goes on with
abbrev pub Reads : RollType → Half → KeySetParts → Type 0
Reads r half set = (q : List ℕ) × (k : KeyParts) × (get set.keys q ≡ Some k)
    × (stays r half k.keytype ≡ true)

-- no key that the wait checks has a later stamp than m, and one that it goes on with has just m
pub record Armed (r : RollType) (half : Half) (m : ℕ) (set : KeySetParts) : Type 0 where
  pub bound : (q : List ℕ) (k : KeyParts) (x : ℕ) → get set.keys q ≡ Some k
      → checked r half k.keytype ≡ true → stamp_of (read r half) k ≡ Some x → x ≤ m
  pub key : Reads r half set
  pub has_it : stamp_of (read r half) key.1 ≡ Some m

-- every key goes by f
abbrev pub Goes : KeySetParts → KeySetParts → (KeyParts → KeyParts) → Type 0
Goes old new f = (q : List ℕ) → get new.keys q ≡ option_map f (get old.keys q)

abbrev moved : (old new : KeySetParts) (f : KeyParts → KeyParts) → Goes old new f
    → (r : RollType) (half h : Half) (x : Reads r half old) → stays r h (f x.1).keytype ≡ true
    → Reads r h new
moved old new f keys r half h x on = (x.0, f x.1, keys x.0 ∙ ap (option_map f) x.2, on)

-- of two sets, each key that matters to r in one is in the other as it was
abbrev pub Besides : RollType → KeySetParts → KeySetParts → Type 0
Besides r old new = (q : List ℕ) → Beside r (get old.keys q) (get new.keys q)

module _ (r : RollType) (half : Half) (old new : KeySetParts) (b : Besides r old new) where
  fore : (q : List ℕ) (j : KeyParts) → get new.keys q ≡ Some j → touches r j.keytype ≡ true
      → (k : KeyParts) × (get old.keys q ≡ Some k) × SameStamps k j
  fore q j e t = was_there SameStamps (λ k. not (touches r k)) (get old.keys q) (get new.keys q)
      (b q) j e (ap not t)

  back : (h : Reads r half old) → (j : KeyParts) × (get new.keys h.0 ≡ Some j)
      × SameStamps j h.1
  back h = was_there SameStamps (λ k. not (touches r k)) (get new.keys h.0) (get old.keys h.0)
      (alike-round SameStamps (λ k j e. (sym e.0, λ s. sym (e.1 s))) (λ k. not (touches r k))
      (get old.keys h.0) (get new.keys h.0) (b h.0)) h.1 h.2
      (ap not (stays_touches r half h.1.keytype h.3))

  pub reads-beside : Reads r half old → Reads r half new
  reads-beside h = let k = back h in (h.0, k.0, k.1, ap (stays r half) k.2.0 ∙ h.3)

  pub armed-beside : (m : ℕ) → Armed r half m old → Armed r half m new
  armed-beside m h = let k = back h.key in record {
    bound = λ q j x e c s.
        let w = fore q j e (checked_touches r half j.keytype c) in
        h.bound q w.0 x w.1 (ap (checked r half) w.2.0 ∙ c) (w.2.1 (read r half) ∙ s);
    key = (h.key.0, k.0, k.1, ap (stays r half) k.2.0 ∙ h.key.3);
    has_it = k.2.1 (read r half) ∙ h.has_it;
  }

-- ---- calls beside the roll

pub beside-same : (r : RollType) (old new : KeySetParts)
    → ((q : List ℕ) → get new.keys q ≡ get old.keys q) → Besides r old new
beside-same r old new same q = subst (Beside r (get old.keys q)) (sym (same q))
    (besides (lists_kind (side_of r)) (get old.keys q) (get old.keys q)
    (put_alike false (get old.keys q) None (λ t. absurd (true≢false (sym t)))))

-- so is the second report of a Double-Signature ZSK roll
pub beside-silent : (now : ℕ) (old new : KeySetParts)
    → Goes old new (after_report zds Second now) → Besides zds old new
beside-silent now old new keys = beside-same zds old new (λ q. keys q
    ∙ (λ i. option_map (λ k. silent now k i) (get old.keys q)) ∙ option_map_id (get old.keys q))

-- ---- calls of the roll

abbrev pub NoneLater : ℕ → KeySetParts → Type 0
NoneLater t set = (q : List ℕ) (k : KeyParts) (s : Stamp) (x : ℕ) → get set.keys q ≡ Some k
    → stamp_of s k ≡ Some x → x ≤ t

-- a report arms a wait if it writes the stamp that the wait reads, on a key that the roll goes on
-- with
pub armed-report : (r : RollType) (half h : Half) (now : ℕ) (old new : KeySetParts)
    → ((k : KeyType) → stays r half k ≡ true
    → (written (read r h) r half k ≡ true) × (stays r h k ≡ true))
    → Goes old new (after_report r half now) → NoneLater now new → Reads r half old
    → Armed r h now new
armed-report r half h now old new on keys late x = let f = on x.1.keytype x.3 in record {
  bound = λ q k y e c s. late q k (read r h) y e s;
  key = moved old new (after_report r half now) keys r half h x f.1;
  has_it = report_stamp (read r h) r half now x.1 f.0;
}

-- the first wait
pub reads-waited : (r : RollType) (now : ℕ) (old new : KeySetParts)
    → Goes old new (after_wait r First now) → ((q : List ℕ) (k : KeyParts)
    → get old.keys q ≡ Some k → in_order (timer r) (Expiring First r) k ≡ true)
    → Reads r First old → Reads r Second new
reads-waited r now old new keys fit h =
    moved old new (after_wait r First now) keys r First Second h (stays_wait r h.1.keytype
    (fits_of (timer r) (Expiring First r) h.1.keytype (dates h.1) (fit h.0 h.1 h.2)) h.3)

pub armed-between : (now m : ℕ) (old new : KeySetParts) → Goes old new (after_wait zds First now)
    → Armed zds Second m old → Armed zds Second m new
armed-between now m old new keys h = record {
  bound = λ q j x e c s.
      let b = mapped _ _ j (sym (keys q) ∙ e) in
      h.bound q b.0 x b.1 ((zds_facts b.0.keytype).1
      (ap (λ (k : KeyParts). checked zds Second k.keytype) b.2 ∙ c))
      (wait_stamps zds First now b.0 (read zds Second) ∙ ap (stamp_of (read zds Second)) b.2 ∙ s);
  key = moved old new (after_wait zds First now) keys zds Second Second h.key
      ((zds_facts h.key.1.keytype).0 h.key.3).1;
  has_it = sym (wait_stamps zds First now h.key.1 (read zds Second)) ∙ h.has_it;
}

-- ---- one key set after another

-- a new key has no stamp
new_unstamped : (c : Call) (s : Stamp)
    → option_map_or (stamp_of s) (key_added (call_of c)) None ≡ None
new_unstamped c s = grind arith

-- a key that stays has the stamps that it had, and those of this report
stamp_moved : (old : KeySetParts) (c : keyset.Call) → is_calm old c ≡ true → (q : List ℕ)
    (k : KeyParts) → get old.keys q ≡ Some k → (s : Stamp) (x : ℕ)
    → stamp_of s (moved_key old c q k) ≡ Some x → (stamp_of s k ≡ Some x) ⊎ (moment c ≡ Some x)
stamp_moved old (keyset.Set r setting) plain q k there s x e =
    inl (sym ((harmless old r setting plain q k there).stamps s) ∙ e)
stamp_moved old c plain q k there s x e =
    grind (arith, start-parts, start_stamps, stamp_reported, wait_stamps, early-end-parts)

pub late-step : (t u : ℕ) → t ≤ u → (old new : KeySetParts) → NoneLater t old → (c : Call)
    → is_calm old (call_of c) ≡ true → ((now : ℕ) → moment (call_of c) ≡ Some now → now ≤ u)
    → Changes old (call_of c) new → NoneLater u new
late-step t u le old new late c plain at m q j s x there e =
    elim (came old new (call_of c) m q j there) [
      | inl a ↦ let none = new_unstamped c s in grind (arith, none, a.1, e)
      | inr b ↦ elim (stamp_moved old (call_of c) plain q b.0 b.1 s x
          (ap (stamp_of s) b.2 ∙ e)) [
            | inl was ↦ let before : x ≤ t = late q b.0 s x b.1 was in omega arith
            | inr now ↦ at x now
          ]
    ]
