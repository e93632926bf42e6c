-- What a roll call does to one key.
use Rattle.dnssec_run.proofs.Chain.Places.{Fits, all_ok, found_key, real}
use Rattle.dnssec_run.proofs.Chain.Tale.{Passes, key_at, Tale, World, Key, if_some, world_at}
use Rattle.dnssec_run.proofs.Chain.Tale.{put_roll, CanStart, IsOver, start_key}
use Rattle.dnssec_run.proofs.Chain.Returns.{KeepsLists, listed_at}
use Rattle.dnssec_run.specs.Published.{Id}
use Rattle.dnssec_run.specs.declared.record.Mark.{Mark, TheVariants.Other, TheVariants.Step}
use Rattle.dnssec_run.specs.Safe.{position_at}
use Rattle.std.proofs.Common.{◌≡◌, ℕ, suc, ◌⊎◌, Bool, true, false, not, ◌&&◌, ◌||◌, sym, ◌∙◌, ap}
use Rattle.std.proofs.Common.{arith, List, Option, Some}
use Rattle.std.specs.Option.{option_map}
use Rattle.dnssec_key.specs.declared.roll.{RollType.RollType, RollState.RollState}
use Rattle.dnssec_key.specs.declared.{kind.KeyType.KeyType, roll.RollState.TheVariants.Propagation1}
use Rattle.dnssec_key.specs.declared.roll.Half.{Half}
use Rattle.dnssec_key.specs.declared.roll.Half.TheVariants.{First, Second}
use Rattle.dnssec_key.specs.RollTable.{after_wait, after_expiry, cache_expire}
use Rattle.dnssec_zone.proofs.Flags.{SideOf, affects, may_start, started}
use Rattle.dnssec_zone.specs.Start.{is_listed, lists_kind, side_of}
use Rattle.dnssec_zone.specs.Lists.{has_kept_key}
use Rattle.dnssec_keyset.proofs.Exchange.Kinds.{kind_number}

-- A roll call: each key is mapped, and one roll's state is put. No key turns into one of another
-- kind, and the roll leaves alone what it may not list.
pub record Mapped (tale : Tale) (n : ℕ) (f : List ℕ → Key → Key) (r : RollType)
    (o : Option RollState) : Type 0 where
  pub keys : (q : List ℕ) → (world_at tale (suc n)).key q
      ≡ option_map (f q) ((world_at tale n).key q)
  pub founds : (id : Id) → key_at tale (suc n) id ≡ option_map (f id.0) (key_at tale n id)
  pub rolls : (q : RollType) → (world_at tale (suc n)).roll q
      ≡ put_roll (world_at tale n).roll r o q
  pub kinds : (q : List ℕ) (k : Key) → kind_number (f q k).keytype ≡ kind_number k.keytype
  pub leaves : (q : List ℕ) (k : Key) → (world_at tale n).key q ≡ Some k
      → lists_kind (side_of r) k.keytype ≡ false → f q k ≡ k

-- an accepted start
pub record Starts (tale : Tale) (n : ℕ) (r : RollType) : Type 0 where
  pub now : ℕ
  pub old : List (List ℕ)
  pub new : List (List ℕ)
  pub mapped : Mapped tale n (start_key r now old new) r (Some Propagation1)
  pub can : CanStart r (world_at tale n) old new
  pub mark : (position_at tale.es (suc n)).mark ≡ Step r
  pub olds : (q : List ℕ) → is_listed (listed_at tale r (suc n)).olds q
      ≡ (is_listed old q && has_kept_key (real tale n).set.keys q)
  pub news : (q : List ℕ) → is_listed (listed_at tale r (suc n)).news q ≡ is_listed new q
  pub lists : (sd : SideOf) → affects sd r ≡ false → KeepsLists tale sd n

-- the mark of an accepted wait
abbrev pub wait_mark : Half → RollType → Mark
wait_mark First r = Step r
wait_mark Second r = Other

-- an accepted wait
pub record Waits (tale : Tale) (n : ℕ) (half : Half) (r : RollType) : Type 0 where
  pub ttl : ℕ
  pub now : ℕ
  pub mapped : Mapped tale n (λ q. after_wait r half now) r (Some (after_expiry half))
  pub phase : (world_at tale n).roll r ≡ Some (cache_expire half ttl)
  pub over : IsOver r half (world_at tale n) ttl now
  pub mark : (position_at tale.es (suc n)).mark ≡ wait_mark half r
  pub moment : (position_at tale.es (suc n)).moment ≡ Some now
  pub lists : (sd : SideOf) → KeepsLists tale sd n

-- ---- one key

-- what an accepted start asks of a key that is there
pub may_there : (r : RollType) (w : World) (old new : List (List ℕ)) → CanStart r w old new
    → (q : List ℕ) (k : Key) → w.key q ≡ Some k
    → may_start r (is_listed old q) (is_listed new q) k.keytype ≡ true
may_there r w old new can q k at = grind (arith, can.old_is q, can.new_is q)

-- of one that a start lists or not
abbrev pub kind_then : {tale : Tale} {n : ℕ} {r : RollType} → Starts tale n r → List ℕ → KeyType
    → KeyType
kind_then {r = r} s q k = started r (is_listed s.old q) (is_listed s.new q) k

pub may_found : {tale : Tale} {n : ℕ} {r : RollType} (s : Starts tale n r) (id : Id) (k : Key)
    → key_at tale n id ≡ Some k
    → may_start r (is_listed s.old id.0) (is_listed s.new id.0) k.keytype ≡ true
may_found {tale = tale} {n = n} {r = r} s id k e = may_there r (world_at tale n) s.old s.new s.can
    id.0 k (found_key (world_at tale n) id k e).0

pub suits : (o i : Bool) (a b : Bool) → ((i ≡ true) × (a ≡ true)) ⊎ ((o ≡ false) × (b ≡ true))
    → ((i && a) || (not o && b)) ≡ true
suits o i a b either = grind arith

-- ---- a key before a roll call and after it

-- what holds of a key that is there
pub of_found : (p : KeyType → Bool) (o : Option Key) (k : Key) → o ≡ Some k → all_ok p o ≡ true
    → p k.keytype ≡ true
of_found p o k e h = sym (ap (all_ok p) e) ∙ h

module _ {tale : Tale} {n : ℕ} {f : List ℕ → Key → Key} {r : RollType} {o : Option RollState}
    (m : Mapped tale n f r o) where
  -- one that passes then was one before
  pub was-one : (id : Id) (q : KeyType → Bool) → Passes tale q (suc n) id
      → (k : Key) × (key_at tale n id ≡ Some k) × (q (f id.0 k).keytype ≡ true)
  was-one id q e = let f = m.founds id in grind arith

  -- and one that was there is one that passes then
  pub now-one : (id : Id) (q : KeyType → Bool) (k : Key) → key_at tale n id ≡ Some k
      → q (f id.0 k).keytype ≡ true → Passes tale q (suc n) id
  now-one id q k e passes = ap (if_some q) (m.founds id ∙ ap (option_map (f id.0)) e) ∙ passes

  -- one that passes passes another test then
  pub goes : (id : Id) (p q : KeyType → Bool)
      → ((k : Key) → key_at tale n id ≡ Some k → p k.keytype ≡ true → q (f id.0 k).keytype ≡ true)
      → Passes tale p n id → Passes tale q (suc n) id
  goes id p q on e = let f = m.founds id in grind (arith, on)

  -- one that passes then passed another before
  pub came : (id : Id) (p q : KeyType → Bool)
      → ((k : Key) → key_at tale n id ≡ Some k → q (f id.0 k).keytype ≡ true → p k.keytype ≡ true)
      → Passes tale q (suc n) id → Passes tale p n id
  came id p q was e = let k = was-one id q e in ap (if_some p) k.1 ∙ was k.0 k.1 k.2

  -- what holds of it then
  pub stands : (id : Id) (q : KeyType → Bool)
      → ((k : Key) → key_at tale n id ≡ Some k → q (f id.0 k).keytype ≡ true)
      → Fits tale q (suc n) id
  stands id q on = let f = m.founds id in grind (arith, on)

  -- one that passes then passes another test then
  pub turns : (id : Id) (p q : KeyType → Bool)
      → ((k : Key) → key_at tale n id ≡ Some k → p (f id.0 k).keytype ≡ true
      → q (f id.0 k).keytype ≡ true) → Passes tale p (suc n) id → Passes tale q (suc n) id
  turns id p q on e = let k = was-one id p e in now-one id q k.0 k.1 (on k.0 k.1 k.2)
