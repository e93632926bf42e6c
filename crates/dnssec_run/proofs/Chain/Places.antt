-- A place of a run: the call, its entry, and the worlds before and after; a side of the chain over
-- the record.
use Rattle.dnssec_run.proofs.Chain.Flags.{SideSet, kind_on, is_in}
use Rattle.dnssec_run.proofs.Chain.Tale.{Passes, key_at, Tale, World, Key, seen, found, if_some}
use Rattle.dnssec_run.proofs.Chain.Tale.{world_at}
use Rattle.dnssec_run.proofs.Chain.History.{Serving, Without, retired_stays, never-gone-now}
use Rattle.dnssec_run.proofs.{Laws.made-at, Positions.shown-none, Premise.sets_nothing}
use Rattle.dnssec_run.proofs.{Premise.DoesAt, Chain.Shown.shown-found, Chain.Side.Side}
use Rattle.dnssec_run.proofs.Chain.Side.{upto}
use Rattle.dnssec_run.specs.declared.{call.Call.Call, record.Entry.Entry}
use Rattle.dnssec_run.specs.Published.{Id, World as RealWorld, keys_where, in_ds, in_dnskey}
use Rattle.dnssec_run.specs.Published.{signs_dnskey as signs_keys, signs_zone}
use Rattle.dnssec_run.specs.Safe.{Ds, Position, blank, position_of, position_at, IsGone}
use Rattle.std.proofs.Common.{◌≡◌, ◌↔◌, ℕ, zero, suc, ◌<◌, ◌≤◌, Bool, true, refl, sym, ap, subst}
use Rattle.std.proofs.Common.{arith, List, length, Option, None, Some}
use Rattle.std.proofs.lemmas.Bool.{and_parts, cond_both, eqb-true, eq-eqb}
use Rattle.std.specs.Prelude.{slice_get, if◌then◌else◌, ◌==◌}
use Rattle.std.specs.{Option.option_map, List.Contains, FinMap.get-empty, Ordering.nat_cmp}
use Rattle.std.specs.Cmp.Lexicographic.{slice_cmp}
use Rattle.dnssec_key.specs.declared.{kind.KeyType.KeyType, roll.RollType.RollType}
use Rattle.dnssec_zone.proofs.Flags.{SideOf}
use Rattle.dnssec_run.specs.Record as rec
use Rattle.dnssec_keyset.specs.Step as keyset

-- a test that a missing key passes
abbrev pub all_ok : (KeyType → Bool) → Option Key → Bool
all_ok p None = true
all_ok p (Some k) = p k.keytype

-- what is there passes
abbrev pub Fits : Tale → (KeyType → Bool) → ℕ → Id → Type 0
Fits tale p n id = all_ok p (key_at tale n id) ≡ true

pub each-ok : (p : KeyType → Bool) (o : Option Key)
    → ((k : Key) → o ≡ Some k → p k.keytype ≡ true) → all_ok p o ≡ true
each-ok p o h = grind (arith, h)

pub some_key : (p : KeyType → Bool) (o : Option Key) → if_some p o ≡ true → (k : Key) × (o ≡ Some k)
    × (p k.keytype ≡ true)
some_key p o e = grind arith

pub found_key : (w : World) (id : Id) (k : Key) → found w id ≡ Some k → (w.key id.0 ≡ Some k)
    × (w.added id.0 ≡ id.1)
found_key w id k e = (grind arith, eqb-true _ _ (grind arith))

pub found_now : (w : World) (q : List ℕ) → found w (q, w.added q) ≡ w.key q
found_now w q = ap (λ b. if b then w.key q else None) (eq-eqb (w.added q) (w.added q) refl)

pub found_map : (b : Bool) (f : Key → Key) (o : Option Key) → (if b then option_map f o else None)
    ≡ option_map f (if b then o else None)
found_map b f o = grind arith

-- a list that shows exactly the keys that pass
abbrev pub Shows : List Id → RealWorld → (KeyType → Bool) → Type 0
Shows ids w p = (id : Id) → Contains ids id ↔ (if_some p (found (seen w) id) ≡ true)

shows_by : (p : KeyType → Bool) (w : RealWorld) (ids : List Id) → ids ≡ keys_where p w
    → Shows ids w p
shows_by p w ids e id = let h = shown-found p w id in
    (λ c. h.0 (subst (λ l. Contains l id) e c), λ f. subst (λ l. Contains l id) (sym e) (h.1 f))

-- a position shows what is published of a world
pub record IsShown (p : Position) (w : RealWorld) : Type 0 where
  pub ds : Shows p.ds w in_ds
  pub dnskey : Shows p.dnskey w in_dnskey
  pub signers : Shows p.signers w signs_keys
  pub zone : Shows p.zone w signs_zone

shown_by : (p : Position) (w : RealWorld) → p.ds ≡ keys_where in_ds w
    → p.dnskey ≡ keys_where in_dnskey w → p.signers ≡ keys_where signs_keys w
    → p.zone ≡ keys_where signs_zone w → IsShown p w
shown_by p w ds dnskey signers zone = record {
  ds = shows_by in_ds w p.ds ds;
  dnskey = shows_by in_dnskey w p.dnskey dnskey;
  signers = shows_by signs_keys w p.signers signers;
  zone = shows_by signs_zone w p.zone zone;
}

abbrev pub real : Tale → ℕ → RealWorld
real tale n = rec.world_at tale.name tale.calls tale.es n

pub record Place (tale : Tale) (i : ℕ) : Type 0 where
  pub call : Call
  pub entry : Entry
  pub call_is : slice_get tale.calls i ≡ Some call
  pub entry_is : slice_get tale.es i ≡ Some entry
  pub ok : rec.IsEntry (real tale i) (real tale (suc i)) call entry
  pub plain : sets_nothing (real tale i).set (rec.call_of call) ≡ true
  pub position_is : position_at tale.es (suc i) ≡ position_of entry
  pub added_is : (world_at tale (suc i)).added
      ≡ rec.added_by (suc i) call entry.reply (world_at tale i).added

pub place_at : (tale : Tale) (i : ℕ) → i < length tale.es → Place tale i
unfolding position_at rec.world_at
place_at tale i lt =
    let x = made-at tale.run i (omega arith) in
    record {
      call = x.0;
      entry = x.1;
      call_is = x.2;
      entry_is = x.3;
      ok = tale.run.each i x.0 x.1 x.2 x.3;
      plain = tale.plain.setters i x.0 x.2;
      position_is = rw x.3 refl;
      added_is = rw (x.2, x.3) refl;
    }

-- at the start there is no key
pub none_at_start : (tale : Tale) (id : Id) → key_at tale zero id ≡ None
unfolding rec.world_at
none_at_start tale id = cond_both (0 == id.1) _ None (λ o. o ≡ None)
    (λ t. get-empty (slice_cmp nat_cmp) id.0) (λ t. refl)

pub shown_at : (tale : Tale) (n : ℕ) → n ≤ length tale.es
    → IsShown (position_at tale.es n) (real tale n)
unfolding position_at rec.world_at
shown_at tale zero le = shown_by blank (real tale zero) (sym (shown-none in_ds tale.name))
    (sym (shown-none in_dnskey tale.name)) (sym (shown-none signs_keys tale.name))
    (sym (shown-none signs_zone tale.name))
shown_at tale (suc i) le =
    let p = place_at tale i (omega arith) in
    let sets = p.ok.published in
    subst (λ q. IsShown q (real tale (suc i))) (sym p.position_is)
    (shown_by (position_of p.entry) (real tale (suc i)) sets.ds sets.dnskey sets.dnskey_signers
    sets.zone_signers)

pub some_weaker : (p q : KeyType → Bool) → ((k : KeyType) → p k ≡ true → q k ≡ true)
    → (o : Option Key) → if_some p o ≡ true → if_some q o ≡ true
some_weaker p q h o e = grind (arith, h)

-- a key that fits and passes one test passes another
pub some_of : (f p q : KeyType → Bool) → ((k : KeyType) → f k ≡ true → p k ≡ true → q k ≡ true)
    → (o : Option Key) → all_ok f o ≡ true → if_some p o ≡ true → if_some q o ≡ true
some_of f p q h o e g = grind (arith, h)

pub shows : (tale : Tale) (sd : SideOf) (set : SideSet) (n : ℕ) → n ≤ length tale.es → (id : Id)
    → Passes tale (is_in sd set) n id → Serving tale sd set n id
shows tale sd set n le id e =
    let p = shown_at tale n le in
    grind (arith, and_parts, (p.ds id).1, (p.dnskey id).1, (p.signers id).1, (p.zone id).1)

-- no DS set that caches may hold has a key of the family
abbrev pub NoDs : Tale → ℕ → Type 0
NoDs tale n = (q : ℕ) → q ≤ n → (IsGone tale.es Ds q n → ⊥) → Without tale q

-- if the next DS set has none, it stays so
pub no_ds-bare : (tale : Tale) (n : ℕ) → suc n ≤ length tale.es → Without tale (suc n)
    → NoDs tale n → NoDs tale (suc n)
no_ds-bare tale n here none h = upto (λ q. (IsGone tale.es Ds q (suc n) → ⊥) → Without tale q) n
    (λ q le un. h q le (λ x. un (retired_stays tale.es Ds q n x))) (λ _. none)

-- what is in the DS set now was there before
abbrev pub LessDs : Tale → ℕ → Type 0
LessDs tale n = (id : Id) → Passes tale in_ds (suc n) id → Passes tale in_ds n id

pub without-next : (tale : Tale) (n : ℕ) → suc n ≤ length tale.es → LessDs tale n
    → Without tale n → Without tale (suc n)
without-next tale n here less h id o c =
    h id o (((shown_at tale n (omega arith)).ds id).1
    (less id (((shown_at tale (suc n) here).ds id).0 c)))

pub no_ds-now : (tale : Tale) (n : ℕ) → NoDs tale n → Without tale n
no_ds-now tale n h = h n (omega arith) (never-gone-now tale.es Ds n)

pub no_ds-next : (tale : Tale) (n : ℕ) → suc n ≤ length tale.es → LessDs tale n → NoDs tale n
    → NoDs tale (suc n)
no_ds-next tale n here less h =
    no_ds-bare tale n here (without-next tale n here less (no_ds-now tale n h)) h

-- a side of the chain
abbrev pub side : Tale → SideOf → Side
side tale sd = record {
  Id = Id;
  Of = λ id. tale.of id ≡ true;
  last = length tale.es;
  D = NoDs tale;
  gone = λ set. IsGone tale.es (kind_on sd set);
  serves = Serving tale sd;
  has = λ set n id. Passes tale (is_in sd set) n id;
  keep = λ set. retired_stays tale.es (kind_on sd set);
  show = shows tale sd;
}

-- what an accepted call does for a roll is done by the call of its place
pub same_call : (does : keyset.Call → Option RollType) (tale : Tale) (n : ℕ) (p : Place tale n)
    (q : RollType) → DoesAt does tale.calls tale.es n q
    → (rec.is_accepted p.entry.reply ≡ true) × (does (rec.call_of p.call) ≡ Some q)
same_call does tale n p q s = (cc, cc)
