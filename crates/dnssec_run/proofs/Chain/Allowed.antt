-- What an accepted call says of the keys before it.
use Rattle.dnssec_zone.specs.Start.{lists_kind, side_of, is_listed as listed, together, is_met}
use Rattle.dnssec_zone.specs.Start.{new_entry_fault, new_fault, wants, algorithm_fault}
use Rattle.dnssec_zone.specs.Start.{algorithms_within, has_algorithm, may_change_algorithms}
use Rattle.dnssec_zone.specs.Start.{serves_as_new, serves_as_kept}
use Rattle.dnssec_zone.specs.Wait.{Clear, wait_in_phase, lacks_stamp, time_left, ttl_in}
use Rattle.dnssec_zone.specs.{Refusals.report_refusal, Rolls.phase_of, Keys.some_key}
use Rattle.dnssec_zone.proofs.Quantified.{some_key-none, some_entry-found}
use Rattle.dnssec_zone.proofs.Longest.{longest-bound, clear-left}
use Rattle.dnssec_zone.proofs.{Listing.Starts.none_of_both, Flags.SideOf, Tests.or_second}
use Rattle.std.proofs.Common.{[], ◌≡◌, ℕ, Bool, true, false, not, ◌||◌, ◌&&◌, refl, arith, List}
use Rattle.std.proofs.Common.{◌∷◌, ◌++◌, Option, None, Some}
use Rattle.std.proofs.lemmas.Bool.{and_parts, or_parts, eqb-true}
use Rattle.std.specs.{Prelude.is_some, Prelude.nat_eq, List.list_all, List.list_any}
use Rattle.std.specs.{Option.option_map_or, Cmp.Lexicographic.bytes_decides, FinMap.get}
use Rattle.dnssec_key.specs.declared.roll.Half.{Half}
use Rattle.dnssec_key.specs.declared.roll.Half.TheVariants.{First, Second}
use Rattle.dnssec_key.specs.RollTable.{cache_expire}
use Rattle.dnssec_key.specs.declared.roll.{RollType.RollType, RollState.RollState}
use Rattle.dnssec_key.specs.declared.roll.RollState.TheVariants.{CacheExpire1, CacheExpire2}
use Rattle.dnssec_key.specs.{State.is_future, Key.KeyParts, Key.all_states}
use Rattle.dnssec_base.specs.declared.error.Error.{Error}
use Rattle.dnssec_keyset.specs.Step.{start_refusal, wait_clearance}
use Rattle.dnssec_keyset.proofs.{Accepted.needed, Laws.no_roll, Laws.no_conflict, Sides.old-listed}
use Rattle.dnssec_run.specs.{Published.World as RealWorld, WholeRolls.propagation}
use Rattle.dnssec_run.proofs.Chain.Tables.{met, reads-stamp, want_on}
use Rattle.dnssec_run.proofs.Chain.Tale.{seen, IsOver, HasSuitable, CanStart}

-- ---- a start

-- a fresh key that the roll may list, not taken
abbrev IsFree : RollType → Option KeyParts → Bool → Type 0
IsFree r o taken = (k : KeyParts) × (o ≡ Some k) × (lists_kind (side_of r) k.keytype ≡ true)
    × (all_states is_future k.keytype ≡ true) × (taken ≡ false)

module _ (r : RollType) where
  new_kind : (o : Option KeyParts) (taken : Bool) → new_entry_fault r o taken ≡ None
      → IsFree r o taken
  new_kind o taken e = grind (arith, and_parts)

  new_all : (at : List ℕ → Option KeyParts) (olds earlier news : List (List ℕ))
      → new_fault r at olds earlier news ≡ None → (q : List ℕ) → listed news q ≡ true
      → IsFree r (at q) (listed olds q)
  new_all at olds earlier [] e q l = cc
  new_all at olds earlier (x ∷ xs) e q l =
      let rest = new_all at olds (earlier ++ x ∷ []) xs in
      let one = new_kind (at x) (listed olds x || listed earlier x) in
      grind (arith, none_of_both, or_parts, rest, one, (bytes_decides q x).0)

-- ---- the key to go on with

listed_key : (p : KeyParts → Bool) (at : List ℕ → Option KeyParts) (qs : List (List ℕ))
    → list_any (λ (q : List ℕ). option_map_or (λ (k : KeyParts). p k) (at q) false) qs ≡ true
    → (q : List ℕ) × (k : KeyParts) × (at q ≡ Some k) × (listed qs q ≡ true) × (p k ≡ true)
listed_key p at [] e = cc
listed_key p at (x ∷ xs) e = grind (arith, listed_key p at xs, (bytes_decides x x).1 refl)

within : (at : List ℕ → Option KeyParts) (qs others : List (List ℕ))
    → algorithms_within at qs others ≡ true → (q : List ℕ) (k : KeyParts) → at q ≡ Some k
    → listed qs q ≡ true → has_algorithm at others k.algorithm ≡ true
within at [] others e q k at_q l = cc
within at (x ∷ xs) others e q k at_q l =
    grind (arith, and_parts, within at xs others, (bytes_decides q x).0)

-- unless the roll may change algorithms, for each old key there is a new one of its algorithm
same_algorithm : (r : RollType) (at : List ℕ → Option KeyParts) (olds news : List (List ℕ))
    → algorithm_fault r at olds news ≡ None → may_change_algorithms r ≡ false → (q : List ℕ)
    (k : KeyParts) → at q ≡ Some k → listed olds q ≡ true → (x : List ℕ) × (j : KeyParts)
    × (at x ≡ Some j) × (listed news x ≡ true) × (j.algorithm ≡ k.algorithm)
same_algorithm r at olds news e free q k at_q l =
    let both = and_parts _ _ (or_second (may_change_algorithms r) _
    (needed _ Error.AlgorithmSetsMismatch None e) free) in
    let h = listed_key (λ (j : KeyParts). nat_eq j.algorithm k.algorithm) at news
    (within at olds news both.0 q k at_q l) in
    (h.0, h.1, h.2, h.3, eqb-true _ _ h.4)

suitable_of : (w : RealWorld) (r : RollType) (olds news : List (List ℕ))
    → list_all (is_met w.set.keys olds news) (wants r) ≡ true → (sd : SideOf)
    → HasSuitable sd r (seen w) olds news
suitable_of w r olds news e sd =
    let want = want_on sd r in
    let new = listed_key (λ k. serves_as_new want k.keytype) (get w.set.keys) news in
    let kept = some_entry-found (λ q k. serves_as_kept want k.keytype && not (listed olds q))
    w.set.keys in
    grind (arith, and_parts, new, kept, met (is_met w.set.keys olds news) r e sd)

pub can_start : (w : RealWorld) (r : RollType) (olds news : List (List ℕ))
    → start_refusal r w.set olds news ≡ None → CanStart r (seen w) olds news
can_start w r olds news e =
    let conflict = none_of_both _ _ e in
    let old = none_of_both _ _ conflict.1 in
    let new = none_of_both _ _ old.1 in
    let algorithm = none_of_both _ _ new.1 in
    let suitable = none_of_both _ _ algorithm.1 in
    record {
      alone = λ q t. let none = no_roll (λ q. is_some (phase_of w.set.rolls q)
          && not (together r q)) (no_conflict r w.set.rolls conflict.0) q in grind arith;
      old_is = λ q l. grind (arith, old-listed r (get w.set.keys) olds q old.0 l);
      new_is = new_all r (get w.set.keys) olds [] news new.0;
      algorithms = same_algorithm r (get w.set.keys) olds news algorithm.0;
      suitable = λ sd own. suitable_of w r olds news
          (needed _ Error.NoSuitableKeyPresent None suitable.0) sd;
    }

-- ---- a wait

over : (r : RollType) (half : Half) (ttl now : ℕ) (w : RealWorld)
    → wait_in_phase r half (Some ttl) now w.set.keys ≡ Clear → IsOver r half (seen w) ttl now
over r half ttl now w f q k at check =
    let lacks = λ (h : some_key (lacks_stamp r half) w.set.keys ≡ false).
    some_key-none (lacks_stamp r half) w.set.keys q k h at in
    let bound = longest-bound (time_left r half ttl now) w.set.keys q k at in
    grind (arith, clear-left, lacks, bound, reads-stamp r half k.timestamps)

pub waits_in_phase : (r : RollType) (half : Half) (now : ℕ) (w : RealWorld)
    → wait_clearance r half now w.set ≡ Clear
    → (ttl : ℕ) × ((seen w).roll r ≡ Some (cache_expire half ttl)) × IsOver r half (seen w) ttl now
waits_in_phase r half now w e = by half (phase_of w.set.rolls r) refl e
  where
    by : (half : Half) (o : Option RollState) → phase_of w.set.rolls r ≡ o
        → wait_in_phase r half (ttl_in half o) now w.set.keys ≡ Clear → (ttl : ℕ)
        × (phase_of w.set.rolls r ≡ Some (cache_expire half ttl)) × IsOver r half (seen w) ttl now
    by First (Some (CacheExpire1 ttl)) p f = (ttl, p, over r First ttl now w f)
    by Second (Some (CacheExpire2 ttl)) p f = (ttl, p, over r Second ttl now w f)
    by _ _ p f = cc

-- ---- a report

pub spreads : (half : Half) (o : Option RollState) → report_refusal half o ≡ None
    → o ≡ Some (propagation half)
spreads half o e = grind arith
