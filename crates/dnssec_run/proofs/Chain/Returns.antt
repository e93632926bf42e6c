-- What a side keeps of a roll in its first phase: an early end would lead it back to rest.
use Rattle.std.proofs.Common.{◌≡◌, ℕ, suc, ◌≤◌, ◌⊎◌, inl, inr, Bool, true, sym, ◌∙◌, ap, List, Some}
use Rattle.std.proofs.Common.{length}
use Rattle.std.proofs.lemmas.Bool.{and_parts, cases_Bool}
use Rattle.dnssec_key.specs.declared.roll.{RollType.RollType, RollState.TheVariants.Propagation1}
use Rattle.dnssec_key.specs.declared.kind.KeyType.{KeyType}
use Rattle.dnssec_zone.specs.{Lists.Listed, Lists.listed_by, Start.is_listed}
use Rattle.dnssec_zone.proofs.Flags.{SideOf, affects, Stage, Quiet, Early, Late, flags_fit}
use Rattle.dnssec_zone.proofs.Flags.{has_role, ended}
use Rattle.dnssec_run.specs.Published.{Id}
use Rattle.dnssec_run.proofs.Chain.Tale.{Passes, key_at, Tale, Key, if_some, world_at}
use Rattle.dnssec_run.proofs.Chain.Side.{or_map, Cached, cached-on}
use Rattle.dnssec_run.proofs.Chain.Flags.{SideSet, is_in, in_use}
use Rattle.dnssec_run.proofs.Chain.EarlyEnds.{ended-less, unseen-ended, ended-seen, ended-used}
use Rattle.dnssec_run.proofs.Chain.Places.{Fits, real, all_ok, each-ok, shows, side, NoDs, some_key}
use Rattle.dnssec_run.proofs.Chain.Places.{some_weaker}
use Rattle.dnssec_run.proofs.Chain.Same.{AlikeOn, alike-on-round, was-seen, some-was}
use Rattle.dnssec_run.proofs.Chain.{Facts.Seen, Facts.sees, History.Serving}

-- what is kept of the start of a roll
abbrev pub listed_at : Tale → RollType → ℕ → Listed
listed_at tale r n = listed_by (real tale n).set.lists r

-- the kind at a reference after an early end of the roll now
abbrev pub kind_back : Tale → RollType → ℕ → List ℕ → KeyType → KeyType
kind_back tale r n q k =
    ended r (is_listed (listed_at tale r n).olds q) (is_listed (listed_at tale r n).news q) k

-- and the key: no stamp changes
abbrev pub early_end_key : Tale → RollType → ℕ → List ℕ → Key → Key
early_end_key tale r n q k = record k { keytype = kind_back tale r n q k.keytype }

-- the key would then be in the set
abbrev pub StaysIn : Tale → SideOf → RollType → ℕ → SideSet → Id → Type 0
StaysIn tale sd r n set id = Passes tale (λ k. is_in sd set (kind_back tale r n id.0 k)) n id

-- so it is in it now
pub stays-shown : (tale : Tale) (sd : SideOf) (r : RollType) (n : ℕ) → n ≤ length tale.es
    → (set : SideSet) (id : Id) → StaysIn tale sd r n set id → Serving tale sd set n id
stays-shown tale sd r n le set id e = shows tale sd set n le id
    (some_weaker (λ k. is_in sd set (kind_back tale r n id.0 k)) (is_in sd set)
    (ended-less sd set r _ _) (key_at tale n id) e)

-- after an early end of the roll now the side would be at rest, with a key in use
pub record LeadsBack (tale : Tale) (sd : SideOf) (r : RollType) (n : ℕ) : Type 0 where
  pub flags : (id : Id) → Fits tale (λ k. flags_fit sd Quiet (kind_back tale r n id.0 k)) n id
  pub rest : (set : SideSet) → Cached (side tale sd) set n (StaysIn tale sd r n set)
  pub used : NoDs tale n ⊎ ((id : Id)
      × (Passes tale (λ k. in_use sd (kind_back tale r n id.0 k)) n id)
      × (tale.of id ≡ true))

-- so it is from a start to the first report
abbrev pub Back : Tale → SideOf → Stage → ℕ → Type 0
Back tale sd Quiet n = Unit {0}
Back tale sd (Early r) n = (world_at tale n).roll r ≡ Some Propagation1 → LeadsBack tale sd r n
Back tale sd (Late r) n = Unit {0}

-- a call that starts no roll of a side, and leaves its keys in the lists as they were
pub record KeepsLists (tale : Tale) (sd : SideOf) (n : ℕ) : Type 0 where
  pub phase : (r : RollType) → affects sd r ≡ true → (world_at tale (suc n)).roll r
      ≡ Some Propagation1 → (world_at tale n).roll r ≡ Some Propagation1
  pub same : (r : RollType) → affects sd r ≡ true
      → (world_at tale (suc n)).roll r ≡ Some Propagation1 → (id : Id) (k : Key)
      → key_at tale (suc n) id ≡ Some k → has_role sd k.keytype ≡ true
      → (is_listed (listed_at tale r (suc n)).olds id.0 ≡ is_listed (listed_at tale r n).olds id.0)
      × (is_listed (listed_at tale r (suc n)).news id.0 ≡ is_listed (listed_at tale r n).news id.0)

module _ (tale : Tale) (n : ℕ) (here : suc n ≤ length tale.es) (sd : SideOf)
    (keys : (id : Id) → AlikeOn sd (key_at tale n id) (key_at tale (suc n) id))
    (dead : NoDs tale n → NoDs tale (suc n)) (lists : KeepsLists tale sd n)
    (r : RollType) (own : affects sd r ≡ true)
    (phase : (world_at tale (suc n)).roll r ≡ Some Propagation1) where
  abbrev back : ℕ → Id → KeyType → KeyType
  back n id = kind_back tale r n id.0

  -- an early end makes the same of a key that the side sees
  same_kind : (id : Id) (k : Key) → key_at tale (suc n) id ≡ Some k → sees sd k.keytype ≡ true
      → back (suc n) id k.keytype ≡ back n id k.keytype
  same_kind id k e seen =
      let s = lists.same r own phase id k e (and_parts (has_role sd k.keytype) _ seen).0 in
      λ j. ended r (s.0 j) (s.1 j) k.keytype

  module _ (p : KeyType → Bool) (seen : (o i : Bool) → Seen sd (λ k. p (ended r o i k))) (id : Id)
    where
      was : Passes tale (λ k. p (back (suc n) id k)) (suc n) id
          → Passes tale (λ k. p (back n id k)) n id
      was e = let k = some_key (λ k. p (back (suc n) id k)) (key_at tale (suc n) id) e in
          some-was sd (λ k. p (back n id k)) (seen _ _) (key_at tale n id) (key_at tale (suc n) id)
          (keys id) (ap (if_some (λ k. p (back n id k))) k.1
          ∙ ap p (sym (same_kind id k.0 k.1 (seen _ _ k.0.keytype k.2))) ∙ k.2)

      stays : Passes tale (λ k. p (back n id k)) n id
          → Passes tale (λ k. p (back (suc n) id k)) (suc n) id
      stays e = let k = some_key (λ k. p (back n id k)) (key_at tale (suc n) id)
          (some-was sd (λ k. p (back n id k)) (seen _ _) (key_at tale (suc n) id) (key_at tale n id)
          (alike-on-round sd (key_at tale n id) (key_at tale (suc n) id) (keys id)) e) in
          ap (if_some (λ k. p (back (suc n) id k))) k.1
          ∙ ap p (same_kind id k.0 k.1 (seen _ _ k.0.keytype k.2)) ∙ k.2

  pub leads-on : LeadsBack tale sd r n → LeadsBack tale sd r (suc n)
  leads-on h = record {
    flags = λ id. each-ok _ (key_at tale (suc n) id) (λ k e.
        elim (cases_Bool (sees sd k.keytype)) [
          | inl t ↦
              let j = was-seen sd (key_at tale n id) (key_at tale (suc n) id) (keys id) k e t in
              ap (flags_fit sd Quiet) (same_kind id k e t ∙ ap (back n id) (sym j.2))
              ∙ sym (ap (all_ok (λ k. flags_fit sd Quiet (back n id k))) j.1) ∙ h.flags id
          | inr t ↦ unseen-ended sd r _ _ k.keytype t
        ]);
    rest = λ set. cached-on (side tale sd) n here set (StaysIn tale sd r n set)
        (StaysIn tale sd r (suc n) set) (was (is_in sd set) (ended-seen sd set r))
        (stays-shown tale sd r (suc n) here set) (h.rest set);
    used = or_map h.used dead (λ a. (a.0, stays (in_use sd) (ended-used sd r) a.0 a.1, a.2));
  }
