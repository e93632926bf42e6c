-- What is kept of starts: how each call changes the lists, and which calls leave a side's keys in
-- them as they were.
use Rattle.std.proofs.Common.{◌≡◌, ℕ, suc, Bool, true, false, not, ◌&&◌, refl, sym, ◌∙◌, ap, List}
use Rattle.std.proofs.Common.{arith, Option, Some}
use Rattle.std.proofs.{lemmas.Bool.false_from_ne_true, Math.Bool.and_comm}
use Rattle.std.{proofs.lemmas.Map.Views.any-filter_same, specs.Prelude.filter}
use Rattle.std.specs.{Prelude.if◌then◌else◌, Str.bytes_eq, Cmp.Lexicographic.bytes_decides}
use Rattle.dnssec_zone.specs.Lists.{Listed, Lists, listed_by, with_listed, without, others}
use Rattle.dnssec_zone.specs.Lists.{lists_after_report}
use Rattle.dnssec_zone.specs.{Rolls.same_roll, Start.is_listed}
use Rattle.dnssec_zone.proofs.Flags.{SideOf, affects, has_role}
use Rattle.dnssec_key.specs.declared.roll.Half.{Half}
use Rattle.dnssec_key.specs.declared.roll.RollType.{RollType}
use Rattle.dnssec_key.specs.declared.roll.RollState.{RollState, TheVariants.Propagation1}
use Rattle.dnssec_run.proofs.Chain.Tale.{Tale, Key, world_at, put_roll}
use Rattle.dnssec_run.proofs.Chain.Rolls.{same-same, put-same, put-other}
use Rattle.dnssec_run.proofs.Chain.{Places.found_key, Places.real, Returns.KeepsLists}
use Rattle.dnssec_keyset.proofs.Laws.{same-is}

-- ---- one list

-- a list cut by a test of references
pub is_listed-filter : (p : List ℕ → Bool) (qs : List (List ℕ)) (q : List ℕ)
    → is_listed (filter p qs) q ≡ (is_listed qs q && p q)
is_listed-filter p qs q =
    any-filter_same (bytes_eq q) p (p q) (λ x t. ap p (sym ((bytes_decides q x).0 t))) qs
    ∙ and_comm (p q) (is_listed qs q)

-- the list without a reference lists the others as before
pub is_listed-others : (x : List ℕ) (qs : List (List ℕ)) (q : List ℕ) → bytes_eq x q ≡ false
    → is_listed (others x qs) q ≡ is_listed qs q
is_listed-others x qs q e = grind (arith, is_listed-filter (λ y. not (bytes_eq x y)) qs q)

-- ---- all lists

-- those of one roll are put in place
pub listed-same : (l : Lists) (r : RollType) (listed : Listed)
    → listed_by (with_listed l r listed) r ≡ listed
listed-same l r listed = ap (λ b. if b then listed else listed_by l r) (same-same r)

-- and those of other rolls stay
pub listed-other : (l : Lists) (r : RollType) (listed : Listed) (q : RollType)
    → same_roll r q ≡ false → listed_by (with_listed l r listed) q ≡ listed_by l q
listed-other l r listed q e = ap (λ b. if b then listed else listed_by l q) e

pub listed-reported : (half : Half) (l : Lists) (r q : RollType) → same_roll r q ≡ false
    → listed_by (lists_after_report r half l) q ≡ listed_by l q
listed-reported half l r q e = grind arith

-- a reference may be taken out of all; it isn't this one
listed-cut : (b : Bool) (x : List ℕ) (l : Lists) (r : RollType) (q : List ℕ)
    → (b ≡ true → bytes_eq x q ≡ false) → let cut = if b then without x l else l in
    (is_listed (listed_by cut r).olds q ≡ is_listed (listed_by l r).olds q)
    × (is_listed (listed_by cut r).news q ≡ is_listed (listed_by l r).news q)
listed-cut b x l r q e = (grind (arith, is_listed-others), grind (arith, is_listed-others))

-- ---- the calls

module _ (tale : Tale) (n : ℕ) where
  -- no roll moves; a reference may be taken out of all lists, if no key of the side is there then
  pub keeps-cut : (b : Bool) (x : List ℕ)
      → ((q : RollType) → (world_at tale (suc n)).roll q ≡ (world_at tale n).roll q)
      → (real tale (suc n)).set.lists
      ≡ (if b then without x (real tale n).set.lists else (real tale n).set.lists)
      → ((sd : SideOf) → b ≡ true → (k : Key) → (world_at tale (suc n)).key x ≡ Some k
      → has_role sd k.keytype ≡ true → ⊥) → (sd : SideOf) → KeepsLists tale sd n
  keeps-cut b x rolls lists gone sd = record {
    phase = λ r own e. sym (rolls r) ∙ e;
    same = λ r own e id k f role. rw lists (listed-cut b x (real tale n).set.lists r id.0 (λ cut.
        false_from_ne_true (bytes_eq x id.0) (λ t. gone sd cut k
        (ap (world_at tale (suc n)).key ((bytes_decides x id.0).0 t)
        ∙ (found_key (world_at tale (suc n)) id k f).0) role)));
  }

  -- one roll and its lists change: it leaves its first phase, or isn't of the side
  pub keeps-on : (r : RollType) (o : Option RollState) (listed : Listed)
      → (real tale (suc n)).set.lists ≡ with_listed (real tale n).set.lists r listed
      → ((q : RollType) → (world_at tale (suc n)).roll q ≡ put_roll (world_at tale n).roll r o q)
      → (sd : SideOf) → (o ≡ Some Propagation1 → affects sd r ≡ true → ⊥) → KeepsLists tale sd n
  keeps-on r o listed lists rolls sd out = record {
    phase = λ q own e. sym (put-other (world_at tale n).roll r o q (apart q own e))
        ∙ sym (rolls q) ∙ e;
    same = λ q own e id k f role. rw (ap (λ l. listed_by l q) lists
        ∙ listed-other (real tale n).set.lists r listed q (apart q own e)) (refl, refl);
  }
    where
      apart : (q : RollType) → affects sd q ≡ true
          → (world_at tale (suc n)).roll q ≡ Some Propagation1 → same_roll r q ≡ false
      apart q own e = false_from_ne_true (same_roll r q) (λ t. let is = same-is r q t in
          out (sym (put-same (world_at tale n).roll r o) ∙ sym (rolls r)
          ∙ ap (world_at tale (suc n)).roll is ∙ e) (ap (affects sd) is ∙ own))
