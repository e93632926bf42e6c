-- Calls of a roll leave the other side alone; so does the waiting roll of another kind.
use Rattle.std.proofs.lemmas.Bool.{true≢false}
use Rattle.std.proofs.Common.{◌≡◌, ℕ, suc, true, false, not, sym, ◌∙◌, ap, subst, List, Option}
use Rattle.std.proofs.Common.{arith, Some}
use Rattle.dnssec_key.specs.declared.roll.{RollType.RollType, RollState.RollState}
use Rattle.dnssec_zone.specs.Rolls.{same_roll}
use Rattle.dnssec_zone.proofs.Flags.{SideOf, affects, Stage, has_role}
use Rattle.dnssec_run.specs.{Published.Id, Safe.position_at, Safe.is_step}
use Rattle.dnssec_run.proofs.Chain.Tale.{key_at, Tale, Key, world_at}
use Rattle.dnssec_run.proofs.Chain.Same.{SameKind, AlikeOn, map_but, failed-out}
use Rattle.dnssec_run.proofs.Chain.{Facts.sees, Facts.apart, Kinds.same_role, Rolls.StageFits}
use Rattle.dnssec_run.proofs.Chain.{Rolls.put-fits, Places.NoDs, Places.found_key}
use Rattle.dnssec_run.proofs.Chain.{Returns.KeepsLists, Invariant.Gentle, OneKey.Mapped}
use Rattle.dnssec_keyset.proofs.Laws.{same-is}

pub distinct : (sd : SideOf) (r q : RollType) → affects sd r ≡ false → affects sd q ≡ true
    → same_roll r q ≡ false
distinct sd r q outside inside = grind arith

module _ (tale : Tale) (n : ℕ) (sd : SideOf) (st : Stage)
    (was_rolls : (q : RollType) → affects sd q ≡ true → StageFits st q ((world_at tale n).roll q))
    (dead : NoDs tale n → NoDs tale (suc n)) (lists : KeepsLists tale sd n)
    {f : List ℕ → Key → Key} {r : RollType} {o : Option RollState} (m : Mapped tale n f r o) where
  -- keys of the side stay as they are
  gentle_map : ((id : Id) (k : Key) → key_at tale n id ≡ Some k
      → has_role sd k.keytype ≡ true → k.keytype ≡ (f id.0 k).keytype)
      → ((q : RollType) → affects sd q ≡ true → same_roll r q ≡ true → StageFits st q o)
      → ((q : RollType) → affects sd q ≡ true → is_step q (position_at tale.es (suc n)).mark
      ≡ false) → Gentle tale sd st n
  gentle_map leaves put no_step = record {
    rolls = λ q own. subst (StageFits st q) (sym (m.rolls q))
        (put-fits st (world_at tale n).roll r o q (put q own) (λ e. was_rolls q own));
    keys = λ id. subst (AlikeOn sd (key_at tale n id)) (sym (m.founds id))
        (map_but SameKind (has_role sd) (λ k. not (sees sd k)) (failed-out (has_role sd)) (f id.0)
        (key_at tale n id)
        (λ k e. (same_role sd _ k.keytype (m.kinds id.0 k), leaves id k e)));
    no_step = no_step;
    dead = dead;
    lists = lists;
  }

  -- a call of a roll of the other side
  pub gentle-other : affects sd r ≡ false → ((q : RollType) → same_roll r q ≡ false
      → is_step q (position_at tale.es (suc n)).mark ≡ false) → Gentle tale sd st n
  gentle-other out no_step = gentle_map
      (λ id k e role. ap (λ (k : Key). k.keytype) (sym (m.leaves id.0 k
      (found_key (world_at tale n) id k e).0 (apart sd r k.keytype out role))))
      (λ q own e. absurd (true≢false (sym e ∙ distinct sd r q out own)))
      (λ q own. no_step q (distinct sd r q out own))

  -- a report, or the end of a roll: no flags change, and the side stays where it is
  pub gentle-still : ((q : List ℕ) (k : Key) → k.keytype ≡ (f q k).keytype) → (p : RollState)
      → (world_at tale n).roll r ≡ Some p → (StageFits st r (Some p) → StageFits st r o)
      → ((q : RollType) → is_step q (position_at tale.es (suc n)).mark ≡ false)
      → Gentle tale sd st n
  gentle-still same p phase on no_step = gentle_map (λ id k e role. same id.0 k)
      (λ q own e. let eq = same-is r q e in subst (λ q. StageFits st q o) eq
      (on (subst (StageFits st r) phase (was_rolls r (ap (affects sd) eq ∙ own)))))
      (λ q own. no_step q)
