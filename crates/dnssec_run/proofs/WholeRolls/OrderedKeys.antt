-- When the keys of a side are in order, and stay so if its roll ends early, by what the starts of
-- its rolls have listed: for all laws of whole rolls.
use Rattle.std.proofs.Common.{arith, ◌≡◌, ℕ, Bool, true, false, List, None, Some, sym, ◌∙◌, subst}
use Rattle.std.proofs.lemmas.Bool.{and_parts}
use Rattle.std.specs.{Prelude.is_some, Prelude.if◌then◌else◌, FinMap.get, Str.bytes_eq}
use Rattle.dnssec_key.specs.declared.roll.{RollType.RollType, RollState.RollState}
use Rattle.dnssec_key.specs.declared.roll.Half.{Half}
use Rattle.dnssec_key.specs.{Key.KeyParts, RollTable.after_report}
use Rattle.dnssec_zone.specs.Lists.{Listed, Lists, listed_by, nothing_listed, without}
use Rattle.dnssec_zone.specs.{Rolls.phase_of, Start.is_listed}
use Rattle.dnssec_zone.proofs.Flags.{SideOf, affects}
use Rattle.dnssec_keyset.specs.KeySet.{KeySetParts}
use Rattle.dnssec_run.proofs.Chain.{Lists.is_listed-others, Same.SameStamps, Tables.Stamp}
use Rattle.dnssec_run.proofs.Chain.{Tables.written, Tale.stamp_of}
use Rattle.dnssec_run.proofs.WholeRolls.Keys.{Idle, Phase, PhaseFits, Spreading, at_phase, dates}
use Rattle.dnssec_run.proofs.WholeRolls.Keys.{idle_is, in_order, phase_own, sound}

-- ---- lists

-- whether these list the reference as old, and as new
abbrev pub listing : Listed → List ℕ → Bool × Bool
listing l q = (is_listed l.olds q, is_listed l.news q)

-- the rolls of a side list the reference in b if they list it in a
abbrev pub Alike : SideOf → List ℕ → Lists → Lists → Type 0
Alike sd q a b = (r : RollType) → affects sd r ≡ true →
    listing (listed_by b r) q ≡ listing (listed_by a r) q

-- another reference
pub alike_without : (sd : SideOf) (q r : List ℕ) (a : Lists) → bytes_eq r q ≡ false
    → Alike sd q a (without r a)
alike_without sd q r a apart x own = λ i. (
  is_listed-others r (listed_by a x).olds q apart i,
  is_listed-others r (listed_by a x).news q apart i,
)

-- ---- one key

-- what the roll of a side in this phase has listed
abbrev pub listed_in : Phase → Lists → Listed
listed_in (Spreading half r) l = listed_by l r
listed_in _ l = nothing_listed

-- the key is in order, and stays so if the side's roll ends early
abbrev pub keeps_order : SideOf → Phase → Lists → List ℕ → KeyParts → Bool
keeps_order sd ph l q k = sound sd ph (listing (listed_in ph l) q) k.keytype (dates k)

-- a key that stays the same in what the side reads
pub order-kept : (sd : SideOf) (ph : Phase) (q : List ℕ) (a b : Lists) (k j : KeyParts)
    → phase_own sd ph ≡ true → Alike sd q a b → SameStamps k j
    → keeps_order sd ph b q j ≡ keeps_order sd ph a q k
order-kept sd (Spreading half r) q a b k j own lists same = λ i. sound sd (Spreading half r)
    (lists r own i) (sym same.0 i) (λ s. is_some (sym (same.1 s) i))
order-kept sd ph q a b k j own lists same = λ i. sound sd ph (listing nothing_listed q)
    (sym same.0 i) (λ s. is_some (sym (same.1 s) i))

-- a report
pub stamp_reported : (r : RollType) (half : Half) (now : ℕ) (k : KeyParts) (s : Stamp)
    → stamp_of s (after_report r half now k)
    ≡ (if written s r half k.keytype then Some now else stamp_of s k)
stamp_reported r half now k s = grind arith

-- ---- all keys of a side

-- the rolls and the keys of a side are in order, and the keys stay so if its roll ends early
pub record Order (sd : SideOf) (set : KeySetParts) : Type 0 where
  pub ph : Phase
  pub own : phase_own sd ph ≡ true
  pub rolls : (q : RollType) → affects sd q ≡ true → PhaseFits ph q (phase_of set.rolls q)
  pub keys : (q : List ℕ) (k : KeyParts) → get set.keys q ≡ Some k
      → keeps_order sd ph set.lists q k ≡ true

module _ (sd : SideOf) (set : KeySetParts) (h : Order sd set) (q : List ℕ) (k : KeyParts)
    (at : get set.keys q ≡ Some k) where
  -- while a roll of the side is in progress
  pub order-at : (r : RollType) (p : RollState) (ph : Phase) → at_phase r p ≡ ph
      → affects sd r ≡ true → phase_of set.rolls r ≡ Some p
      → keeps_order sd ph set.lists q k ≡ true
  order-at r p ph to own was = subst (λ ph. keeps_order sd ph set.lists q k ≡ true)
      (subst (PhaseFits h.ph r) was (h.rolls r own) ∙ to) (h.keys q k at)

  pub in-order-at : (r : RollType) (p : RollState) (ph : Phase) → at_phase r p ≡ ph
      → affects sd r ≡ true → phase_of set.rolls r ≡ Some p → in_order sd ph k ≡ true
  in-order-at r p ph to own was = (and_parts _ _ (order-at r p ph to own was)).0

  -- and while none is
  pub in-order-idle : ((r : RollType) → affects sd r ≡ true → phase_of set.rolls r ≡ None)
      → in_order sd Idle k ≡ true
  in-order-idle none = (and_parts _ _ (subst (λ ph. keeps_order sd ph set.lists q k ≡ true)
      (idle_is sd h.ph h.own (λ r e. subst (PhaseFits h.ph r) (none r e) (h.rolls r e)))
      (h.keys q k at))).0
