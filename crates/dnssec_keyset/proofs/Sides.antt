-- A call on a roll leaves keys alone whose kind the roll doesn't change.
use Rattle.std.proofs.Common.{arith, ◌≡◌, ℕ, true, false, List, [], ◌∷◌, ◌++◌, Some, None, refl, ap}
use Rattle.dnssec_keyset.proofs.Moves.{IsOn, Starts, Reports, Waits, Ends, EndsEarly, is-on}
use Rattle.dnssec_zone.specs.Start.{is_listed, lists_kind, new_fault, old_entry_fault, old_fault}
use Rattle.std.proofs.Common.{◌∙◌}
use Rattle.dnssec_keyset.proofs.{Moves.key_after, Moves.moves-on, Laws.no_cause, Laws.step-keeps}
use Rattle.dnssec_zone.specs.{Start.side_of, Wait.Clear}
use Rattle.dnssec_key.specs.declared.roll.Half.{Half}
use Rattle.dnssec_key.specs.{RollTable.column, RollTable.half_of}
use Rattle.dnssec_key.specs.{RollTable.after_start, declared.kind.KeyType.KeyType}
use Rattle.dnssec_key.specs.{declared.roll.RollType.RollType, Key.KeyParts}
use Rattle.std.specs.{Prelude.Option, Option.option_map, Cmp.Lexicographic.bytes_decides}
use Rattle.std.specs.{FinMap.get}
use Rattle.dnssec_keyset.specs.{Step.start_refusal, Step.Call, Step.Reply, Step.Step}
use Rattle.dnssec_keyset.specs.{Step.clearance, KeySet.KeySetParts, Laws.LeavesOthers}
use Rattle.dnssec_zone.proofs.Listing.Starts.{none_of_both}

-- ---- the keys that a roll doesn't change

pub checks-others : (roll : RollType) (half : Half) (t : KeyType)
    → lists_kind (side_of roll) t ≡ false → (half_of roll half).checks t ≡ false
unfolding column
checks-others roll half t e = grind arith

-- ---- a start lists none of them

module _ (roll : RollType) (at : List ℕ → Option KeyParts) where
  pub old-listed : (olds : List (List ℕ)) (q : List ℕ) → old_fault roll at olds ≡ None
      → is_listed olds q ≡ true → old_entry_fault roll (at q) ≡ None
  old-listed [] q none e = cc
  old-listed (x ∷ xs) q none e = grind (arith, bytes_decides, old-listed xs q)

  new-listed : (olds earlier news : List (List ℕ)) (q : List ℕ) (k : KeyParts) → at q ≡ Some k
      → new_fault roll at olds earlier news ≡ None → is_listed news q ≡ true
      → lists_kind (side_of roll) k.keytype ≡ true
  new-listed olds earlier [] q k is none e = cc
  new-listed olds earlier (x ∷ xs) q k is none e =
      grind (arith, bytes_decides, new-listed olds (earlier ++ x ∷ []) xs q k is)

-- an accepted start has no fault in its lists
pub starts-clear : (roll : RollType) (set : KeySetParts) (olds news : List (List ℕ))
    → start_refusal roll set olds news ≡ None → (old_fault roll (get set.keys) olds ≡ None)
    × (new_fault roll (get set.keys) olds [] news ≡ None)
starts-clear roll set olds news e =
    let rest = (none_of_both _ _ e).1 in
    ((none_of_both _ _ rest).0, (none_of_both _ _ (none_of_both _ _ rest).1).0)

module _ (roll : RollType) (set : KeySetParts) (olds news : List (List ℕ))
    (clear : start_refusal roll set olds news ≡ None) (q : List ℕ) (k : KeyParts)
    (is : get set.keys q ≡ Some k) (other : lists_kind (side_of roll) k.keytype ≡ false) where
  after_start-others : (now : ℕ) → after_start roll now (is_listed olds q) (is_listed news q) k ≡ k
  after_start-others now =
      let none = starts-clear roll set olds news clear in
      grind (
        arith,
        is,
        other,
        old-listed roll (get set.keys) olds q none.0,
        new-listed roll (get set.keys) olds [] news q k is none.1,
      )

-- ---- the law

-- a key of another kind stays as it was
pub stays-after : (set : KeySetParts) (call : Call) (roll : RollType) (q : List ℕ) (k : KeyParts)
    → IsOn roll call → clearance set call ≡ Clear → get set.keys q ≡ Some k
    → lists_kind (side_of roll) k.keytype ≡ false → key_after set.lists call q k ≡ k
unfolding key_after column
stays-after set call roll q k (Starts olds news now) clear is other =
    after_start-others roll set olds news (no_cause _ clear) q k is other now
stays-after set call roll q k (Reports half ttl now) clear is other =
    grind (arith, other)
stays-after set call roll q k (Waits half now) clear is other =
    grind (arith, other)
stays-after set call roll q k Ends clear is other = refl
stays-after set call roll q k EndsEarly clear is other = grind (arith, other)

pub leaves-others : (old new : KeySetParts) (call : Call) (reply : Reply) → Step old call reply new
    → LeavesOthers old call new
leaves-others old new call reply step roll q k on is other =
    let at = is-on call roll on in
    step-keeps (λ (s : KeySetParts). get s.keys q ≡ Some k) old new call reply is
    (λ clear change. (moves-on old new call roll at change).keys q ∙ ap (option_map _) is
    ∙ ap Some (stays-after old call roll q k at clear is other)) step
