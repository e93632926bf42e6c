-- Laws of every step, and so of every run: no two keys get one tag, and rolls in progress go
-- together.
use Rattle.dnssec_keyset.specs.Step.{Call, AddKey, Set, DeleteKey, StartRoll, Report, Wait}
use Rattle.dnssec_keyset.specs.Step.{RollDone, AbortRoll, Reply, Refused, Step, clearance}
use Rattle.std.proofs.Common.{arith, ◌≡◌, ℕ, Bool, true, false, not, List, Some, None, refl, inl}
use Rattle.dnssec_zone.specs.Start.{Side, are_apart, conflict, has_conflict, side_of, together}
use Rattle.dnssec_zone.proofs.Tags.{apart-added, apart-mapped, apart-removed, kept_at, kept_set}
use Rattle.std.proofs.Common.{inr, sym, ap, subst}
use Rattle.std.proofs.lemmas.Bool.{or_parts, true≢false}
use Rattle.dnssec_zone.proofs.{Tags.kept_unmarked, Listing.Starts.none_of_both, Phases.same_roll-is}
use Rattle.dnssec_keyset.proofs.Accepted.{ends_early, finishes, no_error, no_some}
use Rattle.dnssec_keyset.proofs.{After.changed, Changes.Changes, Moves.kept_started}
use Rattle.dnssec_keyset.specs.KeySet.{KeySetParts, new_set}
use Rattle.dnssec_keyset.specs.Laws.{RollsTogether, in_progress}
use Rattle.std.specs.{Prelude.Option, Prelude.◌⊎◌, Prelude.◌&&◌, Prelude.is_some}
use Rattle.std.specs.{Prelude.if◌then◌else◌, List.list_any, Str.bytes_eq}
use Rattle.std.specs.{Cmp.Lexicographic.slice_cmp, FinMap.get, FinMap.get-empty, Ordering.nat_cmp}
use Rattle.dnssec_zone.specs.{Keys.Keys, Keys.has_tag, Keys.TagsApart, Rolls.Rolls, Rolls.phase_of}
use Rattle.dnssec_zone.specs.{Rolls.with_phase, Rolls.same_roll, Rolls.all_rolls, Wait.Clear}
use Rattle.dnssec_zone.specs.{Wait.barred_by, Refusals.add_refusal}
use Rattle.dnssec_key.specs.{declared.roll.RollType.RollType, declared.roll.RollState.RollState}
use Rattle.dnssec_key.specs.{declared.roll.RollState.TheVariants.Propagation1, Key.KeyParts}
use Rattle.dnssec_key.specs.{Setters.set_by}
use Rattle.dnssec_base.specs.declared.error.Error.{Error}

-- ---- a step changes nothing, or makes a change for which no cause stood

pub moved : (old new : KeySetParts) (call : Call) (reply : Reply) → Step old call reply new
    → (new ≡ old) ⊎ ((clearance old call ≡ Clear) × Changes old call new)
moved old new call (Refused cause) h = inl h.1
moved old new call _ h = inr (h.0, changed old new call h.2)

-- what each such change keeps, each step keeps
pub step-keeps : (P : KeySetParts → Type 0) (old new : KeySetParts) (call : Call) (reply : Reply)
    → P old → (clearance old call ≡ Clear → Changes old call new → P new)
    → Step old call reply new → P new
step-keeps P old new call reply was by h = elim (moved old new call reply h) [
  | inl same ↦ subst P (sym same) was
  | inr change ↦ by change.0 change.1
]

pub no_cause : (o : Option Error) → barred_by o ≡ Clear → o ≡ None
no_cause o e = grind arith

-- ---- tags

-- no key has the tag of a key that may come in, and none its reference
pub no_add : (keys : Keys) (r : List ℕ) (t : ℕ) → add_refusal keys r t ≡ None
    → (has_tag t keys ≡ false) × (get keys r ≡ None)
no_add keys r t e =
    let x = no_error (has_tag t keys) _ _ e in (x.0, no_some _ (no_error _ _ _ x.1).0)

apart-changes : (old new : KeySetParts) → TagsApart old.keys → (call : Call) → clearance old call
    ≡ Clear → Changes old call new → TagsApart new.keys
apart-changes old new apart (AddKey r key) clear h =
    let free = no_add old.keys r key.key_tag (no_cause _ clear) in
    apart-added old.keys new.keys r key free.1 h.keys free.0 apart
apart-changes old new apart (Set r setting) clear h =
    apart-mapped old.keys new.keys (λ q k. if bytes_eq r q then set_by setting k else k)
    (λ q k. kept_at (set_by setting) (kept_set setting) (bytes_eq r q) k) h.keys apart
apart-changes old new apart (DeleteKey r) clear h = apart-removed old.keys new.keys r h.keys apart
apart-changes old new apart (StartRoll roll olds news now) clear h =
    apart-mapped old.keys new.keys _ (λ q k. kept_started roll now _ _ k) h.keys apart
apart-changes old new apart (AbortRoll roll) clear h =
    apart-mapped old.keys new.keys _ (λ q k. kept_unmarked roll _ _ k) h.keys apart
apart-changes old new apart _ clear h = apart-mapped old.keys new.keys _ (λ q k. refl) h.keys apart

pub apart-step : (old new : KeySetParts) (call : Call) (reply : Reply) → TagsApart old.keys
    → Step old call reply new → TagsApart new.keys
apart-step old new call reply apart = step-keeps (λ (s : KeySetParts). TagsApart s.keys) old new
    call reply apart (apart-changes old new apart call)

-- a new set has no keys
pub apart-new : (name : List ℕ) → TagsApart (new_set name).keys
apart-new name q r k l e d same = grind (arith, get-empty {X = KeyParts} (slice_cmp nat_cmp) q)

-- ---- rolls

pub same-is : (a b : RollType) → same_roll a b ≡ true → a ≡ b
same-is = same_roll-is

pub apart-sym : (a b : Side) → are_apart a b ≡ are_apart b a
apart-sym a b = grind arith

-- what no roll passes, none of them passes
pub no_roll : (f : RollType → Bool) → list_any f all_rolls ≡ false → (q : RollType) → f q ≡ false
no_roll f none q = grind (arith, or_parts)

pub no_conflict : (roll : RollType) (rolls : Rolls) → conflict roll rolls ≡ None
    → has_conflict roll rolls ≡ false
unfolding conflict
no_conflict roll rolls e = (no_error (has_conflict roll rolls) _ _ (no_error _ _ _ e).1).0

goes_with : (roll q : RollType) (rolls : Rolls) → has_conflict roll rolls ≡ false
    → in_progress rolls q ≡ true → together roll q ≡ true
goes_with roll q rolls quiet there = grind (
  arith,
  no_roll (λ other. is_some (phase_of rolls other) && not (together roll other)) quiet q,
)

module _ (old : Rolls) (all : RollsTogether old) (roll : RollType) (phase : Option RollState)
  where
    -- a roll that was in progress
    together-moves : in_progress old roll ≡ true → RollsTogether (with_phase old roll phase)
    together-moves was a b x y = grind (arith, same-is roll a, same-is roll b, all a b)

    -- a roll that comes in, and beside which those in progress may be
    together-more : has_conflict roll old ≡ false → RollsTogether (with_phase old roll phase)
    together-more none a b x y = grind (
      arith,
      same-is roll a,
      same-is roll b,
      goes_with roll a old none,
      goes_with roll b old none,
      apart-sym (side_of roll) (side_of a),
      all a b,
    )

moves-together : (old new : KeySetParts) → RollsTogether old.rolls → (roll : RollType)
    (phase : Option RollState) → is_some (phase_of old.rolls roll) ≡ true
    → new.rolls ≡ with_phase old.rolls roll phase → RollsTogether new.rolls
moves-together old new all roll phase was is = rw is (together-moves old.rolls all roll phase was)

together-changes : (old new : KeySetParts) → RollsTogether old.rolls → (call : Call)
    → clearance old call ≡ Clear → Changes old call new → RollsTogether new.rolls
together-changes old new all (StartRoll roll olds news now) clear h =
    rw h.rolls (together-more old.rolls all roll (Some Propagation1)
    (no_conflict roll old.rolls (none_of_both _ _ (no_cause _ clear)).0))
together-changes old new all (Report roll half ttl now) clear h = moves-together old new all roll _
    (grind (arith, clear)) h.rolls
together-changes old new all (Wait roll half now) clear h = moves-together old new all roll _
    (grind (arith, clear)) h.rolls
together-changes old new all (RollDone roll) clear h = moves-together old new all roll None
    (ap is_some (finishes (phase_of old.rolls roll) (no_cause _ clear))) h.rolls
together-changes old new all (AbortRoll roll) clear h = moves-together old new all roll None
    (ap is_some (ends_early (phase_of old.rolls roll) (no_cause _ clear))) h.rolls
together-changes old new all _ clear h = rw h.rolls all

pub together-step : (old new : KeySetParts) (call : Call) (reply : Reply) → RollsTogether old.rolls
    → Step old call reply new → RollsTogether new.rolls
together-step old new call reply all = step-keeps (λ (s : KeySetParts). RollsTogether s.rolls) old
    new call reply all (together-changes old new all call)

-- a new set has no rolls
pub together-new : (name : List ℕ) → RollsTogether (new_set name).rolls
together-new name a b x y = absurd (true≢false (sym x))
