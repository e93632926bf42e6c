-- What an accepted call did, and that a refused one did nothing; and rolls in progress beside one
-- another, over one call: for the laws of runs.
use Rattle.std.proofs.Common.{◌≡◌, ℕ, suc, true, false, List, Some, refl, sym, subst, inl, inr, ◌⊎◌}
use Rattle.std.proofs.Common.{◌∙◌, ap, zero, ◌≤◌, length, arith}
use Rattle.std.proofs.lemmas.Bool.{cases_Bool, cases_lt, true_from_ne_false}
use Rattle.std.specs.Prelude.{Option, slice_get, is_some}
use Rattle.std.{specs.Option.option_map_or, specs.FinMap.get, proofs.lemmas.Option.none-some}
use Rattle.dnssec_key.specs.declared.roll.{RollType.RollType, RollState.RollState}
use Rattle.dnssec_key.specs.Key.{KeyParts}
use Rattle.dnssec_zone.specs.Rolls.{phase_of, same_roll}
use Rattle.dnssec_zone.specs.Start.{together, lists_kind, side_of}
use Rattle.dnssec_keyset.proofs.{Changes.Changes, Sides.leaves-others, Laws.no_cause}
use Rattle.dnssec_keyset.specs.KeySet.{KeySetParts}
use Rattle.dnssec_keyset.specs.Laws.{LeavesOthers, RollsTogether, roll_of}
use Rattle.dnssec_run.specs.Record.{call_moment, IsRun, reply_of, is_accepted, call_of, world_at}
use Rattle.dnssec_run.specs.Record.{added_by, mark_after}
use Rattle.dnssec_run.specs.{WholeRolls.IsMade, Safe.position_at, declared.call.Call.Call}
use Rattle.dnssec_run.specs.declared.record.{Entry.Entry, Mark.TheVariants.Other}
use Rattle.dnssec_run.specs.Published.{World}
use Rattle.dnssec_run.proofs.Effects.{accepted_step, refused_step, is_on}
use Rattle.dnssec_run.proofs.{Next.mark-accepted, Next.mark-refused, Laws.made-at, Premise.DoesAt}
use Rattle.dnssec_run.proofs.Chain.{Trust.mark, Trust.plainly, Allowed.can_start, Facts.other}
use Rattle.dnssec_zone.specs.Wait as waits
use Rattle.dnssec_keyset.specs.Step as keyset

-- ---- positions

module _ {name : List ℕ} {calls : List Call} {entries : List Entry}
    (run : IsRun name calls entries) where
  -- the mark and the moment at the position of a call
  pub position-is : (n : ℕ) (c : Call) (e : Entry) → slice_get calls n ≡ Some c
      → slice_get entries n ≡ Some e
      → ((position_at entries (suc n)).mark ≡ mark_after c e.reply)
      × ((position_at entries (suc n)).moment ≡ call_moment c)
  unfolding position_at
  position-is n c e ci ei = let ok = run.each n c e ci ei in (rw ei ok.mark, rw ei ok.moment)

  -- a call that is made is a step
  pub step-made : (n : ℕ) (call : keyset.Call) (made : IsMade calls entries n call)
      → keyset.Step (world_at name calls entries n).set call (reply_of made.entry.reply)
      (world_at name calls entries (suc n)).set
  step-made n call made =
      subst (λ c. keyset.Step (world_at name calls entries n).set c (reply_of made.entry.reply)
      (world_at name calls entries (suc n)).set) made.call_is
      (run.each n made.made made.entry made.made_is made.entry_is).step

  -- the position at which a key was added, from one position to the next
  pub added-next : (n : ℕ) (c : Call) (e : Entry) → slice_get calls n ≡ Some c
      → slice_get entries n ≡ Some e → (world_at name calls entries (suc n)).added
      ≡ added_by (suc n) c e.reply (world_at name calls entries n).added
  unfolding world_at
  added-next n c e ci ei = rw (ci, ei) refl

  -- what a call did that was accepted, and that one that wasn't did nothing
  module _ (n : ℕ) (c : Call) (e : Entry) (ci : slice_get calls n ≡ Some c)
      (ei : slice_get entries n ≡ Some e) where
    abbrev old : KeySetParts
    old = (world_at name calls entries n).set

    abbrev new : KeySetParts
    new = (world_at name calls entries (suc n)).set

    pub did : is_accepted e.reply ≡ true → (keyset.clearance old (call_of c) ≡ waits.Clear)
        × Changes old (call_of c) new × (reply_of e.reply ≡ keyset.accepted_reply (call_of c))
    did ok = accepted_step old new (call_of c) e.reply ok (run.each n c e ci ei).step

    pub idle : is_accepted e.reply ≡ false → new ≡ old
    idle t = refused_step old new (call_of c) e.reply t (run.each n c e ci ei).step

    -- it was refused, and nothing happened; or it was clear, and did what its answer and mark say
    pub outcome : ((is_accepted e.reply ≡ false) × (new ≡ old)
        × ((position_at entries (suc n)).mark ≡ Other))
        ⊎ ((is_accepted e.reply ≡ true) × (keyset.clearance old (call_of c) ≡ waits.Clear)
        × Changes old (call_of c) new × LeavesOthers old (call_of c) new
        × (reply_of e.reply ≡ keyset.accepted_reply (call_of c))
        × ((position_at entries (suc n)).mark ≡ mark (call_of c)))
    outcome =
        let step = (run.each n c e ci ei).step in
        let here = (position-is n c e ci ei).0 in
        elim (cases_Bool (is_accepted e.reply)) [
          | inl t ↦ let x = did t in inr (
            t,
            x.0,
            x.1,
            leaves-others old new (call_of c) (reply_of e.reply) step,
            x.2,
            here ∙ sym (mark-accepted c e.reply t) ∙ (plainly c).mark_is,
          )
          | inr t ↦ inl (t, idle t, here ∙ sym (mark-refused c e.reply t))
        ]

  -- what holds at a position and is kept by each later call
  pub since : (P : ℕ → Type 0) (s : ℕ) → P s → ((n : ℕ) (c : Call) (e : Entry) → s ≤ n
      → suc n ≤ length entries → slice_get calls n ≡ Some c → slice_get entries n ≡ Some e → P n
      → P (suc n)) → (n : ℕ) → s ≤ n → n ≤ length entries → P n
  since P s begun next zero later within = let same : s ≡ 0 = omega arith in
      subst P same begun
  since P s begun next (suc n) later within = elim (cases_lt n s) [
    | inl lt ↦ let same : s ≡ suc n = omega arith in subst P same begun
    | inr ge ↦ let x = made-at run n within in next n x.0 x.1 ge within x.2 x.3
        (since P s begun next n ge (omega arith))
  ]

  -- an accepted call does what it does for the roll
  pub does : (f : keyset.Call → Option RollType) (roll : RollType) (n : ℕ) (c : Call) (e : Entry)
      → slice_get calls n ≡ Some c → slice_get entries n ≡ Some e → is_accepted e.reply ≡ true
      → f (call_of c) ≡ Some roll → DoesAt f calls entries n roll
  does f roll n c e ci ei ok is =
      record { call = c; entry = e; call_is = ci; entry_is = ei; accepted = ok; roll_is = is }

  -- the same of a call that is made
  pub did-made : (n : ℕ) (call : keyset.Call) (made : IsMade calls entries n call)
      → is_accepted made.entry.reply ≡ true
      → (keyset.clearance (world_at name calls entries n).set call ≡ waits.Clear)
      × Changes (world_at name calls entries n).set call (world_at name calls entries (suc n)).set
  did-made n call made ok = let x = accepted_step (world_at name calls entries n).set
      (world_at name calls entries (suc n)).set call made.entry.reply ok (step-made n call made) in
      (x.0, x.1)

-- a set as a world, for what a start or a wait says
abbrev pub world_of : KeySetParts → World
world_of set = record { set = set; added = λ q. 0 }

module _ (set : KeySetParts) (r : RollType) (y : RollState) (there : phase_of set.rolls r ≡ Some y)
  where
    -- a roll that starts goes with each roll in progress
    pub start-beside : (q : RollType) (olds news : List (List ℕ)) (now : ℕ)
        → keyset.clearance set (keyset.StartRoll q olds news now) ≡ waits.Clear
        → together q r ≡ true
    start-beside q olds news now v = true_from_ne_false (together q r) (λ t. none-some y
        (sym ((can_start (world_of set) q olds news (no_cause _ v)).alone r t) ∙ there))

    module _ (all : RollsTogether set.rolls) where
      beside : (q : RollType) (x : RollState) → phase_of set.rolls q ≡ Some x
          → same_roll q r ≡ false → together q r ≡ true
      beside q x e aside = let both = all q r (ap is_some e) (ap is_some there) in grind arith

      -- the roll of each other call goes with it
      goes_beside : (c : keyset.Call) → keyset.clearance set c ≡ waits.Clear → is_on c r ≡ false
          → option_map_or (λ (q : RollType). together q r) (roll_of c) true ≡ true
      goes_beside (keyset.StartRoll q olds news now) v aside = start-beside q olds news now v
      goes_beside c v aside = grind (arith, beside, v)

      pub runs-beside : (c : keyset.Call) → keyset.clearance set c ≡ waits.Clear
          → is_on c r ≡ false → (q : RollType) → roll_of c ≡ Some q → together q r ≡ true
      runs-beside c v aside q on = let goes = goes_beside c v aside in grind arith

      -- so the call leaves the keys that this roll lists
      pub leaves-beside : (after : KeySetParts) (c : keyset.Call)
          → keyset.clearance set c ≡ waits.Clear → is_on c r ≡ false → LeavesOthers set c after
          → (p : RollType) → roll_of c ≡ Some p → (q : List ℕ) (k : KeyParts)
          → get set.keys q ≡ Some k → lists_kind (side_of r) k.keytype ≡ true
          → get after.keys q ≡ Some k
      leaves-beside after c v aside leaves p on q k e own =
          leaves p q k on e (other p r k.keytype (runs-beside c v aside p on) own)
