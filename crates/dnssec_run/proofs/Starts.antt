-- A start of an algorithm roll before each roll of KSKs or CSKs makes a list plain: until its first
-- wait is over, the algorithm roll is in the way of every such roll.
--
-- | Law             | Lemma            |
-- |-----------------|------------------|
-- | `StartsSuffice` | `starts-suffice` |
use Rattle.std.proofs.Common.{◌≡◌, ℕ, suc, ◌<◌, ◌≤◌, ◌⊎◌, inl, inr, Bool, true, false, sym, ◌∙◌, ap}
use Rattle.std.proofs.Common.{arith, List, length, Option, None, Some}
use Rattle.std.{specs.Prelude.◌≢◌, specs.Prelude.slice_get, proofs.lemmas.Bool.true≢false}
use Rattle.std.proofs.lemmas.{Bool.cases_Bool, Option.none-some, Option.slice_get_within}
use Rattle.dnssec_key.specs.declared.roll.RollType.{RollType, TheVariants.AlgorithmRoll}
use Rattle.dnssec_key.specs.declared.roll.RollState.{RollState}
use Rattle.dnssec_key.specs.declared.roll.RollState.TheVariants.{Propagation1, CacheExpire1}
use Rattle.dnssec_zone.specs.Rolls.{phase_of}
use Rattle.dnssec_keyset.proofs.{Changes.Changes, Laws.same-is, Laws.no_cause}
use Rattle.dnssec_keyset.specs.KeySet.{KeySetParts}
use Rattle.dnssec_run.specs.declared.{call.Call.Call, record.Entry.Entry}
use Rattle.dnssec_run.specs.Plain.{IsPlain, EndsNoneEarly, IsPlainByStarts}
use Rattle.dnssec_run.specs.Record.{IsRun, call_of, is_accepted, world_at}
use Rattle.dnssec_run.proofs.Chain.{Allowed.can_start, RollFacts.alone_first, Rolls.same-same}
use Rattle.dnssec_run.proofs.Premise.{DoesAt, early_end_of, first_wait_of, start_of, same-rolls}
use Rattle.dnssec_run.proofs.Premise.{first_wait-made, start-seen}
use Rattle.dnssec_run.proofs.WholeRolls.Replies.{world_of, did, does, idle, since}
use Rattle.dnssec_run.proofs.Effects.{phases}
use Rattle.dnssec_zone.specs.Wait as waits
use Rattle.dnssec_keyset.specs.Step as keyset

-- ---- one call

-- before its first wait is over
abbrev is_early : Option RollState → Bool
is_early (Some Propagation1) = true
is_early (Some (CacheExpire1 ttl)) = true
is_early _ = false

module _ (old new : KeySetParts) where
  abbrev IsEarly : KeySetParts → Type 0
  IsEarly set = is_early (phase_of set.rolls AlgorithmRoll) ≡ true

  -- only the end of its first wait takes an algorithm roll further
  moves-on : (c : keyset.Call) → keyset.clearance old c ≡ waits.Clear → Changes old c new
      → early_end_of c ≢ Some AlgorithmRoll → IsEarly old → (first_wait_of c ≡ Some AlgorithmRoll)
      ⊎ IsEarly new
  moves-on c v m none e = grind (arith, same-is, phases old new c m AlgorithmRoll, v, none, e)

  -- a started one is before it
  started : (c : keyset.Call) → Changes old c new → start_of c ≡ Some AlgorithmRoll → IsEarly new
  started c m s = grind (arith, phases old new c m AlgorithmRoll, same-same)

-- if the start of a roll is accepted, no algorithm roll is in progress
alone : (set : KeySetParts) (c : keyset.Call) → keyset.clearance set c ≡ waits.Clear
    → (roll : RollType) → start_of c ≡ Some roll → phase_of set.rolls AlgorithmRoll ≡ None
alone set (keyset.StartRoll r olds news now) v roll s =
    (can_start (world_of set) r olds news (no_cause _ v)).alone AlgorithmRoll (alone_first r)
alone set _ v roll s = absurd (none-some roll s)

-- ---- the run

module _ {name : List ℕ} {calls : List Call} {entries : List Entry} (run : IsRun name calls entries)
    (none : EndsNoneEarly calls) where
  abbrev set_at : ℕ → KeySetParts
  set_at n = (world_at name calls entries n).set

  -- an algorithm roll is past its first wait, or before it
  abbrev Began : ℕ → Type 0
  Began n = ((m : ℕ) × (m < n) × DoesAt first_wait_of calls entries m AlgorithmRoll)
      ⊎ (is_early (phase_of (set_at n).rolls AlgorithmRoll) ≡ true)

  began-next : (n : ℕ) (c : Call) (e : Entry) → slice_get calls n ≡ Some c
      → slice_get entries n ≡ Some e → Began n → Began (suc n)
  began-next n c e ci ei (inl w) = inl (w.0, omega (arith, w.1), w.2)
  began-next n c e ci ei (inr h) = elim (cases_Bool (is_accepted e.reply)) [
    | inl t ↦
        let x = did run n c e ci ei t in
        elim (moves-on (set_at n) (set_at (suc n)) (call_of c) x.0 x.1
        (λ ends. none n c AlgorithmRoll ci ((same-rolls c).2 ∙ ends)) h) [
          | inl passes ↦
              inl (n, omega arith, does run first_wait_of AlgorithmRoll n c e ci ei t passes)
          | inr early ↦ inr early
        ]
    | inr t ↦ inr (ap (λ (x : KeySetParts). is_early (phase_of x.rolls AlgorithmRoll))
        (idle run n c e ci ei t) ∙ h)
  ]

  began : (m : ℕ) → DoesAt start_of calls entries m AlgorithmRoll → (n : ℕ) → m < n
      → n ≤ length entries → Began n
  began m s = since run Began (suc m) (inr (started (set_at m) (set_at (suc m)) (call_of s.call)
      (did run m s.call s.entry s.call_is s.entry_is s.accepted).1 s.roll_is))
      (λ n c e later within. began-next n c e)

  -- so it is past its first wait when another roll starts
  pub starts-suffice : IsPlainByStarts name calls entries → IsPlain name calls entries
  starts-suffice plain = record {
    setters = plain.setters;
    first = λ n roll wants start.
        let a = plain.first n roll wants start in
        let s = start-seen calls entries n roll start in
        let lt = slice_get_within entries n s.entry s.entry_is in
        elim (began a.0 (start-seen calls entries a.0 AlgorithmRoll a.2) n a.1 (omega arith)) [
          | inl w ↦ (w.0, w.1, first_wait-made calls entries w.0 AlgorithmRoll w.2)
          | inr early ↦ absurd (true≢false (sym early ∙ ap is_early (alone (set_at n)
              (call_of s.call) (did run n s.call s.entry s.call_is s.entry_is s.accepted).0 roll
              s.roll_is)))
        ];
  }
