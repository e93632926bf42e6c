-- A key has the algorithm that the call gave it which added it.
use Rattle.std.proofs.Common.{◌≡◌, ℕ, zero, suc, ◌≤◌, true, refl, sym, ◌∙◌, ap, arith, List, length}
use Rattle.std.proofs.Common.{inl, inr, Some}
use Rattle.std.proofs.lemmas.{Bool.cases_Bool, Bool.true≢false, Option.none-some}
use Rattle.std.specs.{Option.option_map_or, FinMap.get, FinMap.get-empty, Ordering.nat_cmp}
use Rattle.std.specs.Cmp.Lexicographic.{slice_cmp}
use Rattle.dnssec_keyset.specs.KeySet.{KeySetParts}
use Rattle.dnssec_run.specs.declared.call.Call.{Call}
use Rattle.dnssec_run.specs.ByAlgorithm.{added_algorithm, algorithm_at}
use Rattle.dnssec_run.proofs.Effects.{accepted_step, refused_step, moved_key, key_added, came}
use Rattle.dnssec_run.proofs.Effects.{added-at, added-same}
use Rattle.dnssec_run.proofs.Chain.Tale.{Tale, Key, world_at}
use Rattle.dnssec_run.proofs.Chain.Places.{Place, place_at, real}
use Rattle.dnssec_keyset.specs.Step as keyset
use Rattle.dnssec_zone.specs.Wait as waits
use Rattle.dnssec_run.specs.Record as rec

-- no call changes the algorithm of a key
moved-algorithm : (set : KeySetParts) (c : keyset.Call) (q : List ℕ) (k : Key)
    → (moved_key set c q k).algorithm ≡ k.algorithm
moved-algorithm set c q k = grind arith

-- an added key has that of its call
added-key : (c : keyset.Call) (k : Key) → key_added c ≡ Some k → added_algorithm c ≡ k.algorithm
added-key c k e = grind arith

-- ---- one call

-- the call that made the key at each reference gave it its algorithm
abbrev Given : Tale → ℕ → Type 0
Given tale n = (q : List ℕ) (k : Key) → (world_at tale n).key q ≡ Some k
    → algorithm_at tale.calls ((world_at tale n).added q) ≡ k.algorithm

module _ (tale : Tale) (n : ℕ) (p : Place tale n) (given : Given tale n) where
  abbrev c : keyset.Call
  c = rec.call_of p.call

  abbrev old : KeySetParts
  old = (real tale n).set

  abbrev new : KeySetParts
  new = (real tale (suc n)).set

  abbrev was : List ℕ → ℕ
  was = (world_at tale n).added

  -- a key that was there, and stays
  stays : (rec.is_accepted p.entry.reply ≡ true → keyset.clearance old c ≡ waits.Clear)
      → (q : List ℕ) (j k : Key) → get old.keys q ≡ Some j → j.algorithm ≡ k.algorithm
      → algorithm_at tale.calls ((world_at tale (suc n)).added q) ≡ k.algorithm
  stays clear q j k there same = ap (algorithm_at tale.calls) (ap (λ f. f q) p.added_is
      ∙ added-same (suc n) p.call p.entry.reply was old clear q j there) ∙ given q j there ∙ same

  given_next : Given tale (suc n)
  given_next q k e = elim (cases_Bool (rec.is_accepted p.entry.reply)) [
    | inl t ↦ let step = accepted_step old new c p.entry.reply t p.ok.step in
        elim (came old new c step.1 q k e) [
          | inl a ↦
              let here : (world_at tale (suc n)).added q ≡ suc n =
              grind (arith, ap (λ f. f q) p.added_is, added-at (suc n) c was q) in
              ap (algorithm_at tale.calls) here ∙ ap (λ o. option_map_or
              (λ (c : Call). added_algorithm (rec.call_of c)) o 0) p.call_is ∙ added-key c k a.1
          | inr b ↦ stays (λ t. step.0) q b.0 k b.1
              (sym (moved-algorithm old c q b.0) ∙ ap (λ (k : Key). k.algorithm) b.2)
        ]
    | inr t ↦ stays (λ u. absurd (true≢false (sym u ∙ t))) q k k
        (sym (ap (λ (s : KeySetParts). get s.keys q)
        (refused_step old new c p.entry.reply t p.ok.step)) ∙ e) refl
  ]

-- ---- the whole run

pub has-algorithm : (tale : Tale) (n : ℕ) → n ≤ length tale.es → Given tale n
unfolding rec.world_at
has-algorithm tale zero le q k e = absurd (none-some k (sym (get-empty (slice_cmp nat_cmp) q) ∙ e))
has-algorithm tale (suc n) le q k e =
    given_next tale n (place_at tale n le) (has-algorithm tale n (omega arith)) q k e
