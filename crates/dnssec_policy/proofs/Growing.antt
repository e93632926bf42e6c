-- What was said of a record was said of each longer one.
use Rattle.std.proofs.Common.{◌≡◌, ℕ, zero, suc, ◌+◌, ◌<◌, ◌≤◌, ◌⊎◌, inl, inr, Bool, true, false}
use Rattle.std.proofs.Common.{List, [], ◌∷◌, ◌++◌, Option, None, Some, length, length-append, refl}
use Rattle.std.proofs.Common.{sym, ap, subst, ◌∙◌, arith}
use Rattle.std.proofs.Math.Bool.{and-false, and-true}
use Rattle.std.proofs.lemmas.{Bool.cases_lt, Option.same_Some, Option.slice_get_within}
use Rattle.std.specs.Prelude.{if◌then◌else◌, slice_get, ◌&&◌}
use Rattle.std.specs.Option.{option_map, option_map_or}
use Rattle.dnssec_key.specs.declared.roll.RollType.{RollType}
use Rattle.dnssec_run.specs.declared.call.Call.{Call, TheVariants.CacheExpired2}
use Rattle.dnssec_zone.specs.Rolls.{same_roll}
use Rattle.dnssec_run.specs.{Record.is_accepted, declared.record.Entry.Entry, Published.World}
use Rattle.dnssec_run.specs.Safe.{base_below, blank, is_step, position_at, position_of}
use Rattle.dnssec_run.specs.Steps.{last_step, origins_at, step_at}
use Rattle.dnssec_run.proofs.Chain.History.{base-lies-below}
use Rattle.dnssec_run.proofs.Grow.{at_end, front, world_front}
use Rattle.dnssec_run.proofs.Since.{origin-kept, origin-of, same-origins}
use Rattle.dnssec_network.specs.Network.{Network}
use Rattle.dnssec_policy.specs.Automatic.{IsSaid, is_add, is_last, last_below}
use Rattle.dnssec_policy.specs.Code.{accepted_wait, is_wait_of, second_wait_of}
use Rattle.dnssec_policy.specs.Laws.{AutomaticRunsGrow}

module _ (es fs : List Entry) where
  position-front : (n : ℕ) → n ≤ length es → position_at (es ++ fs) n ≡ position_at es n
  unfolding position_at
  position-front zero le = refl
  position-front (suc n) le = ap (λ o. option_map_or position_of o blank)
      (front es fs n (omega (arith, le)))

  base-front : (roll : RollType) (n : ℕ) → n ≤ suc (length es)
      → base_below (es ++ fs) roll n ≡ base_below es roll n
  unfolding base_below
  base-front roll zero le = refl
  base-front roll (suc n) le =
      λ i. if is_step roll (position-front n (omega (arith, le)) i).mark then Some n
      else base-front roll n (omega (arith, le)) i

  step-same : (roll : RollType) (n : ℕ) → n ≤ length es → (below : Option ℕ)
      → base_below es roll (suc n) ≡ below
      → option_map (step_at (es ++ fs)) below ≡ option_map (step_at es) below
  step-same roll n le None is = refl
  step-same roll n le (Some b) is =
      let lies = base-lies-below es roll (suc n) b is in
      let same = same-origins (origins_at (es ++ fs) b) es b (λ kind.
      origin-of (es ++ fs) b kind ∙ origin-kept (es ++ fs) es kind n
      (λ q within. position-front q (omega (arith, within, le))) b (omega (arith, lies))) in
      λ i. Some (record { at = b; origins = same i })

  -- a step leaves the same sets in both
  step-front : (roll : RollType) (n : ℕ) → n ≤ length es
      → last_step (es ++ fs) roll (suc n) ≡ last_step es roll (suc n)
  step-front roll n le =
      ap (option_map (step_at (es ++ fs))) (base-front roll (suc n) (omega (arith, le)))
      ∙ step-same roll n le (base_below es roll (suc n)) refl

module _ (cs ds : List Call) (es fs : List Entry) where
  last-front : (roll : RollType) (n : ℕ) → n ≤ length cs → n ≤ length es
      → last_below (cs ++ ds) (es ++ fs) roll n ≡ last_below cs es roll n
  unfolding last_below
  last-front roll zero lc le = refl
  last-front roll (suc n) lc le =
      λ i. if is_last roll (front cs ds n (omega (arith, lc)) i)
      (front es fs n (omega (arith, le)) i)
      then Some (suc n) else last-front roll n (omega (arith, lc)) (omega (arith, le)) i

  said-front : (name : List ℕ) (network : Network) (time n : ℕ) (c : Call) → n ≤ length cs
      → n ≤ length es → IsSaid name cs es network time n c
      → IsSaid name (cs ++ ds) (es ++ fs) network time n c
  said-front name network time n c lc le s = record {
    policy = s.policy;
    view = s.view;
    at = record {
      set = s.at.set ∙ ap (λ (w : World). w.set) (sym (world_front name cs ds es fs n lc le));
      step = λ roll. s.at.step roll ∙ sym (step-front es fs roll n le);
      last = λ roll. s.at.last roll ∙ sym (last-front roll n lc le);
      end = s.at.end;
      highest = s.at.highest;
      are_true = s.at.are_true;
    };
    clock = s.clock;
    said = s.said;
  }

-- ---- last second waits, call by call

if-accepted : (roll other : RollType) (t : Bool)
    → (same_roll roll other && t) ≡ is_wait_of roll (if t then Some other else None)
if-accepted roll other true = and-true (same_roll roll other)
if-accepted roll other false = and-false (same_roll roll other)

no-wait : (roll : RollType) (t : Bool) → false ≡ is_wait_of roll (if t then None else None)
no-wait roll true = refl
no-wait roll false = refl

wait-seen : (roll : RollType) (c : Call) (e : Entry) → is_last roll (Some c) (Some e)
    ≡ is_wait_of roll (accepted_wait e.reply (second_wait_of c))
wait-seen roll (CacheExpired2 other now) e = if-accepted roll other (is_accepted e.reply)
wait-seen roll _ e = no-wait roll (is_accepted e.reply)

pub lasts-follow : (cs : List Call) (es : List Entry) (c : Call) (e : Entry) (roll : RollType)
    (old : Option ℕ) → length es ≡ length cs → old ≡ last_below cs es roll (length es)
    → (if is_wait_of roll (accepted_wait e.reply (second_wait_of c)) then Some (suc (length es))
    else old) ≡ last_below (cs ++ c ∷ []) (es ++ e ∷ []) roll (length (es ++ e ∷ []))
unfolding last_below
lasts-follow cs es c e roll old count was =
    let call : slice_get (cs ++ c ∷ []) (length es) ≡ Some c =
    ap (slice_get (cs ++ c ∷ [])) count ∙ at_end cs c in
    let test : is_wait_of roll (accepted_wait e.reply (second_wait_of c))
    ≡ is_last roll (slice_get (cs ++ c ∷ []) (length es)) (slice_get (es ++ e ∷ []) (length es)) =
    sym (wait-seen roll c e) ∙ (λ i. is_last roll (sym call i) (sym (at_end es e) i)) in
    let rest = was ∙ sym (last-front cs (c ∷ []) es (e ∷ []) roll (length es) (omega (arith, count))
    (omega arith)) in
    let total : suc (length es) ≡ length (es ++ e ∷ []) =
    omega (arith, length-append es (e ∷ [])) in
    (λ i. if test i then Some (suc (length es)) else rest i)
    ∙ ap (last_below (cs ++ c ∷ []) (es ++ e ∷ []) roll) total

pub grows : AutomaticRunsGrow
grows name cs es network time c e same auto more n d di = elim (cases_lt n (length cs)) [
  | inl lt ↦ elim (auto n d (sym (front cs (c ∷ []) n lt) ∙ di)) [
    | inl a ↦ inl a
    | inr s ↦ inr (said-front cs (c ∷ []) es (e ∷ []) name network time n d (omega (arith, lt))
        (omega (arith, lt, same)) s)
  ]
  | inr ge ↦
      let bound : n < length (cs ++ c ∷ []) = slice_get_within (cs ++ c ∷ []) n d di in
      let total : length (cs ++ c ∷ []) ≡ length cs + 1 = length-append cs (c ∷ []) in
      let here : length cs ≡ n = omega (arith, bound, total, ge) in
      let it : c ≡ d = same_Some c d (sym (at_end cs c)
      ∙ ap (slice_get (cs ++ c ∷ [])) here ∙ di) in
      subst (λ n. (is_add d ≡ true)
      ⊎ IsSaid name (cs ++ c ∷ []) (es ++ e ∷ []) network time n d) here
      (subst (λ d. (is_add d ≡ true)
      ⊎ IsSaid name (cs ++ c ∷ []) (es ++ e ∷ []) network time (length cs) d) it
      (elim more [
        | inl a ↦ inl a
        | inr s ↦ inr (said-front cs (c ∷ []) es (e ∷ []) name network time (length cs) c
            (omega arith) (omega (arith, same)) s)
      ]))
]
