-- Automatic calls aren't by hand; and the first call that is, call by call.
use Rattle.std.proofs.Common.{◌≡◌, ℕ, zero, suc, ◌≤◌, ◌⊎◌, inl, inr, Bool, true, false, List, []}
use Rattle.std.proofs.Common.{◌∷◌, ◌++◌, Option, None, Some, length, length-append, refl, sym, ap}
use Rattle.std.proofs.{Common.◌∙◌, Common.arith, lemmas.Bool.true≢false}
use Rattle.std.specs.Prelude.{◌&&◌, if◌then◌else◌, not, slice_get}
use Rattle.std.specs.Option.{option_or}
use Rattle.dnssec_keyset.specs.KeySet.{KeySetParts}
use Rattle.dnssec_keyset.specs.Step as keyset
use Rattle.dnssec_run.specs.declared.{call.Call.Call, record.Entry.Entry}
use Rattle.dnssec_run.specs.Record.{call_of, is_accepted, world_at}
use Rattle.dnssec_run.proofs.Grow.{at_end, front, world_front}
use Rattle.dnssec_run.specs.declared.call.Call.TheVariants as call
use Rattle.dnssec_policy.specs.declared.{policy.Policy.Policy, why.Why.Why}
use Rattle.dnssec_policy.specs.Automatic.{is_add}
use Rattle.dnssec_policy.specs.ByHand.{at_if_by_hand, by_hand_at, first_by_hand, is_by_hand}
use Rattle.dnssec_policy.specs.{ByHand.is_others, Laws.AutomaticRunsAreUntouched}
use Rattle.dnssec_policy.specs.Next.{answer_of, lasts, next_of, stuck_of, unless_by_hand}
use Rattle.dnssec_policy.specs.Next.{task_of, unless_lasting}
use Rattle.dnssec_policy.specs.{Todo.Make, Todo.NotBefore, Todo.Stuck, Todo.Todo, View.View}
use Rattle.dnssec_policy.proofs.{PlainCalls.only, May.May, Said.may, Said.task-said}

-- ---- automatic calls

-- a call that adds a key or is said
abbrev IsOf : Call → Type 0
IsOf c = (is_add c ≡ true) ⊎ ((policy : Policy) × (v : View) × May policy v (call_of c))

untouched-by : (set : KeySetParts) (c : Call) → IsOf c → is_by_hand set c ≡ false
untouched-by set (call.AbortRoll roll) (inl h) = absurd (true≢false (sym h))
untouched-by set (call.AbortRoll roll) (inr m) = absurd m.2
untouched-by set c x = ap not (only (is_others set) c x)

none-at : (set : KeySetParts) (c : Option Call) (e : Option Entry) (at : ℕ)
    → ((d : Call) → c ≡ Some d → IsOf d) → by_hand_at set c e at ≡ None
none-at set (Some c) (Some e) at of =
    ap (λ t. if t && is_accepted e.reply then Some at else None)
    (untouched-by set c (of c refl))
none-at set None e at of = refl
none-at set (Some c) None at of = refl

pub untouched : AutomaticRunsAreUntouched
unfolding first_by_hand
untouched name calls entries network time zero auto = refl
untouched name calls entries network time (suc n) auto =
    let here = none-at (world_at name calls entries n).set (slice_get calls n)
    (slice_get entries n) (suc n) (λ c is. elim (auto n c is) [
      | inl a ↦ inl a
      | inr s ↦ inr (s.policy, s.view, may s.policy s.view (call_of c) s.said)
    ]) in
    λ i. option_or (untouched name calls entries network time n auto i) (here i)

-- ---- call by call

first-front : (name : List ℕ) (cs ds : List Call) (es fs : List Entry) (n : ℕ) → n ≤ length cs
    → n ≤ length es
    → first_by_hand name (cs ++ ds) (es ++ fs) n ≡ first_by_hand name cs es n
unfolding first_by_hand
first-front name cs ds es fs zero lc le = refl
first-front name cs ds es fs (suc n) lc le =
    let rest = first-front name cs ds es fs n (omega (arith, lc)) (omega (arith, le)) in
    let world = world_front name cs ds es fs n (omega (arith, lc)) (omega (arith, le)) in
    λ i. option_or (rest i) (by_hand_at (world i).set (front cs ds n (omega (arith, lc)) i)
    (front es fs n (omega (arith, le)) i) (suc n))

pub first-follows : (name : List ℕ) (cs : List Call) (es : List Entry) (c : Call) (e : Entry)
    (old : Option ℕ) → length es ≡ length cs → old ≡ first_by_hand name cs es (length es)
    → option_or old (at_if_by_hand (is_by_hand (world_at name cs es (length es)).set c) e.reply
    (suc (length es)))
    ≡ first_by_hand name (cs ++ c ∷ []) (es ++ e ∷ []) (length (es ++ e ∷ []))
unfolding first_by_hand
first-follows name cs es c e old count was =
    let call : slice_get (cs ++ c ∷ []) (length es) ≡ Some c =
    ap (slice_get (cs ++ c ∷ [])) count ∙ at_end cs c in
    let before = first-front name cs (c ∷ []) es (e ∷ []) (length es) (omega (arith, count))
    (omega arith) in
    let world = world_front name cs (c ∷ []) es (e ∷ []) (length es) (omega (arith, count))
    (omega arith) in
    let total : suc (length es) ≡ length (es ++ e ∷ []) =
    omega (arith, length-append es (e ∷ [])) in
    (λ i. option_or ((was ∙ sym before) i) (by_hand_at (sym world i).set (sym call i)
    (sym (at_end es e) i) (suc (length es))))
    ∙ ap (first_by_hand name (cs ++ c ∷ []) (es ++ e ∷ [])) total

-- ---- a call that is answered was said

not-made : (b : Bool) (why : Why) (moment : ℕ) (c : keyset.Call)
    → (if b then Stuck why else NotBefore moment) ≡ Make c → ⊥
not-made true why moment c e = absurd (cc)
not-made false why moment c e = absurd (cc)

still-made : (by_hand : Option ℕ) (why : Option Why) (todo : Todo) (c : keyset.Call)
    → unless_by_hand by_hand (unless_lasting why todo) ≡ Make c → todo ≡ Make c
still-made (Some at) why todo c e = absurd (cc)
still-made None None todo c e = e
still-made None (Some why) (NotBefore moment) c e =
    absurd (not-made (lasts why) why moment c e)
still-made None (Some why) _ c e = e

pub answered : (policy : Policy) (by_hand : Option ℕ) (v : View) (c : keyset.Call)
    → answer_of policy by_hand v ≡ Make c → task_of policy v ≡ Make c
answered policy by_hand v c e =
    task-said policy v c (still-made by_hand (stuck_of policy v) (next_of policy v) c e)
