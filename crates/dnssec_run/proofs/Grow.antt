-- A run goes on by one call, and its record by one entry.
use Rattle.std.proofs.Common.{◌≡◌, ℕ, zero, suc, ◌+◌, ◌<◌, ◌≤◌, inl, inr, refl, sym, ◌∙◌, ap, subst}
use Rattle.std.proofs.Common.{arith, List, [], ◌∷◌, ◌++◌, length, Some, length-append}
use Rattle.std.proofs.lemmas.{Option.same_Some, Option.slice_get_within, Bool.cases_lt}
use Rattle.std.specs.Prelude.{slice_get}
use Rattle.dnssec_run.specs.Record.{IsRun, IsEntry, world_at, world_after, world_next, new_world}
use Rattle.dnssec_run.specs.{declared.call.Call.Call, declared.record.Entry.Entry, Published.World}

pub front : {A : Type 0} (xs ys : List A) (i : ℕ) → i < length xs → slice_get (xs ++ ys) i
    ≡ slice_get xs i
front [] ys i lt = absurd (omega arith)
front (x ∷ xs) ys zero lt = refl
front (x ∷ xs) ys (suc i) lt = front xs ys i (omega arith)

pub at_end : {A : Type 0} (xs : List A) (y : A) → slice_get (xs ++ y ∷ []) (length xs) ≡ Some y
at_end [] y = refl
at_end (x ∷ xs) y = at_end xs y

module _ (name : List ℕ) where
  pub world_front : (cs ds : List Call) (es fs : List Entry) (n : ℕ) → n ≤ length cs → n ≤ length es
      → world_at name (cs ++ ds) (es ++ fs) n ≡ world_at name cs es n
  unfolding world_at
  world_front cs ds es fs zero lc le = refl
  world_front cs ds es fs (suc n) lc le =
      λ i. world_next (suc n) (world_front cs ds es fs n (omega arith) (omega arith) i)
      (front cs ds n lc i) (front es fs n le i)

  -- the world after one more call
  pub world_more : (cs : List Call) (es : List Entry) (c : Call) (e : Entry) → length es ≡ length cs
      → world_at name (cs ++ c ∷ []) (es ++ e ∷ []) (suc (length cs))
      ≡ world_after (suc (length cs)) (world_at name cs es (length cs)) c e.reply
  unfolding world_at
  world_more cs es c e same =
      λ i. world_next (suc (length cs))
      (world_front cs (c ∷ []) es (e ∷ []) (length cs) (omega arith) (omega arith) i)
      (at_end cs c i) ((subst (λ n. slice_get (es ++ e ∷ []) n ≡ Some e) same (at_end es e)) i)

  pub run_none : IsRun name [] []
  run_none = record {
    count = refl;
    each = λ n c e ci ei. absurd (let h = slice_get_within {A = Call} [] n c ci in omega arith);
  }

  pub run_more : (cs : List Call) (es : List Entry) (c : Call) (e : Entry) (after : World)
      → IsRun name cs es
      → after ≡ world_after (suc (length cs)) (world_at name cs es (length cs)) c e.reply
      → IsEntry (world_at name cs es (length cs)) after c e
      → IsRun name (cs ++ c ∷ []) (es ++ e ∷ [])
  run_more cs es c e after run next ok = record {
    count = simp length-append (omega (arith, run.count));
    each = λ n d f di fi. elim (cases_lt n (length cs)) [
      | inl lt ↦ rw (before n (omega arith), before (suc n) lt)
          (run.each n d f (sym (front cs (c ∷ []) n lt) ∙ di)
          (sym (front es (e ∷ []) n (omega (arith, run.count))) ∙ fi))
      | inr ge ↦
          let bound : n < length (cs ++ c ∷ []) = slice_get_within (cs ++ c ∷ []) n d di in
          let total : length (cs ++ c ∷ []) ≡ length cs + 1 = length-append cs (c ∷ []) in
          let here : length cs ≡ n = omega arith in
          subst (λ n. slice_get (cs ++ c ∷ []) n ≡ Some d → slice_get (es ++ e ∷ []) n ≡ Some f
          → IsEntry (then n) (then (suc n)) d f) here (last d f) di fi
    ];
  }
    where
      then : ℕ → World
      then = world_at name (cs ++ c ∷ []) (es ++ e ∷ [])

      before : (n : ℕ) → n ≤ length cs → then n ≡ world_at name cs es n
      before n le = world_front cs (c ∷ []) es (e ∷ []) n le (omega (arith, run.count))

      last : (d : Call) (f : Entry) → slice_get (cs ++ c ∷ []) (length cs) ≡ Some d
          → slice_get (es ++ e ∷ []) (length cs) ≡ Some f
          → IsEntry (then (length cs)) (then (suc (length cs))) d f
      last d f di fi = rw (
        before (length cs) (omega arith),
        world_more cs es c e run.count ∙ sym next,
        same_Some d c (sym di ∙ at_end cs c),
        same_Some f e (sym fi ∙ sym (ap (slice_get (es ++ e ∷ [])) run.count) ∙ at_end es e),
      ) ok

  pub world_none : (es : List Entry) → world_at name [] es 0 ≡ new_world name
  unfolding world_at
  world_none es = refl
