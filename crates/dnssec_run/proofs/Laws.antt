-- What every step keeps holds at every position of a record.
use Rattle.std.proofs.Common.{length, arith, ◌≤◌, inl, inr, ◌≡◌, ℕ, zero, suc, List, Some, None}
use Rattle.std.proofs.Common.{refl}
use Rattle.std.{proofs.lemmas.Option.slice_get_cases, specs.Prelude.Option, specs.Prelude.slice_get}
use Rattle.dnssec_keyset.specs.{KeySet.KeySetParts, KeySet.new_set, Laws.RollsTogether}
use Rattle.dnssec_keyset.proofs.Laws.{apart-new, apart-step, together-new, together-step}
use Rattle.dnssec_zone.specs.Keys.{TagsApart}
use Rattle.dnssec_run.specs.declared.{call.Call.Call, record.Entry.Entry}
use Rattle.dnssec_run.specs.Record.{IsRun, StaysSound, call_of, reply_of, world_next, world_at}

-- what each call of a list keeps
pub kept-by : (name : List ℕ) (calls : List Call) (entries : List Entry) (P : KeySetParts → Type 0)
    → P (new_set name) → ((n : ℕ) (c : Call) (e : Entry) → slice_get calls n ≡ Some c
    → slice_get entries n ≡ Some e → P (world_at name calls entries n).set
    → P (world_at name calls entries (suc n)).set) → (n : ℕ) → P (world_at name calls entries n).set
unfolding world_at
kept-by name calls entries P start step zero = start
kept-by name calls entries P start step (suc n) = at (slice_get calls n) (slice_get entries n) refl
    refl (kept-by name calls entries P start step n)
  where
    at : (oc : Option Call) (oe : Option Entry) → slice_get calls n ≡ oc → slice_get entries n ≡ oe
        → P (world_at name calls entries n).set
        → P (world_next (suc n) (world_at name calls entries n) oc oe).set
    at None oe ci ei before = before
    at (Some c) None ci ei before = before
    at (Some c) (Some e) ci ei before = rw (ci, ei) at (step n c e ci ei before)

-- the call after a position, with its entry
pub made-at : {name : List ℕ} {calls : List Call} {entries : List Entry} → IsRun name calls entries
    → (n : ℕ) → suc n ≤ length entries → (c : Call) × (e : Entry) × (slice_get calls n ≡ Some c)
    × (slice_get entries n ≡ Some e)
made-at {name} {calls} {entries} run n within = elim ((slice_get_cases entries n).1) [
  | inl e ↦ elim ((slice_get_cases calls n).1) [
    | inl c ↦ (c.0, e.0, c.2, e.2)
    | inr c ↦ absurd (omega (arith, c.0, run.count))
  ]
  | inr e ↦ absurd (omega (arith, e.0))
]

-- tags stay apart and rolls together
pub stays-sound : {name : List ℕ} {calls : List Call} {entries : List Entry}
    → IsRun name calls entries → StaysSound name calls entries
stays-sound {name} {calls} {entries} run n within = record {
  tags = kept-by name calls entries (λ (s : KeySetParts). TagsApart s.keys) (apart-new name)
      (λ n c e ci ei before. apart-step _ _ (call_of c) (reply_of e.reply) before
      (run.each n c e ci ei).step) n;
  rolls = kept-by name calls entries (λ (s : KeySetParts). RollsTogether s.rolls)
      (together-new name) (λ n c e ci ei before. together-step _ _ (call_of c)
      (reply_of e.reply) before (run.each n c e ci ei).step) n;
}
