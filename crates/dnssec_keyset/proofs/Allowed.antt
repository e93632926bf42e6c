-- From what a call found and changed to the allowed step.
use Rattle.std.proofs.Common.{arith, ◌≡◌, ℕ, Bool, List, Some, None, Ok, Err, refl, ap, sym, ◌∙◌}
use Rattle.std.proofs.Common.{IsErrAnd}
use Rattle.dnssec_keyset.specs.Step.{Call, AddKey, Set, Reply, Done, Refused, AnswersWait}
use Rattle.dnssec_keyset.specs.Step.{accepted_reply, clearance, IsRefusedFor, Step, reply_done}
use Rattle.std.specs.{Prelude.Option, Prelude.Result, Prelude.OnOk, Prelude.OnErr}
use Rattle.std.specs.{Prelude.if◌then◌else◌, FinMap.get, Option.option_map, Str.bytes_eq}
use Rattle.dnssec_base.specs.declared.error.Error.{Error}
use Rattle.dnssec_keyset.specs.KeySet.{KeySetParts}
use Rattle.dnssec_keyset.proofs.{After.changes-after, Changes.Changes}
use Rattle.dnssec_zone.specs.{Wait.Clearance, Wait.Clear, Wait.barred_by, Refusals.Answers}
use Rattle.dnssec_zone.specs.{Refusals.AnswersExactly, Refusals.add_refusal, Keys.Keys, Lists.Lists}
use Rattle.dnssec_zone.specs.{Lists.without}
use Rattle.dnssec_zone.proofs.Starts.{passed}
use Rattle.dnssec_key.specs.{Key.KeyParts, Setters.Setting, Setters.is_flag_setting, Setters.set_by}

-- a clear call that made its change, and answers so, is an allowed step
pub accepted-step : (s new : KeySetParts) (call : Call) (reply : Reply) → clearance s call ≡ Clear
    → reply ≡ accepted_reply call → Changes s call new → Step s call reply new
accepted-step s new call (Refused cause) clear is changes = absurd (grind (arith, is))
accepted-step s new call _ clear is changes = (clear, is, changes-after s new call changes)

-- what a check answers is why the call is refused
refused-for : (T : Type 0) (call : Call) (o : Option Error) (e : Error)
    → AnswersExactly {T = T} o (Err e) → IsRefusedFor (barred_by o) call e
refused-for T call o e h = grind arith

-- a call that a check refused is an allowed step, if it changed nothing
module _ (T : Type 0) {A : Type 0} (f : Result A Error → Reply)
    (shown : (x : Error) → f (Err x) ≡ Refused x) where
  pub refused-step : (s new : KeySetParts) (call : Call) (o : Option Error) (e : Error)
      (r : Result A Error) → clearance s call ≡ barred_by o → AnswersExactly {T = T} o (Err e)
      → new ≡ s → IsErrAnd r (λ x. x ≡ e) → Step s call (f r) new
  refused-step s new call o e (Err x) bars reply same is = rw (shown x, is, bars)
      (refused-for T call o e reply, same)
  refused-step s new call o e (Ok x) bars reply same is = absurd is

-- a check that passed bars nothing
pub cleared : {T : Type 0} (o : Option Error) (x : T) → AnswersExactly o (Ok x)
    → barred_by o ≡ Clear
cleared o x h = ap barred_by (passed o x h)

-- an add that came in has no cause against it
pub came_in : {T : Type 0} (o : Option Error) (x : T) → Answers o (Ok x) → o ≡ None
came_in o x h = grind arith

-- a wait that passed is over
pub over : {T : Type 0} (v : Clearance) (x : T) → AnswersWait v (Ok x) → v ≡ Clear
over v x h = grind arith

-- an add answers what the keys answer
pub add-step : (old : KeySetParts) (keys : Keys) (lists : Lists) (reference : List ℕ)
    (key : KeyParts) (r : Result (Unit {0}) Error) → lists ≡ old.lists
    → Answers (add_refusal old.keys reference key.key_tag) r
    → OnOk r ((q : List ℕ) → get keys q
    ≡ (if bytes_eq reference q then Some key else get old.keys q))
    → OnErr r (keys ≡ old.keys)
    → Step old (AddKey reference key) (reply_done r) (record old { keys = keys; lists = lists })
add-step old keys lists reference key (Ok u) kept reply put same =
    accepted-step old _ (AddKey reference key) Done (ap barred_by (came_in _ u reply)) refl
    (record { name = refl; rolls = refl; lists = kept; keys = put })
add-step old keys lists reference key (Err e) kept reply put same =
    (refused _ reply, λ i. record old { keys = same i; lists = kept i })
  where
    refused : (o : Option Error) → Answers {T = Unit {0}} o (Err e)
        → IsRefusedFor (barred_by o) (AddKey reference key) e
    refused o h = grind arith

-- a key is changed by hand; if a flag was set, it is no longer listed
pub set-step : (old : KeySetParts) (keys : Keys) (lists : Lists) (reference : List ℕ)
    (setting : Setting) (flag : Bool) → is_flag_setting setting ≡ flag
    → clearance old (Set reference setting) ≡ Clear
    → ((q : List ℕ) → get keys q
    ≡ option_map (λ k. if bytes_eq reference q then set_by setting k else k) (get old.keys q))
    → lists ≡ (if flag then without reference old.lists else old.lists)
    → Step old (Set reference setting) Done (record old { keys = keys; lists = lists })
set-step old keys lists reference setting flag is clear changed kept =
    accepted-step old _ (Set reference setting) Done clear refl (record {
      name = refl;
      rolls = refl;
      lists = kept
          ∙ ap (λ b. if b then without reference old.lists else old.lists) (sym is);
      keys = changed;
    })
