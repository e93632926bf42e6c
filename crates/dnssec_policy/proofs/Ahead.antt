-- Nothing is put off to a moment that is past, and parts that speak say something.
use Rattle.std.proofs.Common.{◌≡◌, ℕ, ◌+◌, ◌<◌, ◌≤◌, Bool, true, false, List, [], ◌∷◌}
use Rattle.std.proofs.Common.{Option, None, Some, ap, refl, arith}
use Rattle.std.proofs.lemmas.Bool.{leb-false}
use Rattle.std.specs.Prelude.{if◌then◌else◌, Result, Ok, Err, nat_le, ◌&&◌, not}
use Rattle.std.specs.{List.fold, FinMap.entries, FinMap.values}
use Rattle.dnssec_key.specs.declared.roll.RollState.{RollState}
use Rattle.dnssec_key.specs.declared.roll.RollState.TheVariants.{Propagation1, CacheExpire1}
use Rattle.dnssec_key.specs.declared.roll.RollState.TheVariants.{Propagation2, CacheExpire2, Done}
use Rattle.dnssec_key.specs.declared.roll.RollType.{RollType}
use Rattle.dnssec_key.specs.declared.roll.RollType.TheVariants.{AlgorithmRoll, CskRoll}
use Rattle.dnssec_key.specs.Key.{KeyParts}
use Rattle.dnssec_key.specs.declared.roll.Half.{Half, TheVariants.First, TheVariants.Second}
use Rattle.dnssec_key.specs.RollTable.{is_second}
use Rattle.dnssec_zone.specs.{Keys.some_key, Rolls.all_rolls, Rolls.phase_of}
use Rattle.dnssec_keyset.specs.Step as keyset
use Rattle.dnssec_keyset.specs.declared.wait.WaitEnd.{WaitEnd, TheVariants.At, TheVariants.PastTime}
use Rattle.dnssec_run.specs.declared.caches.SetKind.{SetKind}
use Rattle.dnssec_run.specs.{declared.running.LastStep.LastStep, Safe.kind_of}
use Rattle.dnssec_run.specs.Steps.{Origins, origin_in}
use Rattle.dnssec_network.specs.declared.spread.Reach.{Reach}
use Rattle.dnssec_network.specs.declared.spread.Reach.TheVariants.{Unpublished, Spreading}
use Rattle.dnssec_network.specs.{declared.spread.Reach.TheVariants.Everywhere, Reports.due}
use Rattle.dnssec_policy.specs.declared.policy.{KeyRole.KeyRole, Policy.Policy, Scheme.Scheme}
use Rattle.dnssec_policy.specs.declared.policy.Scheme.TheVariants.{Split, SingleType}
use Rattle.dnssec_policy.specs.InProgress.{awaited, end_next, roll_next}
use Rattle.dnssec_policy.specs.declared.why.Why.{Why}
use Rattle.dnssec_policy.specs.InProgress.{later, report_next, report_or, wait_next}
use Rattle.dnssec_policy.specs.Keys.{first_over, has_left, is_unwanted, ksk_roll, leaves_from}
use Rattle.dnssec_policy.specs.Keys.{new_keys, renewal_of, role_of, roles_of, wants_others}
use Rattle.dnssec_policy.specs.Keys.{zsk_roll}
use Rattle.dnssec_policy.specs.Next.{at_moment, change, deletion, deletions, may_begin, next_of}
use Rattle.dnssec_policy.specs.Next.{once_all_ended, once_ended, phase_next, renewal, renewals}
use Rattle.dnssec_policy.specs.{Next.rolls_next, Next.start_with, Stuck.stuck, Stuck.stuck_of}
use Rattle.dnssec_policy.specs.Todo.{Todo, Make, NotBefore, Publish, Rest, Watch, is_sooner}
use Rattle.dnssec_policy.specs.Todo.{rank, sooner}
use Rattle.dnssec_policy.specs.{Ttls.lasting, View.View, View.reach_in}
use Rattle.dnssec_policy.proofs.Prompt.{settled-rank}

module _ (v : View) where
  abbrev IsAhead : Todo → Type 0
  IsAhead t = (m : ℕ) → t ≡ NotBefore m → v.now < m

  -- and it isn't nothing
  abbrev Says : Todo → Type 0
  Says t = IsAhead t × (rank t ≤ 5)

  -- what is more urgent than a moment
  soon-says : (t : Todo) → rank t ≤ 3 → Says t
  soon-says t le =
      (λ m e. let r = ap rank e in absurd (omega (arith, r, le)), omega (arith, le))

  after-says : (end : ℕ) → v.now < end → Says (NotBefore end)
  after-says end lt = (λ m e. let same : end ≡ m = cc in omega (arith, lt, same), omega arith)

  choice : (t : Bool) (a b : Todo) → IsAhead a → IsAhead b → IsAhead (if t then b else a)
  choice true a b x y = y
  choice false a b x y = x

  both : (a b : Todo) → IsAhead a → IsAhead b → IsAhead (sooner a b)
  both a b = choice (is_sooner a b) a b

  guard : (t : Bool) (a : Todo) → IsAhead a → IsAhead (if t then a else Rest)
  guard true a x = x
  guard false a x = λ m e. absurd (cc)

  reached : (r : Reach) (kind : SetKind) → Says (awaited r kind v.now)
  reached Unpublished kind = soon-says (Publish kind) (omega arith)
  reached Spreading kind = soon-says (Watch kind) (omega arith)
  reached Everywhere kind = after-says (v.now + 1_000_000_000) (omega arith)

  reports : (roll : RollType) (half : Half) (origins : Origins) (r : Result ℕ SetKind)
      → Says (report_or v roll half origins r)
  reports roll half origins (Ok ttl) =
      let long = lasting v.highest roll (is_second half) ttl in by long (nat_le long 4_294_967_295)
    where
      by : (ttl : ℕ) (b : Bool)
          → Says (if b then Make (keyset.Report roll half ttl v.now) else later v.now)
      by ttl true = soon-says (Make (keyset.Report roll half ttl v.now)) (omega arith)
      by ttl false = after-says (v.now + 1_000_000_000) (omega arith)
  reports roll half origins (Err kind) =
      reached (reach_in v kind (origin_in origins (kind_of kind))) kind

  report-says : (roll : RollType) (half : Half) (o : Option LastStep)
      → Says (report_next v roll half o)
  report-says roll half None = (λ m e. absurd (cc), omega arith)
  report-says roll half (Some step) = reports roll half step.origins
      (due v.before v.facts roll (is_second half) (origin_in step.origins) v.now)

  put-off : (todo : Todo) (end : ℕ) → Says todo
      → Says (if nat_le end v.now then todo else NotBefore end)
  put-off todo end x = by (nat_le end v.now) refl
    where
      by : (t : Bool) → nat_le end v.now ≡ t → Says (if t then todo else NotBefore end)
      by true le = x
      by false le = after-says end (leb-false end v.now le)

  wait-says : (roll : RollType) (half : Half) (o : Option WaitEnd)
      → Says (wait_next v roll half o)
  wait-says roll half None = (λ m e. absurd (cc), omega arith)
  wait-says roll half (Some PastTime) = (λ m e. absurd (cc), omega arith)
  wait-says roll half (Some (At end)) =
      let wait = Make (keyset.Wait roll half v.now) in
      put-off wait end (soon-says wait (omega arith))

  end-says : (roll : RollType) (o : Option ℕ) → Says (end_next v roll o)
  end-says roll None = (λ m e. absurd (cc), omega arith)
  end-says roll (Some base) = soon-says (end_next v roll (Some base))
      (settled-rank v roll base (Make (keyset.RollDone roll)) (omega arith))

  pub roll-says : (roll : RollType) (p : RollState) → Says (roll_next v roll p)
  roll-says roll Propagation1 = report-says roll First (v.step roll)
  roll-says roll (CacheExpire1 ttl) = wait-says roll First (v.end roll)
  roll-says roll Propagation2 = report-says roll Second (v.step roll)
  roll-says roll (CacheExpire2 ttl) = wait-says roll Second (v.end roll)
  roll-says roll Done = end-says roll (v.last roll)

  roll-ahead : (roll : RollType) (o : Option RollState) → IsAhead (phase_next v roll o)
  roll-ahead roll None = λ m e. absurd (cc)
  roll-ahead roll (Some p) = (roll-says roll p).0

  each-ahead : {A : Type 0} (f : A → Todo) → ((x : A) → IsAhead (f x)) → (xs : List A)
      (so_far : Todo) → IsAhead so_far → IsAhead (fold (λ best x. sooner best (f x)) so_far xs)
  each-ahead f all [] so_far h = h
  each-ahead f all (x ∷ xs) so_far h =
      each-ahead f all xs (sooner so_far (f x)) (both so_far (f x) h (all x))

  -- ---- deletions

  ended-rank : (roll : RollType) (o : Option ℕ) (todo : Todo) → rank todo ≤ 3
      → rank (once_ended v roll o todo) ≤ 3
  ended-rank roll None todo le = le
  ended-rank roll (Some base) todo le = settled-rank v roll base todo le

  all-ended-rank : (rs : List RollType) (todo : Todo) → rank todo ≤ 3
      → rank (fold (λ todo roll. once_ended v roll (v.last roll) todo) todo rs) ≤ 3
  all-ended-rank [] todo le = le
  all-ended-rank (r ∷ rs) todo le =
      all-ended-rank rs (once_ended v r (v.last r) todo) (ended-rank r (v.last r) todo le)

  pub delete-says : (q : List ℕ) (moment : ℕ)
      → Says (at_moment v.now (Some moment) (once_all_ended v (Make (keyset.DeleteKey q))))
  delete-says q moment =
      let delete = once_all_ended v (Make (keyset.DeleteKey q)) in
      put-off delete moment (soon-says delete
      (all-ended-rank all_rolls (Make (keyset.DeleteKey q)) (omega arith)))

  -- ---- starts

  pub start-rank : (roll : RollType) (r : Result (List (List ℕ)) KeyRole)
      → rank (start_with v roll r) ≤ 2
  start-rank roll (Ok news) = omega arith
  start-rank roll (Err role) = omega arith

  pub start-says : (roll : RollType) (r : Result (List (List ℕ)) KeyRole)
      → Says (start_with v roll r)
  start-says roll r =
      let le = start-rank roll r in soon-says (start_with v roll r) (omega (arith, le))

  moment-ahead : (o : Option ℕ) (todo : Todo) → Says todo → IsAhead (at_moment v.now o todo)
  moment-ahead None todo x = λ m e. absurd (cc)
  moment-ahead (Some end) todo x = (put-off todo end x).0

  module _ (policy : Policy) where
    deletion-ahead : (q : List ℕ) (k : KeyParts) → IsAhead (deletion policy v q k)
    deletion-ahead q k =
        let moment = leaves_from policy.delete_after k.timestamps.withdrawn in
        guard (has_left v.set.rolls k)
        (at_moment v.now (Some moment) (once_all_ended v (Make (keyset.DeleteKey q))))
        (delete-says q moment).0

    renewal-ahead : (roll : RollType) → IsAhead (renewal policy v roll)
    renewal-ahead roll =
        let role = role_of roll in
        let o = first_over role (renewal_of policy role) (values v.set.keys) in
        let todo = start_with v roll (new_keys policy v.set.keys (role ∷ [])) in
        guard (may_begin v roll && not (some_key (is_unwanted policy) v.set.keys))
        (at_moment v.now o todo)
        (moment-ahead o todo (start-says roll (new_keys policy v.set.keys (role ∷ []))))

    renewals-ahead : (scheme : Scheme) → IsAhead (renewals policy v scheme)
    renewals-ahead (Split k z) =
        both (renewal policy v (ksk_roll k)) (renewal policy v (zsk_roll z))
        (renewal-ahead (ksk_roll k)) (renewal-ahead (zsk_roll z))
    renewals-ahead SingleType = renewal-ahead CskRoll

    stuck-ahead : (o : Option Why) → IsAhead (stuck o)
    stuck-ahead None = λ m e. absurd (cc)
    stuck-ahead (Some why) = λ m e. absurd (cc)

    pub ahead : IsAhead (next_of policy v)
    ahead =
        let a = rolls_next v in
        let b = deletions policy v in
        let c = change policy v in
        let d = renewals policy v policy.scheme in
        let news = new_keys policy v.set.keys (roles_of policy.scheme) in
        both (sooner (sooner (sooner a b) c) d) (stuck (stuck_of policy v))
        (both (sooner (sooner a b) c) d (both (sooner a b) c (both a b
        (each-ahead (λ roll. phase_next v roll (phase_of v.set.rolls roll))
        (λ roll. roll-ahead roll (phase_of v.set.rolls roll)) all_rolls Rest (λ m e. absurd (cc)))
        (each-ahead (λ (e : List ℕ × KeyParts). deletion policy v e.0 e.1)
        (λ e. deletion-ahead e.0 e.1) (entries v.set.keys) Rest (λ m e. absurd (cc))))
        (guard (may_begin v AlgorithmRoll && wants_others policy v.set.keys)
        (start_with v AlgorithmRoll news) (start-says AlgorithmRoll news).0))
        (renewals-ahead policy.scheme)) (stuck-ahead (stuck_of policy v))
