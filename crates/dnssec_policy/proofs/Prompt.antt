-- For each roll in progress enough is said.
use Rattle.std.proofs.Common.{◌≡◌, ℕ, ◌+◌, ◌≤◌, Bool, true, false, List}
use Rattle.std.proofs.Common.{Option, None, Some, length, refl, sym, ap, subst, ◌∙◌, arith}
use Rattle.std.proofs.lemmas.{Bool.le-leb, Option.none-some}
use Rattle.std.specs.Prelude.{if◌then◌else◌, Result, Ok, Err, nat_eq, nat_le}
use Rattle.std.specs.{Option.option_map}
use Rattle.dnssec_base.specs.declared.error.Error.{Error}
use Rattle.dnssec_key.specs.declared.roll.RollState.{RollState}
use Rattle.dnssec_key.specs.declared.roll.RollState.TheVariants.{Propagation1, CacheExpire1}
use Rattle.dnssec_key.specs.declared.roll.RollState.TheVariants.{Propagation2, CacheExpire2, Done}
use Rattle.dnssec_key.specs.declared.roll.{RollType.RollType, Half.Half}
use Rattle.dnssec_key.specs.declared.roll.Half.TheVariants.{First, Second}
use Rattle.dnssec_key.specs.RollTable.{cache_expire, is_second}
use Rattle.dnssec_zone.specs.{Rolls.phase_of, Wait.longest_left}
use Rattle.dnssec_zone.specs.Wait as waits
use Rattle.dnssec_keyset.specs.{KeySet.KeySetParts, WaitEnd.HasNoWait}
use Rattle.dnssec_keyset.specs.declared.wait.WaitEnd.{WaitEnd, TheVariants.At, TheVariants.PastTime}
use Rattle.dnssec_keyset.specs.Step as keyset
use Rattle.dnssec_run.specs.declared.{call.Call.Call, caches.SetKind.SetKind}
use Rattle.dnssec_run.specs.declared.caches.SetKind.TheVariants.{Ds, Dnskey, ZoneSigners}
use Rattle.dnssec_run.specs.declared.record.Entry.{Entry}
use Rattle.dnssec_run.specs.declared.running.LastStep.{LastStep}
use Rattle.dnssec_run.specs.Record.{IsRun, world_at}
use Rattle.dnssec_run.specs.{Safe.kind_of, Steps.Origins, Steps.origin_in, Steps.step_at}
use Rattle.dnssec_run.proofs.Premise.{sets-nothing}
use Rattle.dnssec_run.proofs.WholeRolls.Order.{by-time, in-order}
use Rattle.dnssec_network.specs.declared.spread.Reach.{Reach}
use Rattle.dnssec_network.specs.declared.spread.Reach.TheVariants.{Unpublished, Spreading}
use Rattle.dnssec_network.specs.{declared.spread.Reach.TheVariants.Everywhere, Network.Network}
use Rattle.dnssec_network.specs.Reports.{due}
use Rattle.dnssec_policy.specs.declared.policy.Policy.{Policy}
use Rattle.dnssec_policy.specs.Automatic.{IsAutomatic, IsViewAt}
use Rattle.dnssec_policy.specs.InProgress.{awaited, end_next, ends_with, once, once_settled}
use Rattle.dnssec_policy.specs.InProgress.{later, once_there, report_next, report_or, report_with}
use Rattle.dnssec_policy.specs.InProgress.{roll_next, wait_next}
use Rattle.dnssec_policy.specs.{Laws.IsPrompt, Laws.IsSoon, Laws.UntilOver, Next.next_of}
use Rattle.dnssec_policy.specs.{Next.phase_next, Todo.Todo, Todo.Make, Todo.NotBefore, Todo.Stuck}
use Rattle.dnssec_policy.specs.{Todo.rank, Ttls.lasting, View.View, View.reach_in}
use Rattle.dnssec_policy.proofs.PlainCalls.{automatic-plain}
use Rattle.dnssec_policy.proofs.Order.{NotLater, no-later, rank-le, roll-said}
use Rattle.dnssec_policy.proofs.Steps.{lasted, stepped}
use Rattle.dnssec_policy.specs.declared.why.Why.TheVariants as why

-- ---- what is said is no later

module _ (t x : Todo) (le : NotLater t x) where
  moment-le : (m end : ℕ) → t ≡ NotBefore m → x ≡ NotBefore end → m ≤ end
  moment-le m end is at = no-later 4 m end (subst (λ x. NotLater (NotBefore m) x) at
      (subst (λ t. NotLater t x) is le))

-- ---- what a roll in progress has to say

-- a moment is later than what is more urgent
never-less : (t : Todo) (m : ℕ) → t ≡ NotBefore m → rank t ≤ 3 → ⊥
never-less t m is le = let r = ap rank is in absurd (omega (arith, r, le))

soon-by : (now : ℕ) (t x : Todo) → NotLater t x → rank x ≤ 3 → IsSoon now t
soon-by now t x le small =
    let r = rank-le t x le in
    (omega (arith, r, small), λ m is. absurd (never-less t m is (omega (arith, r, small))))

-- no later than a second
soon-until : (now : ℕ) (t : Todo) → NotLater t (NotBefore (now + 1_000_000_000)) → IsSoon now t
soon-until now t le = (
  rank-le t (NotBefore (now + 1_000_000_000)) le,
  λ m is. moment-le t (NotBefore (now + 1_000_000_000)) le m (now + 1_000_000_000) is refl,
)

soon-awaited : (now : ℕ) (t : Todo) (r : Reach) (kind : SetKind) → NotLater t (awaited r kind now)
    → IsSoon now t
soon-awaited now t Unpublished kind le =
    soon-by now t (awaited Unpublished kind now) le (omega arith)
soon-awaited now t Spreading kind le = soon-by now t (awaited Spreading kind now) le (omega arith)
soon-awaited now t Everywhere kind le = soon-until now t le

once-rank : (r : Reach) (kind : SetKind) (todo : Todo) → rank todo ≤ 3
    → rank (once r kind todo) ≤ 3
once-rank Everywhere kind todo le = le
once-rank Unpublished kind todo le = omega arith
once-rank Spreading kind todo le = omega arith

module _ (v : View) (roll : RollType) where
  counted : (half : Half) (ttl : ℕ) (t : Todo) → NotLater t (report_with v roll half ttl)
      → IsSoon v.now t
  counted half ttl t le = by (nat_le ttl 4_294_967_295) le
    where
      by : (b : Bool)
          → NotLater t (if b then Make (keyset.Report roll half ttl v.now) else later v.now)
          → IsSoon v.now t
      by true le = soon-by v.now t (Make (keyset.Report roll half ttl v.now)) le (omega arith)
      by false le = soon-until v.now t le

  report-soon : (half : Half) (origins : Origins) (r : Result ℕ SetKind) (t : Todo)
      → NotLater t (report_or v roll half origins r) → IsSoon v.now t
  report-soon half origins (Ok ttl) t le =
      counted half (lasting v.highest roll (is_second half) ttl) t le
  report-soon half origins (Err kind) t le =
      soon-awaited v.now t (reach_in v kind (origin_in origins (kind_of kind))) kind le

  report : (half : Half) (o : Option LastStep) (t : Todo) → (step : LastStep) × (o ≡ Some step)
      → NotLater t (report_next v roll half o) → IsSoon v.now t
  report half None t h le = absurd (none-some h.0 h.1)
  report half (Some step) t h le = report-soon half step.origins
      (due v.before v.facts roll (is_second half) (origin_in step.origins) v.now) t le

  there-rank : (base : ℕ) (kind : SetKind) (todo : Todo) → rank todo ≤ 3
      → rank (once_there v roll base kind todo) ≤ 3
  there-rank base kind todo le = by (ends_with roll kind)
    where
      by : (t : Bool) → rank (if t then once (reach_in v kind base) kind todo else todo) ≤ 3
      by true = once-rank (reach_in v kind base) kind todo le
      by false = le

  pub settled-rank : (base : ℕ) (todo : Todo) → rank todo ≤ 3
      → rank (once_settled v roll base todo) ≤ 3
  settled-rank base todo le =
      let zone = once_there v roll base ZoneSigners todo in
      there-rank base Ds (once_there v roll base Dnskey zone)
      (there-rank base Dnskey zone (there-rank base ZoneSigners todo le))

  end : (o : Option ℕ) → (base : ℕ) × (o ≡ Some base) → rank (end_next v roll o) ≤ 3
  end None h = absurd (none-some h.0 h.1)
  end (Some base) h = settled-rank base (Make (keyset.RollDone roll)) (omega arith)

  -- a wait that is over
  wait-over : (half : Half) (end : ℕ) → end ≤ v.now
      → wait_next v roll half (Some (At end)) ≡ Make (keyset.Wait roll half v.now)
  wait-over half end le = rw (le-leb end v.now le) refl

  -- and one that isn't
  pub wait-rank : (half : Half) (end : ℕ) → rank (wait_next v roll half (Some (At end))) ≤ 4
  wait-rank half end = by (nat_le end v.now)
    where
      by : (t : Bool)
          → rank (if t then Make (keyset.Wait roll half v.now) else NotBefore end) ≤ 4
      by true = omega arith
      by false = omega arith

  wait-moment : (half : Half) (end m : ℕ) (t : Todo)
      → NotLater t (wait_next v roll half (Some (At end))) → t ≡ NotBefore m → m ≤ end
  wait-moment half end m t le is = by (nat_le end v.now) refl
    where
      by : (b : Bool) → nat_le end v.now ≡ b → m ≤ end
      by true e = absurd (grind (
        arith,
        is,
        rank-le t (Make (keyset.Wait roll half v.now))
            (subst (NotLater t) (ap (λ b. if b then Make (keyset.Wait roll half v.now)
            else NotBefore end) e) le),
      ))
      by false e = moment-le t (NotBefore end)
          (subst (NotLater t) (ap (λ b. if b then Make (keyset.Wait roll half v.now)
          else NotBefore end) e) le) m end is refl

  until : (half : Half) (t : Todo) (o : Option WaitEnd)
      → NotLater t (wait_next v roll half o) → (o ≡ None → ⊥) → UntilOver v.now t o
  until half t None le ends = absurd (ends refl)
  until half t (Some PastTime) le ends = rank-le t (Stuck (why.PastTime roll)) le
  until half t (Some (At end)) le ends = (
    λ past. let r = rank-le t (Make (keyset.Wait roll half v.now))
        (subst (NotLater t) (wait-over half end past) le) in omega (arith, r),
    (let r = rank-le t (wait_next v roll half (Some (At end))) le in
        omega (arith, r, wait-rank half end)),
    λ m is. wait-moment half end m t le is,
  )

-- ---- no wait lacks its end

not_barred : (n : ℕ) (cause : Error) → waits.early_by n ≡ waits.Barred cause → ⊥
not_barred n cause e = by (nat_eq n 0) e
  where
    by : (t : Bool) → (if t then waits.Clear else waits.Early n) ≡ waits.Barred cause → ⊥
    by true e = cc
    by false e = cc

module _ {name : List ℕ} {calls : List Call} {entries : List Entry} {network : Network} {time : ℕ}
    (run : IsRun name calls entries) (auto : IsAutomatic name calls entries network time) (n : ℕ)
    (within : n ≤ length entries) (v : View) (at : IsViewAt name calls entries network time n v)
  where
    has-end : (roll : RollType) (half : Half) (ttl : ℕ)
        → phase_of v.set.rolls roll ≡ Some (cache_expire half ttl) → v.end roll ≡ None → ⊥
    has-end roll half ttl phase none =
        let never : HasNoWait roll v.set = rw none at (at.end roll) in
        let bars = never half v.now in
        let order = in-order run (sets-nothing run (automatic-plain run auto).setters) n in
        not_barred (longest_left roll half ttl v.now v.set.keys) bars.0
        (sym (by-time v.set (λ s. rw at.set (order s)) roll half ttl v.now phase) ∙ bars.1)

    in-set : (roll : RollType) (p : RollState) → phase_of v.set.rolls roll ≡ Some p
        → phase_of (world_at name calls entries n).set.rolls roll ≡ Some p
    in-set roll p is = ap (λ (set : KeySetParts). phase_of set.rolls roll) (sym at.set) ∙ is

    step-there : (roll : RollType) (p : RollState) → phase_of v.set.rolls roll ≡ Some p
        → (step : LastStep) × (v.step roll ≡ Some step)
    step-there roll p is =
        let b = stepped run n within roll p (in-set roll p is) in
        (step_at entries b.0, at.step roll ∙ ap (option_map (step_at entries)) b.1)

    last-there : (roll : RollType) → phase_of v.set.rolls roll ≡ Some Done
        → (base : ℕ) × (v.last roll ≡ Some base)
    last-there roll is =
        let b = lasted run n within roll Done (in-set roll Done is) refl in
        (b.0, at.last roll ∙ b.1)

    -- what is said is prompt for a roll, if it is no later than what that has to say
    by : (t : Todo) (roll : RollType) (p : RollState) → phase_of v.set.rolls roll ≡ Some p
        → NotLater t (roll_next v roll p) → IsPrompt v t roll p
    by t roll Propagation1 is le =
        report v roll First (v.step roll) t (step-there roll Propagation1 is) le
    by t roll (CacheExpire1 ttl) is le = until v roll First t (v.end roll) le
        (has-end roll First ttl is)
    by t roll Propagation2 is le =
        report v roll Second (v.step roll) t (step-there roll Propagation2 is) le
    by t roll (CacheExpire2 ttl) is le = until v roll Second t (v.end roll) le
        (has-end roll Second ttl is)
    by t roll Done is le = soon-by v.now t (end_next v roll (v.last roll)) le
        (end v roll (v.last roll) (last-there roll is))

    pub prompt : (policy : Policy) (roll : RollType) (p : RollState)
        → phase_of v.set.rolls roll ≡ Some p → IsPrompt v (next_of policy v) roll p
    prompt policy roll p is = by (next_of policy v) roll p is
        (subst (λ o. NotLater (next_of policy v) (phase_next v roll o)) is
        (roll-said policy v roll))
