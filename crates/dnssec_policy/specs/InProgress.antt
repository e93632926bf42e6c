-- How a roll in progress goes on: a report once it is due by the notes, a wait once it is over, and
-- the end once what the last actions wait for is on all servers.
use Rattle.std.specs.Prelude.{ℕ, ◌+◌, Bool, true, false, nat_le, Option, None, Some}
use Rattle.std.specs.{Prelude.if◌then◌else◌, Prelude.Result, Prelude.Ok, Prelude.Err, List.list_any}
use Rattle.dnssec_key.specs.declared.roll.Action.{Action, TheVariants.WaitDnskeyPropagated}
use Rattle.dnssec_key.specs.declared.roll.Action.TheVariants.{WaitDsPropagated, WaitRrsigPropagated}
use Rattle.dnssec_key.specs.declared.roll.RollState.{RollState}
use Rattle.dnssec_key.specs.declared.roll.RollState.TheVariants.{Propagation1, CacheExpire1}
use Rattle.dnssec_key.specs.declared.roll.RollState.TheVariants.{Propagation2, CacheExpire2, Done}
use Rattle.dnssec_key.specs.declared.roll.{RollType.RollType, Half.Half}
use Rattle.dnssec_key.specs.declared.roll.Half.TheVariants.{First, Second}
use Rattle.dnssec_key.specs.RollTable.{actions_of, is_second}
use Rattle.dnssec_keyset.specs.Step.{Report, RollDone, Wait}
use Rattle.dnssec_keyset.specs.declared.wait.WaitEnd.{WaitEnd}
use Rattle.dnssec_keyset.specs.declared.wait.WaitEnd.TheVariants as end
use Rattle.dnssec_run.specs.declared.caches.SetKind.{SetKind}
use Rattle.dnssec_run.specs.declared.caches.SetKind.TheVariants.{Ds, Dnskey, ZoneSigners}
use Rattle.dnssec_run.specs.{declared.running.LastStep.LastStep, Safe.kind_of}
use Rattle.dnssec_run.specs.Steps.{Origins, origin_in}
use Rattle.dnssec_network.specs.declared.spread.Reach.{Reach}
use Rattle.dnssec_network.specs.declared.spread.Reach.TheVariants.{Unpublished, Spreading}
use Rattle.dnssec_network.specs.{declared.spread.Reach.TheVariants.Everywhere, Reports.due}
use Rattle.dnssec_policy.specs.Ttls.{lasting}
use Rattle.dnssec_policy.specs.Todo.{Todo, Make, Publish, Watch, NotBefore, Stuck}
use Rattle.dnssec_policy.specs.declared.why.Why.TheVariants.{NoStep, NoStamp, PastTime, NoLastWait}
use Rattle.dnssec_policy.specs.View.{View, reach_in}

-- ---- reports

-- a second later, as the TTL of a report is one that 32 bits can hold
abbrev pub later : ℕ → Todo
later now = NotBefore (now + 1_000_000_000)

-- what a report waits for of a kind
abbrev pub awaited : Reach → SetKind → ℕ → Todo
awaited Unpublished kind now = Publish kind
awaited Spreading kind now = Watch kind
awaited Everywhere kind now = later now

abbrev pub report_with : View → RollType → Half → ℕ → Todo
report_with v roll half ttl =
    if nat_le ttl 4_294_967_295 then Make (Report roll half ttl v.now) else later v.now

-- a report that lasts longer than the TTL that is due, or what it waits for of the sets that came
-- at these positions
abbrev pub report_or : View → RollType → Half → Origins → Result ℕ SetKind → Todo
report_or v roll half origins (Ok ttl) =
    report_with v roll half (lasting v.highest roll (is_second half) ttl)
report_or v roll half origins (Err kind) =
    awaited (reach_in v kind (origin_in origins (kind_of kind))) kind v.now

-- it speaks of the sets that the roll's last step left
abbrev pub report_next : View → RollType → Half → Option LastStep → Todo
report_next v roll half None = Stuck (NoStep roll)
report_next v roll half (Some step) =
    report_or v roll half step.origins
    (due v.before v.facts roll (is_second half) (origin_in step.origins) v.now)

-- ---- waits

-- a wait that is over, or the moment from which it is
abbrev pub wait_next : View → RollType → Half → Option WaitEnd → Todo
wait_next v roll half (Some (end.At end)) =
    if nat_le end v.now then Make (Wait roll half v.now) else NotBefore end
wait_next v roll half (Some end.PastTime) = Stuck (PastTime roll)
wait_next v roll half None = Stuck (NoStamp roll)

-- ---- ends

-- the action asks to wait for the sets of this kind
abbrev pub is_wait_for : SetKind → Action → Bool
is_wait_for Ds WaitDsPropagated = true
is_wait_for Dnskey WaitDnskeyPropagated = true
is_wait_for ZoneSigners WaitRrsigPropagated = true
is_wait_for _ _ = false

-- a roll's last actions ask so
abbrev pub ends_with : RollType → SetKind → Bool
ends_with roll kind = list_any (is_wait_for kind) (actions_of roll Done)

-- what is to be done once all servers give the sets of a kind, or what brings them there
abbrev pub once : Reach → SetKind → Todo → Todo
once Unpublished kind todo = Publish kind
once Spreading kind todo = Watch kind
once Everywhere kind todo = todo

abbrev pub once_there : View → RollType → ℕ → SetKind → Todo → Todo
once_there v roll base kind todo =
    if ends_with roll kind then once (reach_in v kind base) kind todo else todo

-- what is to be done once all that the last actions wait for is there
abbrev pub once_settled : View → RollType → ℕ → Todo → Todo
once_settled v roll base todo =
    once_there v roll base Ds
    (once_there v roll base Dnskey (once_there v roll base ZoneSigners todo))

abbrev pub end_next : View → RollType → Option ℕ → Todo
end_next v roll None = Stuck (NoLastWait roll)
end_next v roll (Some base) = once_settled v roll base (Make (RollDone roll))

-- ---- by its phase

abbrev pub roll_next : View → RollType → RollState → Todo
roll_next v roll Propagation1 = report_next v roll First (v.step roll)
roll_next v roll (CacheExpire1 ttl) = wait_next v roll First (v.end roll)
roll_next v roll Propagation2 = report_next v roll Second (v.step roll)
roll_next v roll (CacheExpire2 ttl) = wait_next v roll Second (v.end roll)
roll_next v roll Done = end_next v roll (v.last roll)
