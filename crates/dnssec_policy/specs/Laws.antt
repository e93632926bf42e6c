-- What holds of calls that a zone makes by itself.
use Rattle.std.specs.Prelude.{◌≡◌, ◌⊎◌, ◌++◌, ◌∷◌, ℕ, suc, ◌+◌, ◌<◌, ◌≤◌, Bool, true, false, List}
use Rattle.std.specs.Prelude.{[], length, slice_get, Option, None, Some, Ok, nat_le}
use Rattle.std.specs.{FinMap.get, FinMap.values, List.list_all, List.list_any}
use Rattle.dnssec_key.specs.declared.roll.RollState.{RollState}
use Rattle.dnssec_key.specs.declared.roll.RollState.TheVariants.{CacheExpire1, CacheExpire2, Done}
use Rattle.dnssec_key.specs.{declared.roll.Half.Half, RollTable.is_second}
use Rattle.dnssec_key.specs.declared.roll.RollType.{RollType, TheVariants.AlgorithmRoll}
use Rattle.dnssec_key.specs.{Key.KeyParts, Key.all_states, State.is_stale}
use Rattle.dnssec_zone.specs.{Keys.some_key, Rolls.phase_of, Rolls.same_roll, Wait.Clear}
use Rattle.dnssec_keyset.specs.Step as keyset
use Rattle.dnssec_keyset.specs.WaitEnd.{SaysEnd}
use Rattle.dnssec_keyset.specs.declared.wait.WaitEnd.{WaitEnd, TheVariants.At, TheVariants.PastTime}
use Rattle.dnssec_run.specs.declared.{call.Call.Call, record.Entry.Entry, record.Reply.Reply}
use Rattle.dnssec_run.specs.{declared.caches.SetKind.SetKind, ByAlgorithm.KeepsWhole, Plain.IsPlain}
use Rattle.dnssec_run.specs.Record.{IsRun, call_of, world_at}
use Rattle.dnssec_run.specs.{declared.running.LastStep.LastStep, Steps.origin_in}
use Rattle.dnssec_run.specs.{WholeRolls.propagation, Steps.AreStepsOf}
use Rattle.dnssec_run.specs.Safe.{SetKind as AnyKind, kind_of, retires}
use Rattle.dnssec_network.specs.ByAlgorithm.{FindChainByEach}
use Rattle.dnssec_network.specs.Facts.{AreTrue, moment_of, news_of}
use Rattle.dnssec_network.specs.Network.{FindChain, IsNetworkOf, Network, NeverGoesBack}
use Rattle.dnssec_network.specs.{Network.NoneLiesAhead, Reach.AllGive}
use Rattle.dnssec_network.specs.declared.spread.Reach.TheVariants.{Everywhere}
use Rattle.dnssec_network.specs.Reports.{NoneGoesBack, ReportsAreByNotes}
use Rattle.dnssec_policy.specs.declared.by_hand.FirstByHand.{FirstByHand}
use Rattle.dnssec_policy.specs.declared.{last_waits.LastWaits.LastWaits, policy.Policy.Policy}
use Rattle.dnssec_policy.specs.declared.state.State.{State}
use Rattle.dnssec_policy.specs.Automatic.{IsAutomatic, IsSaid, IsViewAt, is_add, last_below}
use Rattle.dnssec_policy.specs.ByHand.{first_by_hand, is_by_hand}
use Rattle.dnssec_policy.specs.Code.{last_of, second_wait_of, view_of}
use Rattle.dnssec_policy.specs.InProgress.{ends_with, roll_next}
use Rattle.dnssec_policy.specs.Keys.{first_over, is_left_over, is_rolled, is_unwanted, new_keys}
use Rattle.dnssec_policy.specs.{Keys.renewal_of, Stuck.is_over, Stuck.why_of, declared.why.Why.Why}
use Rattle.dnssec_policy.specs.Keys.{role_of, roles_of, rolls_of, wants_others}
use Rattle.dnssec_policy.specs.Next.{answer_of, may_begin, next_of, stuck_of}
use Rattle.dnssec_policy.specs.Todo.{Todo, Make, NotBefore, Rest, rank}
use Rattle.dnssec_policy.specs.Ttls.{AreHighest, highest_of, report_takes}
use Rattle.dnssec_policy.specs.View.{View, reach_in}

-- ---- what automatic calls are

-- the list of calls is plain
abbrev pub AutomaticRunsArePlain : Type 0
AutomaticRunsArePlain =
    (name : List ℕ) (calls : List Call) (entries : List Entry) (network : Network) (time : ℕ) →
    IsRun name calls entries → IsAutomatic name calls entries network time →
    IsPlain name calls entries

-- and keeps the sets whole
abbrev pub AutomaticRunsKeepWhole : Type 0
AutomaticRunsKeepWhole =
    (name : List ℕ) (calls : List Call) (entries : List Entry) (network : Network) (time : ℕ) →
    IsRun name calls entries → IsAutomatic name calls entries network time →
    KeepsWhole name calls entries

-- none of them is by hand
abbrev pub AutomaticRunsAreUntouched : Type 0
AutomaticRunsAreUntouched =
    (name : List ℕ) (calls : List Call) (entries : List Entry) (network : Network) (time n : ℕ) →
    IsAutomatic name calls entries network time → first_by_hand name calls entries n ≡ None

-- its reports are by notes, and no moment lay ahead of the clock
abbrev pub AutomaticReportsAreByNotes : Type 0
AutomaticReportsAreByNotes =
    (name : List ℕ) (calls : List Call) (entries : List Entry) (network : Network) (time : ℕ) →
    IsRun name calls entries → IsAutomatic name calls entries network time →
    ReportsAreByNotes entries network time × NoneLiesAhead entries network time

-- ---- what resolvers find

-- A chain of trust at every time, if up to then servers gave what was published, and nothing went
-- back to before a step; by each algorithm too.
abbrev pub AutomaticRunsReachResolvers : Type 0
AutomaticRunsReachResolvers =
    (name : List ℕ) (calls : List Call) (entries : List Entry) (network : Network) (time : ℕ) →
    IsRun name calls entries → IsAutomatic name calls entries network time →
    IsNetworkOf entries network time → NoneGoesBack entries network time →
    FindChain entries network time × FindChainByEach calls entries network time

-- A roll ends only once all servers give what its last actions ask to wait for.
abbrev pub AutomaticEndsFollow : Type 0
AutomaticEndsFollow =
    (name : List ℕ) (calls : List Call) (entries : List Entry) (network : Network) (time n : ℕ)
    (call : Call) (roll : RollType) (kind : SetKind) (base : ℕ) →
    IsAutomatic name calls entries network time →
    slice_get calls n ≡ Some call →
    call_of call ≡ keyset.RollDone roll →
    ends_with roll kind ≡ true →
    last_below calls entries roll n ≡ Some base →
    NeverGoesBack network (kind_of kind) base time →
    AllGive network (kind_of kind) base (network.made (suc n)) time

-- A key is deleted only once it has left, no roll of its side is in progress, and of each roll all
-- servers give what its last actions asked to wait for.
abbrev pub AutomaticDeletionsFollow : Type 0
AutomaticDeletionsFollow =
    (name : List ℕ) (calls : List Call) (entries : List Entry) (network : Network) (time n : ℕ)
    (call : Call) (q : List ℕ) →
    IsAutomatic name calls entries network time →
    slice_get calls n ≡ Some call →
    call_of call ≡ keyset.DeleteKey q →
    ((k : KeyParts) × (get (world_at name calls entries n).set.keys q ≡ Some k)
    × (is_rolled (world_at name calls entries n).set.rolls k.keytype ≡ false))
    × ((roll : RollType) (kind : SetKind) (base : ℕ) →
    ends_with roll kind ≡ true →
    last_below calls entries roll n ≡ Some base →
    NeverGoesBack network (kind_of kind) base time →
    AllGive network (kind_of kind) base (network.made (suc n)) time)

-- ---- what is said

-- a call that is said is clear: it is accepted, memory aside
abbrev pub NextIsAccepted : Type 0
NextIsAccepted = (policy : Policy) (v : View) (call : keyset.Call) →
    ((roll : RollType) → SaysEnd roll v.set (v.end roll)) →
    next_of policy v ≡ Make call → keyset.clearance v.set call ≡ Clear

-- while a wait lasts until then, nothing later is said; from then on a call is. A wait that ends
-- after all time is stuck, and no wait lacks its end
abbrev pub UntilOver : ℕ → Todo → Option WaitEnd → Type 0
UntilOver now todo None = ⊥
UntilOver now todo (Some PastTime) = rank todo ≤ 5
UntilOver now todo (Some (At end)) = (end ≤ now → rank todo ≡ 0) × (rank todo ≤ 4)
    × ((moment : ℕ) → todo ≡ NotBefore moment → moment ≤ end)

-- a call, or what is to be done or seen, or a moment within a second
abbrev pub IsSoon : ℕ → Todo → Type 0
IsSoon now todo = (rank todo ≤ 4)
    × ((moment : ℕ) → todo ≡ NotBefore moment → moment ≤ now + 1_000_000_000)

-- for a roll in this phase enough is said
abbrev pub IsPrompt : View → Todo → RollType → RollState → Type 0
IsPrompt v todo roll (CacheExpire1 ttl) = UntilOver v.now todo (v.end roll)
IsPrompt v todo roll (CacheExpire2 ttl) = UntilOver v.now todo (v.end roll)
IsPrompt v todo roll _ = IsSoon v.now todo

-- it never stands still: for each roll in progress enough is said, and what is not to be done
-- before a moment is said only before it
abbrev pub NextGoesOn : Type 0
NextGoesOn =
    (name : List ℕ) (calls : List Call) (entries : List Entry) (network : Network) (time n : ℕ)
    (policy : Policy) (v : View) →
    IsRun name calls entries → IsAutomatic name calls entries network time → n ≤ length entries →
    IsViewAt name calls entries network time n v →
    ((roll : RollType) (phase : RollState) → phase_of v.set.rolls roll ≡ Some phase →
    IsPrompt v (next_of policy v) roll phase)
    × ((moment : ℕ) → next_of policy v ≡ NotBefore moment → v.now < moment)

-- As long as the time of a key at work is over, new keys are there and their roll may begin, a call
-- is said. (No key is in use that the policy doesn't want.)
abbrev pub RenewalsStartInTime : Type 0
RenewalsStartInTime =
    (policy : Policy) (v : View) (roll : RollType) (moment : ℕ) (news : List (List ℕ)) →
    list_any (same_roll roll) (rolls_of policy.scheme) ≡ true →
    may_begin v roll ≡ true →
    some_key (is_unwanted policy) v.set.keys ≡ false →
    let role = role_of roll in
    first_over role (renewal_of policy role) (values v.set.keys) ≡ Some moment →
    moment ≤ v.now →
    new_keys policy v.set.keys (role ∷ []) ≡ Ok news →
    rank (next_of policy v) ≡ 0

-- and so it is for the first keys, another algorithm or another scheme
abbrev pub ChangesStartInTime : Type 0
ChangesStartInTime = (policy : Policy) (v : View) (news : List (List ℕ)) →
    may_begin v AlgorithmRoll ≡ true →
    wants_others policy v.set.keys ≡ true →
    new_keys policy v.set.keys (roles_of policy.scheme) ≡ Ok news →
    rank (next_of policy v) ≡ 0

-- ---- how long it takes

-- no noted moment lies ahead of that at which it is said
abbrev pub NoneLiesAheadOf : View → Type 0
NoneLiesAheadOf v = (kind : AnyKind) →
    list_all (λ news. nat_le (moment_of news) v.now) (news_of kind v.facts) ≡ true

-- a report counts no longer than the highest TTLs noted say
abbrev pub ReportsCountNoLonger : Type 0
ReportsCountNoLonger =
    (policy : Policy) (v : View) (roll : RollType) (half : Half) (ttl now : ℕ) →
    NoneLiesAheadOf v →
    ((kind : AnyKind) → v.highest kind ≡ highest_of v.before v.facts kind) →
    next_of policy v ≡ Make (keyset.Report roll half ttl now) →
    ttl ≤ report_takes v.highest roll (is_second half)

-- Once all servers have the sets of each kind that it speaks of, by the notes, a report is said, or
-- another call; if 32 bits can hold its TTL.
abbrev pub ReportsAreInTime : Type 0
ReportsAreInTime =
    (policy : Policy) (v : View) (roll : RollType) (half : Half) (step : LastStep) →
    NoneLiesAheadOf v →
    ((kind : AnyKind) → v.highest kind ≡ highest_of v.before v.facts kind) →
    phase_of v.set.rolls roll ≡ Some (propagation half) →
    v.step roll ≡ Some step →
    ((kind : SetKind) → retires roll (is_second half) (kind_of kind) ≡ true →
    reach_in v kind (origin_in step.origins (kind_of kind)) ≡ Everywhere) →
    report_takes v.highest roll (is_second half) ≤ 4_294_967_295 →
    rank (next_of policy v) ≡ 0

-- and once they have what its last actions wait for, the end of a roll, or another call
abbrev pub EndsAreInTime : Type 0
EndsAreInTime = (policy : Policy) (v : View) (roll : RollType) (base : ℕ) →
    phase_of v.set.rolls roll ≡ Some Done →
    v.last roll ≡ Some base →
    ((kind : SetKind) → ends_with roll kind ≡ true → reach_in v kind base ≡ Everywhere) →
    rank (next_of policy v) ≡ 0

-- ---- what is wanted is done, or it is said why not

-- a cause is said
abbrev pub IsStuck : Policy → View → Type 0
IsStuck policy v = (why : Why) × (stuck_of policy v ≡ Some why)

-- a call is said or what the operator has to do, or why nothing is done
abbrev pub IsUnderWay : Policy → View → Type 0
IsUnderWay policy v = (rank (next_of policy v) ≤ 2) ⊎ IsStuck policy v

-- nothing that the policy wants is passed over in silence
pub record IsOutspoken (policy : Policy) (v : View) : Type 0 where
  -- a roll that doesn't go on
  pub rolls : (roll : RollType) (phase : RollState) (why : Why) →
      phase_of v.set.rolls roll ≡ Some phase →
      why_of roll phase (roll_next v roll phase) ≡ Some why → IsStuck policy v
  -- the first keys, another algorithm or another scheme
  pub change : wants_others policy v.set.keys ≡ true → IsUnderWay policy v
  -- a key whose time is over
  pub renewals : (roll : RollType) → list_any (same_roll roll) (rolls_of policy.scheme) ≡ true →
      is_over policy v roll ≡ true → IsUnderWay policy v
  -- a key that no roll takes out
  pub keys : (q : List ℕ) (k : KeyParts) → get v.set.keys q ≡ Some k →
      is_left_over v.set.rolls k ≡ true → IsStuck policy v

abbrev pub NothingIsSilent : Type 0
NothingIsSilent = (policy : Policy) (v : View) → IsOutspoken policy v

-- ---- rest

-- the zone is as the policy wants it, for good, and nothing is stuck
pub record IsAsWanted (policy : Policy) (v : View) : Type 0 where
  pub rolls : (roll : RollType) → phase_of v.set.rolls roll ≡ None
  pub gone : (q : List ℕ) (k : KeyParts) → get v.set.keys q ≡ Some k →
      all_states is_stale k.keytype ≡ false
  pub others : wants_others policy v.set.keys ≡ false
  pub renewals : (roll : RollType) → list_any (same_roll roll) (rolls_of policy.scheme) ≡ true →
      first_over (role_of roll) (renewal_of policy (role_of roll)) (values v.set.keys) ≡ None
  pub stuck : stuck_of policy v ≡ None

-- only then nothing is said
abbrev pub RestIsAsWanted : Type 0
RestIsAsWanted = (policy : Policy) (v : View) → next_of policy v ≡ Rest → IsAsWanted policy v

-- ---- from the code's answer to an automatic record

-- an automatic record goes on by a call that adds a key, or that was said by what is known of it
abbrev pub AutomaticRunsGrow : Type 0
AutomaticRunsGrow =
    (name : List ℕ) (calls : List Call) (entries : List Entry) (network : Network) (time : ℕ)
    (call : Call) (entry : Entry) →
    length entries ≡ length calls →
    IsAutomatic name calls entries network time →
    (is_add call ≡ true) ⊎ IsSaid name calls entries network time (length calls) call →
    IsAutomatic name (calls ++ call ∷ []) (entries ++ entry ∷ []) network time

-- these are the last second waits of the calls
abbrev pub AreLastsOf : List Call → List Entry → LastWaits → Type 0
AreLastsOf calls entries waits = (roll : RollType) → last_of waits roll
    ≡ last_below calls entries roll (length entries)

-- after one more call, at this position, which got this reply; it is the second wait of this roll,
-- if of any
abbrev pub LastsFollow : LastWaits → Option RollType → Reply → ℕ → LastWaits → Type 0
LastsFollow old wait reply at new =
    (calls : List Call) (entries : List Entry) (call : Call) (entry : Entry) →
    length entries ≡ length calls →
    AreLastsOf calls entries old →
    second_wait_of call ≡ wait →
    entry.reply ≡ reply →
    at ≡ suc (length entries) →
    AreLastsOf (calls ++ call ∷ []) (entries ++ entry ∷ []) new

-- this is the first call by hand
abbrev pub IsFirstOf : List ℕ → List Call → List Entry → FirstByHand → Type 0
IsFirstOf name calls entries first = first.at ≡ first_by_hand name calls entries (length entries)

-- after one more call, at this position, which got this reply
abbrev pub FirstFollows : FirstByHand → Bool → Reply → ℕ → FirstByHand → Type 0
FirstFollows old by_hand reply at new =
    (name : List ℕ) (calls : List Call) (entries : List Entry) (call : Call) (entry : Entry) →
    length entries ≡ length calls →
    IsFirstOf name calls entries old →
    is_by_hand (world_at name calls entries (length entries)).set call ≡ by_hand →
    entry.reply ≡ reply →
    suc (length entries) ≡ at →
    IsFirstOf name (calls ++ call ∷ []) (entries ++ entry ∷ []) new

-- a state that is handed to `next` is that after these calls, and its notes are true up to a time
pub record Knows (name : List ℕ) (calls : List Call) (entries : List Entry) (network : Network)
    (time : ℕ) (s : State) : Type 0 where
  pub set : s.keyset.now ≡ (world_at name calls entries (length entries)).set
  pub steps : AreStepsOf entries s.steps
  pub lasts : AreLastsOf calls entries s.last_waits
  pub highest : AreHighest s.notes.now.before s.notes.now.facts s.highest
  pub are_true : AreTrue s.notes.now.before s.notes.now.facts network time

-- then a call that `next` answers is said
abbrev pub AnswersAreSaid : Type 0
AnswersAreSaid =
    (name : List ℕ) (calls : List Call) (entries : List Entry) (network : Network) (time : ℕ)
    (s : State) (end : RollType → Option WaitEnd) (policy : Policy) (call : Call) →
    Knows name calls entries network time s →
    ((roll : RollType) → SaysEnd roll s.keyset.now (end roll)) →
    answer_of policy s.by_hand.at (view_of s end) ≡ Make (call_of call) →
    s.moment ≤ network.made (suc (length entries)) →
    IsSaid name calls entries network time (length entries) call
