-- The TTL with which a report is due, by what is noted; and that the report is then true.
use Rattle.std.specs.Prelude.{◌≡◌, ℕ, ◌≤◌, Bool, max, List, Option, None, Some, Result, Ok, Err}
use Rattle.std.specs.Prelude.{if◌then◌else◌, true, nat_lt, option_and_then, unwrap_or}
use Rattle.std.specs.Option.{ok_or, option_map}
use Rattle.dnssec_key.specs.RollTable.{is_second}
use Rattle.dnssec_key.specs.declared.roll.Half.{Half, TheVariants.First, TheVariants.Second}
use Rattle.dnssec_key.specs.declared.roll.RollState.{RollState}
use Rattle.dnssec_key.specs.declared.roll.RollState.TheVariants.{Propagation1, Propagation2}
use Rattle.dnssec_key.specs.declared.roll.RollType.{RollType}
use Rattle.dnssec_run.specs.{Moments.moment_of_call, declared.record.Entry.Entry}
use Rattle.dnssec_run.specs.{declared.running.LastStep.LastStep, Origins.origin}
use Rattle.dnssec_run.specs.declared.caches.SetKind.TheVariants.{Ds, Dnskey, ZoneSigners}
use Rattle.dnssec_run.specs.{Safe.SetKind, Safe.kind_of, Safe.retires, Steps.origin_in}
use Rattle.dnssec_run.specs.declared.caches.SetKind.{SetKind as Kind}
use Rattle.dnssec_network.specs.declared.due.{DueReport.DueReport, NotYet.NotYet}
use Rattle.dnssec_network.specs.declared.due.NotYet.TheVariants.{WaitsFor, WaitsUntil}
use Rattle.dnssec_network.specs.declared.fact.Fact.{Fact}
use Rattle.dnssec_network.specs.Facts.{Before, AreTrue, news_of, ttl_before}
use Rattle.dnssec_network.specs.Network.{FindChain, IsTrueReport, Network, NeverGoesBack}
use Rattle.dnssec_network.specs.Network.{NoneLiesAhead, OfPlainLists, PastReport}
use Rattle.dnssec_network.specs.Spread.{due_for, known}

-- ---- which TTL is due

-- the higher of two TTLs, or the first kind that has none yet
abbrev pub higher : Result ℕ Kind → Result ℕ Kind → Result ℕ Kind
higher (Ok a) (Ok b) = Ok (max a b)
higher (Ok a) (Err kind) = Err kind
higher (Err kind) other = Err kind

-- the TTL for a kind that the report speaks of, or the kind if none is due yet; for another kind
-- any will do
abbrev pub due_of : Before → List Fact → Kind → Bool → ℕ → ℕ → Result ℕ Kind
due_of before facts kind speaks base now =
    if speaks then ok_or (due_for base
    (known base (ttl_before before (kind_of kind)) (news_of (kind_of kind) facts)) now) kind
    else Ok 0

-- The highest TTL for all kinds that a report of the roll speaks of; or the first such kind whose
-- older sets servers may still give. The sets of each kind that the roll's step left came at the
-- position `from` of the kind.
abbrev pub due : Before → List Fact → RollType → Bool → (SetKind → ℕ) → ℕ → Result ℕ Kind
due before facts roll second from now =
    higher (higher (due_of before facts Ds (retires roll second (kind_of Ds)) (from (kind_of Ds))
    now)
    (due_of before facts Dnskey (retires roll second (kind_of Dnskey)) (from (kind_of Dnskey))
    now))
    (due_of before facts ZoneSigners (retires roll second (kind_of ZoneSigners))
    (from (kind_of ZoneSigners)) now)

-- ---- which report is due

-- the half of whose report a roll in this phase waits, if any
abbrev pub waited_for : Option RollState → Option Half
waited_for (Some Propagation1) = Some First
waited_for (Some Propagation2) = Some Second
waited_for _ = None

-- a TTL, or the kind that its report waits for
abbrev pub ttl_or_kind : Result ℕ Kind → Result ℕ NotYet
ttl_or_kind (Ok ttl) = Ok ttl
ttl_or_kind (Err kind) = Err (WaitsFor kind)

-- the same of a report that is never made before the time at its step
abbrev pub due_from : ℕ → ℕ → Result ℕ Kind → Result ℕ NotYet
due_from begun now ttl = if nat_lt now begun then Err (WaitsUntil begun) else ttl_or_kind ttl

-- the report that a roll waits for in its phase, with its last step, given the times at the calls
abbrev pub due_report : Before → List Fact → List ℕ → Option RollState → Option LastStep → RollType
    → ℕ → Option DueReport
due_report before facts moments phase step roll now =
    option_and_then (λ half. option_map (λ (last : LastStep). record {
      roll = roll;
      half = half;
      ttl = due_from (unwrap_or (moment_of_call moments last.at) 0) now
          (due before facts roll (is_second half) (origin_in last.origins) now);
    }) step) (waited_for phase)

-- ---- reports by notes

-- a report of this roll was made with the TTL that is due by facts that are true up to a time, or
-- with a higher one
pub record IsByNotes (network : Network) (roll : RollType) (second : Bool)
    (from : SetKind → ℕ) (moment ttl time : ℕ) : Type 0 where
  pub before : Before
  pub facts : List Fact
  pub are_true : AreTrue before facts network time
  pub least : ℕ
  pub is_due : due before facts roll second from moment ≡ Ok least
  pub enough : least ≤ ttl

-- each report that was made by this time was made so
abbrev pub ReportsAreByNotes : List Entry → Network → ℕ → Type 0
ReportsAreByNotes entries network time = (r : PastReport entries network time) →
    IsByNotes network r.roll r.second (λ kind. origin entries kind r.base) r.moment r.ttl time

-- Of the kinds that a report speaks of nothing goes back to before the sets that its step left.
-- Before these came, versions may: a parent that reads CDS may, after a roll was ended early, give
-- once more what the start of the roll had asked for.
abbrev pub NoneGoesBack : List Entry → Network → ℕ → Type 0
NoneGoesBack entries network time = (r : PastReport entries network time) (kind : SetKind) →
    retires r.roll r.second kind ≡ true →
    NeverGoesBack network kind (origin entries kind r.base) time

-- then the reports are true
abbrev pub NotesMakeReportsTrue : Type 0
NotesMakeReportsTrue = (entries : List Entry) (network : Network) (time : ℕ) →
    NoneGoesBack entries network time →
    ReportsAreByNotes entries network time →
    (r : PastReport entries network time) (kind : SetKind) →
    retires r.roll r.second kind ≡ true →
    IsTrueReport network kind (origin entries kind r.base) r.moment r.ttl time

-- So an operator who reports by notes answers only for what can be seen: that servers give what was
-- published, and nothing goes back to before the sets that a step left; that the notes are true;
-- and that no moment lay ahead of the clock.
abbrev pub NotedReportsReachResolvers : Type 0
NotedReportsReachResolvers = OfPlainLists (λ name calls entries network time.
    NoneGoesBack entries network time →
    ReportsAreByNotes entries network time →
    NoneLiesAhead entries network time →
    FindChain entries network time)
