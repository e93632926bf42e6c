-- What a judge keeps of the entries so far: what caches may hold of each kind of sets, by numbers
-- of keys, and the verdict.
use Rattle.std.specs.Prelude.{◌≡◌, ◌≤◌, ◌<◌, ◌||◌, ℕ, suc, Bool, List, length, Option}
use Rattle.dnssec_run.specs.declared.record.{Entry.Entry, Mark.Mark}
use Rattle.dnssec_run.specs.Origins.{CachedSet, set_at}
use Rattle.dnssec_run.specs.Safe.{SetKind, Ds, Dnskey, ZoneSigners, position_at, position_of}
use Rattle.dnssec_run.specs.Moments.{latest_of}
use Rattle.dnssec_run.specs.Steps.{AreStepsOf, base_of}
use Rattle.dnssec_judge.specs.Inner.Reports.{IsNoneBefore, most}
use Rattle.dnssec_judge.specs.Inner.Window.{IsSame, IsTaken, Lifts, Tested, Watches}
use Rattle.dnssec_judge.specs.Inner.{Floor.over_by, Window.in_window}
use Rattle.dnssec_judge.specs.Numbers.{Keys}
use Rattle.dnssec_judge.specs.declared.window.Window.{Window}
use Rattle.dnssec_judge.specs.declared.judging.Windows.{Windows}
use Rattle.dnssec_judge.specs.Verdict.{IsVerdict}

-- a key with this number is in a set of a window
abbrev pub is_in_use : Windows → ℕ → Bool
is_in_use w number =
    (in_window w.ds number || in_window w.dnskey number) || in_window w.zone number

-- none of the reports that a window keeps is over before this moment
abbrev pub NoneBefore : ℕ → Window → Type 0
NoneBefore time w = IsNoneBefore time w.dues.list.items

-- what the next entries need to know of the entries so far
pub record Follows (entries : List Entry) (key : Keys) (w : Windows) : Type 0 where
  pub at : w.at ≡ length entries
  pub steps : AreStepsOf entries w.steps
  pub time : w.time ≡ latest_of entries
  pub fits : w.time < most
  pub ds : Watches entries Ds (length entries) key w.ds
  pub dnskey : Watches entries Dnskey (length entries) key w.dnskey
  pub zone : Watches entries ZoneSigners (length entries) key w.zone
  pub next : NoneBefore w.next w.ds × NoneBefore w.next w.dnskey × NoneBefore w.next w.zone
  pub within : w.tested ≤ suc (length entries)
  pub tested : Tested w.tested w.ds w.dnskey w.zone

-- the verdict on the entries so far, and what the next ones need
pub record KnowsBy (entries : List Entry) (key : Keys) (w : Windows) : Type 0 where
  pub verdict : IsVerdict entries w.found
  pub follows : Follows entries key w

-- what is published last, and what an entry publishes
abbrev pub last_set : List Entry → SetKind → CachedSet
last_set entries kind = set_at kind (position_at entries (length entries))

abbrev pub next_set : Entry → SetKind → CachedSet
next_set entry kind = set_at kind (position_of entry)

-- the entry publishes what the last of the entries does
abbrev pub StaysAs : List Entry → Entry → Type 0
StaysAs entries entry = (kind : SetKind) → next_set entry kind ≡ last_set entries kind

-- an entry with this mark and moment comes next
pub record HasCome (entries : List Entry) (entry : Entry) (mark : Mark) (moment : Option ℕ) (at : ℕ)
    : Type 0 where
  pub has_mark : entry.mark ≡ mark
  pub has_moment : entry.moment ≡ moment
  pub here : at ≡ suc (length entries)

-- the windows have taken the sets of the entry that comes next, if they are others, and nothing
-- more of it yet
pub record HaveTaken (entries : List Entry) (entry : Entry) (key : Keys) (at : ℕ)
    (old new : Windows) : Type 0 where
  pub kept : new ≡ record old { ds = new.ds; dnskey = new.dnskey; zone = new.zone }
  pub ds : IsTaken key (last_set entries Ds) (next_set entry Ds) at old.ds new.ds
  pub dnskey : IsTaken key (last_set entries Dnskey) (next_set entry Dnskey) at old.dnskey
      new.dnskey
  pub zone : IsTaken key (last_set entries ZoneSigners) (next_set entry ZoneSigners) at old.zone
      new.zone

-- the floors rise by the call with this mark and moment, and by the reports that are over
pub record AreLifted (old new : Windows) (mark : Mark) (moment : Option ℕ) : Type 0 where
  pub kept : new ≡ record old { next = new.next; ds = new.ds; dnskey = new.dnskey; zone = new.zone }
  pub ds : Lifts old.ds new.ds old.time (over_by Ds (base_of old.steps) mark moment)
  pub dnskey : Lifts old.dnskey new.dnskey old.time (over_by Dnskey (base_of old.steps) mark moment)
  pub zone : Lifts old.zone new.zone old.time (over_by ZoneSigners (base_of old.steps) mark moment)
  pub next : NoneBefore new.next new.ds × NoneBefore new.next new.dnskey
      × NoneBefore new.next new.zone

-- the second windows are a copy of the first
pub record AreSame (a b : Windows) : Type 0 where
  pub kept : b ≡ record a { ds = b.ds; dnskey = b.dnskey; zone = b.zone }
  pub ds : IsSame a.ds b.ds
  pub dnskey : IsSame a.dnskey b.dnskey
  pub zone : IsSame a.zone b.zone
