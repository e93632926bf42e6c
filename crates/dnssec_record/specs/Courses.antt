-- What the calls so far mean for the rolls: which keys the starts of rolls in progress listed, and
-- which rolls were ended early.
use Rattle.std.specs.Prelude.{ℕ, Bool, List, [], ◌∷◌, ◌++◌, map, filter, fold, not, string_bytes}
use Rattle.std.specs.Prelude.{if◌then◌else◌}
use Rattle.std.specs.Str.{bytes_eq}
use Rattle.dnssec_key.specs.declared.roll.RollType.{RollType}
use Rattle.dnssec_zone.specs.Rolls.{same_roll}
use Rattle.dnssec_zone.specs.Start.{texts, together}
use Rattle.dnssec_run.specs.declared.call.Call.{Call}
use Rattle.dnssec_run.specs.declared.call.Call.TheVariants.{DeleteKey, StartRoll, RollDone}
use Rattle.dnssec_run.specs.declared.call.Call.TheVariants.{AbortRoll}
use Rattle.dnssec_run.specs.declared.record.Entry.{Entry}
use Rattle.dnssec_run.specs.declared.record.Reply.{Reply}
use Rattle.dnssec_run.specs.Record.{is_accepted}
use Rattle.dnssec_record.specs.declared.courses.Listing as code
use Rattle.dnssec_zone.specs.declared.rolls.Part.{Part}
use Rattle.dnssec_zone.specs.declared.rolls.Part.TheVariants.{Old, New}
use Rattle.dnssec_record.specs.declared.courses.Turn.{Turn}
use Rattle.dnssec_record.specs.declared.courses.Turn.TheVariants.{Starts, Ends, EndsEarly, Deletes}
use Rattle.dnssec_record.specs.declared.courses.Turn.TheVariants.{GoesOn}

-- ---- turns

-- what an accepted call means for the rolls
abbrev pub turn_of : Call → Turn
turn_of (StartRoll roll old new now) = Starts roll old new
turn_of (RollDone roll) = Ends roll
turn_of (AbortRoll roll) = EndsEarly roll
turn_of (DeleteKey reference) = Deletes reference
turn_of _ = GoesOn

-- a refused one means nothing
abbrev pub turn_after : Turn → Reply → Turn
turn_after turn reply = if is_accepted reply then turn else GoesOn

-- the turns of a record
abbrev pub turns : List Call → List Entry → List Turn
turns (call ∷ calls) (entry ∷ entries) =
    turn_after (turn_of call) entry.reply ∷ turns calls entries
turns _ _ = []

-- ---- the keys of a roll

-- a key that the start of a roll listed, old or new
pub record Listing : Type 0 where
  pub roll : RollType
  pub part : Part
  pub reference : List ℕ

abbrev pub as_listed : code.Listing → Listing
as_listed l = record { roll = l.roll; part = l.part; reference = string_bytes l.reference }

-- these references, for a roll
abbrev pub listings : RollType → Part → List (List ℕ) → List Listing
listings roll part = map (λ q. record { roll = roll; part = part; reference = q })

-- it is not of this roll
abbrev pub is_of_other : RollType → Listing → Bool
is_of_other roll l = not (same_roll roll l.roll)

-- it is not of the key at this reference
abbrev pub is_another : List ℕ → Listing → Bool
is_another reference l = not (bytes_eq reference l.reference)

-- a start lists keys; they are listed until the roll ends, or until they are deleted
abbrev pub listed_after : List Listing → Turn → List Listing
listed_after ls (Starts roll old new) =
    ls ++ listings roll Old (texts old.now) ++ listings roll New (texts new.now)
listed_after ls (Ends roll) = filter (is_of_other roll) ls
listed_after ls (EndsEarly roll) = filter (is_of_other roll) ls
listed_after ls (Deletes reference) = filter (is_another reference.now) ls
listed_after ls GoesOn = ls

-- the keys of the rolls that are in progress after these calls
abbrev pub listed_by : List Call → List Entry → List Listing
listed_by calls entries = fold listed_after [] (turns calls entries)

-- ---- early ends

-- What an early end asked for is reported by no call. It is shown until a roll starts that may not
-- go beside the one that was ended: who starts it has seen that done.
abbrev pub ended_after : List RollType → Turn → List RollType
ended_after rolls (Starts roll old new) = filter (together roll) rolls
ended_after rolls (Ends roll) = rolls
ended_after rolls (EndsEarly roll) = rolls ++ roll ∷ []
ended_after rolls (Deletes reference) = rolls
ended_after rolls GoesOn = rolls

-- the rolls whose early end is to be shown after these calls
abbrev pub ended_by : List Call → List Entry → List RollType
ended_by calls entries = fold ended_after [] (turns calls entries)
