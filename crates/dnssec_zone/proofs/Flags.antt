-- What flags a key may have, by side, roll and phase: for the chain of trust and whole rolls.
use Rattle.std.proofs.Common.{◌≡◌, Bool, true, false, not, ◌&&◌, arith}
use Rattle.std.{specs.Prelude.if◌then◌else◌, proofs.lemmas.Bool.and_parts}
use Rattle.dnssec_key.specs.declared.roll.RollType.TheVariants.{KskDoubleDsRoll}
use Rattle.dnssec_key.specs.declared.roll.RollType.TheVariants.{ZskDoubleSignatureRoll}
use Rattle.dnssec_key.specs.declared.roll.RollType.TheVariants.{AlgorithmRoll}
use Rattle.dnssec_key.specs.declared.kind.KeyType.TheVariants.{Ksk, Zsk, Csk, Include}
use Rattle.dnssec_key.specs.declared.{roll.RollType.RollType, kind.KeyType.KeyType}
use Rattle.dnssec_key.specs.State.{Flags, is_used, is_stale as stale_state, Flags as KeyState}
use Rattle.dnssec_key.specs.Key.{all_states}
use Rattle.dnssec_key.specs.declared.roll.Half.TheVariants.{First, Second}
use Rattle.dnssec_key.specs.RollTable.{half_of, column, at_roles, turns_old}
use Rattle.dnssec_zone.specs.Start.{are_apart, lists_kind, side_of, KskSide, ZskSide}
use Rattle.dnssec_zone.proofs.Tests.{◌⇒◌, alike}

-- the kind and the flags of a key that is listed as old or not, and after a start
abbrev pub listed_old : Bool → KeyType → KeyType
listed_old true k = at_roles turns_old turns_old k
listed_old false k = k

abbrev pub started : RollType → Bool → Bool → KeyType → KeyType
started r o true k = (column r).comes (listed_old o k)
started r o false k = listed_old o k

-- and one of a roll that is ended early
abbrev pub returned : RollType → Bool → KeyType → KeyType
returned r true k = (column r).returns k
returned r false k = k

abbrev pub ended : RollType → Bool → Bool → KeyType → KeyType
ended r o true k = (column r).goes (returned r o k)
ended r o false k = returned r o k

abbrev pub blank_state : Flags → Bool
blank_state s = not s.old && not (is_used s)

abbrev pub is_blank : KeyType → Bool
is_blank k = all_states blank_state k

abbrev pub is_stale : KeyType → Bool
is_stale k = all_states stale_state k

-- the two sides on which a start wants a suitable key
pub data SideOf : Type 0 where
  Keys : SideOf
  Zone : SideOf

-- a roll may list keys of the side
abbrev pub affects : SideOf → RollType → Bool
affects Keys r = not (are_apart KskSide (side_of r))
affects Zone r = not (are_apart ZskSide (side_of r))

-- how far a side is: in no roll, before its first wait, or after it
pub data Stage : Type 0 where
  Quiet : Stage
  Early : RollType → Stage
  Late : RollType → Stage

-- the flags that a KSK role may have at a stage: a Double-DS roll begins at the parent
abbrev pub ksk_fits : Stage → KeyState → Bool
ksk_fits Quiet s =
    alike s.signer s.present && alike s.present s.at_parent && (s.present ⇒ not s.old)
ksk_fits (Early KskDoubleDsRoll) s = alike s.signer s.present && (s.present ⇒ s.at_parent)
    && ((s.at_parent && not s.present) ⇒ not s.old)
ksk_fits (Early _) s = alike s.signer s.present && (s.at_parent ⇒ s.present)
    && ((s.present && not s.at_parent) ⇒ not s.old)
ksk_fits (Late KskDoubleDsRoll) s =
    alike s.signer s.present && alike s.present (s.at_parent && not s.old)
ksk_fits (Late _) s = alike s.signer s.present && alike s.at_parent (s.present && not s.old)

-- and a ZSK role: in rolls that sign twice, each published key signs
abbrev pub zsk_fits : Stage → KeyState → Bool
zsk_fits (Early ZskDoubleSignatureRoll) s = alike s.signer s.present
zsk_fits (Early AlgorithmRoll) s = alike s.signer s.present
zsk_fits (Late AlgorithmRoll) s = alike s.signer s.present
zsk_fits (Early _) s = (s.signer ⇒ s.present) && ((s.present && not s.signer) ⇒ not s.old)
zsk_fits Quiet s = alike s.signer s.present && (s.present ⇒ not s.old)
zsk_fits (Late ZskDoubleSignatureRoll) s = alike s.signer s.present && (s.present ⇒ not s.old)
zsk_fits (Late _) s = alike s.signer (s.present && not s.old)

-- a roll that lists keys of one side leaves CSKs as in no roll
abbrev pub csk_stage : Stage → Stage
csk_stage Quiet = Quiet
csk_stage (Early r) = if affects Keys r && affects Zone r then Early r else Quiet
csk_stage (Late r) = if affects Keys r && affects Zone r then Late r else Quiet

-- both roles of a Csk are in and old together
abbrev pub tied : KeyState → KeyState → Bool
tied s t = alike s.present t.present && (t.present ⇒ alike s.old t.old)

-- a key may have these flags on this side, at this stage
abbrev pub flags_fit : SideOf → Stage → KeyType → Bool
flags_fit Keys st (Ksk s) = ksk_fits st s
flags_fit Keys st (Csk s t) = ksk_fits (csk_stage st) s
flags_fit Zone st (Zsk s) = zsk_fits st s
flags_fit Zone st (Csk s t) = zsk_fits (csk_stage st) t && tied s t
flags_fit _ _ _ = true

-- what a start may meet: what it lists it may list, and new keys are blank
abbrev pub may_start : RollType → Bool → Bool → KeyType → Bool
may_start r o i k = (o ⇒ lists_kind (side_of r) k) && (i ⇒ (lists_kind (side_of r) k
    && is_blank k && not o))

-- has the role of the side
abbrev pub has_role : SideOf → KeyType → Bool
has_role Keys (Ksk s) = true
has_role Keys (Csk s t) = true
has_role Zone (Zsk s) = true
has_role Zone (Csk s t) = true
has_role _ _ = false

abbrev pub idle_state : KeyState → Bool
idle_state s = not s.signer && not s.present && not s.at_parent

-- in no use on any side: another signer's key never is
abbrev pub is_idle : KeyType → Bool
is_idle (Ksk s) = idle_state s
is_idle (Zsk s) = idle_state s
is_idle (Csk s t) = idle_state s && idle_state t
is_idle (Include s) = true

-- a key that a side doesn't see, or that is idle, fits any stage of it
pub unseen-fits : (sd : SideOf) (st : Stage) (k : KeyType) → has_role sd k ≡ false
    → flags_fit sd st k ≡ true
unseen-fits sd st k e = grind arith

pub idle-fits : (sd : SideOf) (st : Stage) (k : KeyType) → is_idle k ≡ true → flags_fit sd st k
    ≡ true
unfolding column
idle-fits sd st k e = grind arith

pub stale-idle : (k : KeyType) → is_stale k ≡ true → is_idle k ≡ true
stale-idle k e = grind (arith, and_parts)

pub blank-idle : (k : KeyType) → is_blank k ≡ true → is_idle k ≡ true
blank-idle k e = grind (arith, and_parts)

-- ---- each call keeps it

-- a start
pub start-fits : (sd : SideOf) (r : RollType) (o i : Bool) (k : KeyType) → affects sd r ≡ true
    → may_start r o i k ≡ true → flags_fit sd Quiet k ≡ true
    → flags_fit sd (Early r) (started r o i k) ≡ true
unfolding column
start-fits sd r o i k own may fit = grind arith

-- a first wait
pub wait1-fits : (sd : SideOf) (r : RollType) (k : KeyType) → affects sd r ≡ true
    → flags_fit sd (Early r) k ≡ true → flags_fit sd (Late r) ((half_of r First).moves k) ≡ true
unfolding column
wait1-fits sd r k own fit = grind arith

-- a second wait
pub wait2-fits : (sd : SideOf) (r : RollType) (k : KeyType) → affects sd r ≡ true
    → flags_fit sd (Late r) k ≡ true → flags_fit sd Quiet ((half_of r Second).moves k) ≡ true
unfolding column
wait2-fits sd r k own fit = grind arith
