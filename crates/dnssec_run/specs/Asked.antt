-- Nothing changes unasked: what is published changes only if the reply asks the operator to publish
-- it, and a report retires exactly what the operator was asked to report.
use Rattle.std.specs.Prelude.{◌≡◌, ◌⊎◌, ◌↔◌, ℕ, zero, suc, Bool, true, false, List, []}
use Rattle.std.specs.Prelude.{◌||◌, slice_get, Some}
use Rattle.std.specs.List.{Contains, list_any}
use Rattle.std.specs.Option.{option_map_or}
use Rattle.dnssec_key.specs.declared.roll.Action.{Action}
use Rattle.dnssec_key.specs.declared.roll.Action.TheVariants.{UpdateDnskeyRrset, UpdateDsRrset}
use Rattle.dnssec_key.specs.declared.roll.Action.TheVariants.{UpdateRrsig}
use Rattle.dnssec_key.specs.declared.roll.Action.TheVariants.{ReportDnskeyPropagated}
use Rattle.dnssec_key.specs.declared.roll.Action.TheVariants.{ReportDsPropagated}
use Rattle.dnssec_key.specs.declared.roll.Action.TheVariants.{ReportRrsigPropagated}
use Rattle.dnssec_key.specs.declared.roll.RollType.{RollType}
use Rattle.dnssec_key.specs.Setters.{Setting, Present, Signer, AtParent, Stale, is_flag_setting}
use Rattle.dnssec_keyset.specs.Step as keyset
use Rattle.dnssec_run.specs.declared.call.Call.{Call}
use Rattle.dnssec_run.specs.declared.record.Entry.{Entry}
use Rattle.dnssec_run.specs.declared.record.Mark.TheVariants.{Report}
use Rattle.dnssec_run.specs.declared.record.Reply.{Reply}
use Rattle.dnssec_run.specs.declared.record.Reply.TheVariants.{Done, Actions, Refused}
use Rattle.dnssec_run.specs.declared.lists.Shown.{Shown}
use Rattle.dnssec_run.specs.declared.lists.Shown.TheVariants as lists
use Rattle.dnssec_run.specs.Record.{call_of}
use Rattle.dnssec_run.specs.Safe.{SetKind, Ds, Dnskey, ZoneSigners, Position, position_at}
use Rattle.dnssec_run.specs.Safe.{base_below, retires}

-- ---- what is asked

-- what a reply asks of the operator
abbrev pub asked_by : Reply → List Action
asked_by Done = []
asked_by (Actions actions) = actions.items
asked_by (Refused cause) = []

-- what the reply at a position asks; position 0 has none
abbrev pub asked_at : List Entry → ℕ → List Action
asked_at entries zero = []
asked_at entries (suc n) = option_map_or (λ entry. asked_by entry.reply) (slice_get entries n) []

-- the action that asks to publish the sets of this kind anew; a DNSKEY set and its signers are one
-- kind, since each version goes out with its signatures (RFC 4035, section 2.2)
abbrev pub update_of : SetKind → Action
update_of Ds = UpdateDsRrset
update_of Dnskey = UpdateDnskeyRrset
update_of ZoneSigners = UpdateRrsig

-- the action asks to publish the sets of this kind anew
abbrev pub updates : SetKind → Action → Bool
updates Ds UpdateDsRrset = true
updates Dnskey UpdateDnskeyRrset = true
updates ZoneSigners UpdateRrsig = true
updates _ _ = false

-- the reply asks to publish sets of some kind anew
abbrev pub asks_to_publish : Reply → Bool
asks_to_publish reply =
    let asks = λ (kind : SetKind). list_any (updates kind) (asked_by reply) in
    asks Ds || asks Dnskey || asks ZoneSigners

-- the action that asks to report when all servers have them
abbrev pub report_of : SetKind → Action
report_of Ds = ReportDsPropagated
report_of Dnskey = ReportDnskeyPropagated
report_of ZoneSigners = ReportRrsigPropagated

-- ---- what changes

-- a call that sets a flag by hand
abbrev pub sets_flag : keyset.Call → Bool
sets_flag (keyset.Set reference setting) = is_flag_setting setting
sets_flag _ = false

-- the kind of the sets that a list is a part of
abbrev pub kind_shown : Shown → SetKind
kind_shown lists.Ds = Ds
kind_shown lists.ZoneSigners = ZoneSigners
kind_shown _ = Dnskey

-- a setter of a flag that decides which keys the list shows
abbrev pub flag_shown : Setting → Shown → Bool
flag_shown (Present value now) lists.Dnskey = true
flag_shown (Signer value) lists.DnskeySigners = true
flag_shown (Signer value) lists.ZoneSigners = true
flag_shown (AtParent value) lists.Ds = true
flag_shown Stale list = true
flag_shown _ _ = false

-- a call that sets such a flag by hand
abbrev pub sets_shown : Shown → keyset.Call → Bool
sets_shown list (keyset.Set reference setting) = flag_shown setting list
sets_shown list _ = false

-- what is published of this kind is the same at both positions
abbrev pub SamePublished : SetKind → Position → Position → Type 0
SamePublished Ds p q = q.ds ≡ p.ds
SamePublished Dnskey p q = (q.dnskey ≡ p.dnskey) × (q.signers ≡ p.signers)
SamePublished ZoneSigners p q = q.zone ≡ p.zone

-- A call that sets no flag by hand asks to publish what it changes: for each kind the reply asks
-- for an update, or the same is published as at the position before.
abbrev pub ChangesAsAsked : List Call → List Entry → Type 0
ChangesAsAsked calls entries = (n : ℕ) (call : Call) → slice_get calls n ≡ Some call →
    sets_flag (call_of call) ≡ false → (kind : SetKind) →
    Contains (asked_at entries (suc n)) (update_of kind)
    ⊎ SamePublished kind (position_at entries n) (position_at entries (suc n))

-- ---- what is retired

-- an accepted report counts from a start or a first wait, and retires exactly the kinds of sets
-- that the reply there asked to report
abbrev pub RetiresAsAsked : List Entry → Type 0
RetiresAsAsked entries = (n : ℕ) (roll : RollType) (second : Bool) (ttl : ℕ) →
    (position_at entries n).mark ≡ Report roll second ttl →
    (base : ℕ) × (base_below entries roll n ≡ Some base) ×
    ((kind : SetKind) →
    (retires roll second kind ≡ true) ↔ Contains (asked_at entries base) (report_of kind))
