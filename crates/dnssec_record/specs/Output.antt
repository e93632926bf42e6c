-- What is written for a run: the answer to each call, the sets that are published at the end, and
-- the verdict on the record.
use Rattle.std.specs.Prelude.{ℕ, ◌-◌, Option, Some, None, List, [], ◌∷◌, ◌++◌, length, slice_get}
use Rattle.std.specs.Prelude.{codes, decimal, string_bytes}
use Rattle.std.specs.List.{flat_map}
use Rattle.dnssec_base.specs.ErrorTexts.{error_text}
use Rattle.dnssec_key.specs.declared.roll.Action.{Action}
use Rattle.dnssec_key.specs.declared.roll.Action.TheVariants as action
use Rattle.dnssec_run.specs.declared.record.Entry.{Entry}
use Rattle.dnssec_run.specs.declared.record.Published.{Published}
use Rattle.dnssec_run.specs.declared.record.PublishedKey.{PublishedKey}
use Rattle.dnssec_run.specs.declared.record.Reply.{Reply}
use Rattle.dnssec_run.specs.declared.record.Reply.TheVariants.{Done, Actions, Refused}
use Rattle.dnssec_judge.specs.declared.verdict.Broken.{Broken}

-- the name of each action
abbrev pub action_name : Action → List ℕ
action_name action.UpdateDnskeyRrset = codes "UpdateDnskeyRrset"
action_name action.CreateCdsRrset = codes "CreateCdsRrset"
action_name action.RemoveCdsRrset = codes "RemoveCdsRrset"
action_name action.UpdateDsRrset = codes "UpdateDsRrset"
action_name action.UpdateRrsig = codes "UpdateRrsig"
action_name action.ReportDnskeyPropagated = codes "ReportDnskeyPropagated"
action_name action.WaitDnskeyPropagated = codes "WaitDnskeyPropagated"
action_name action.ReportDsPropagated = codes "ReportDsPropagated"
action_name action.WaitDsPropagated = codes "WaitDsPropagated"
action_name action.ReportRrsigPropagated = codes "ReportRrsigPropagated"
action_name action.WaitRrsigPropagated = codes "WaitRrsigPropagated"

-- actions, with a space before each
abbrev pub actions_text : List Action → List ℕ
actions_text actions = flat_map (λ action. codes " " ++ action_name action) actions

-- what a call answered
abbrev pub reply_text : Reply → List ℕ
reply_text Done = codes "ok"
reply_text (Actions actions) = codes "ok" ++ actions_text actions.items
reply_text (Refused error) = codes "refused: " ++ error_text error

-- a line for each call
abbrev pub answers : List Entry → List ℕ
answers entries = flat_map (λ entry. reply_text entry.reply ++ codes "\n") entries

-- references with commas between them, or `-` if there is none
abbrev pub set_text : List PublishedKey → List ℕ
set_text [] = codes "-"
set_text (key ∷ keys) =
    string_bytes key.reference ++ flat_map (λ k. codes "," ++ string_bytes k.reference) keys

-- the four sets
abbrev pub published_text : Published → List ℕ
published_text p =
    codes "ds=" ++ set_text p.ds.items ++ codes " dnskey=" ++ set_text p.dnskey.items
    ++ codes " signers=" ++ set_text p.dnskey_signers.items
    ++ codes " zone=" ++ set_text p.zone_signers.items ++ codes "\n"

-- the sets of an entry; without an entry all are empty
abbrev pub sets_text : Option Entry → List ℕ
sets_text None = codes "ds=- dnskey=- signers=- zone=-\n"
sets_text (Some entry) = published_text entry.published

-- the sets after the last call
abbrev pub set_line : List Entry → List ℕ
set_line entries = sets_text (slice_get entries (length entries - 1))

-- the positions of the first sets without a chain
abbrev pub broken_text : Broken → List ℕ
broken_text b =
    codes "at=" ++ decimal b.at ++ codes " ds=" ++ decimal b.ds
    ++ codes " dnskey=" ++ decimal b.dnskey ++ codes " zone=" ++ decimal b.zone

-- the verdict on the record
abbrev pub chain_line : Option Broken → List ℕ
chain_line None = codes "chain safe\n"
chain_line (Some b) = codes "chain broken " ++ broken_text b ++ codes "\n"

-- all that is written for a run with this verdict
abbrev pub output : List Entry → Option Broken → List ℕ
output entries verdict = answers entries ++ set_line entries ++ chain_line verdict
