-- Why a call on a key, or on a roll in its phase, is refused; and what a call then answers.
use Rattle.std.specs.Prelude.{ℕ, Option, None, Some, List, if◌then◌else◌, is_some, ◌≡◌, Result, Err}
use Rattle.std.specs.Prelude.{IsOk, ◌⊎◌}
use Rattle.std.specs.FinMap.{get}
use Rattle.dnssec_base.specs.declared.error.Error.{Error}
use Rattle.dnssec_base.specs.declared.error.Error.TheVariants.{KeyExists, DuplicateKeyTag}
use Rattle.dnssec_base.specs.declared.error.Error.TheVariants.{KeyNotFound, KeyNotOld}
use Rattle.dnssec_base.specs.declared.error.Error.TheVariants.{WrongStateForRollOperation}
use Rattle.dnssec_base.specs.declared.error.Error.TheVariants.{OutOfMemory}
use Rattle.dnssec_key.specs.Key.{KeyParts, all_states}
use Rattle.dnssec_key.specs.Setters.{Setting, kind_refusal}
use Rattle.dnssec_key.specs.State.{is_stale}
use Rattle.dnssec_key.specs.declared.roll.RollState.{RollState}
use Rattle.dnssec_key.specs.declared.roll.RollState.TheVariants.{Propagation1, Propagation2}
use Rattle.dnssec_key.specs.declared.roll.RollState.TheVariants.{Done as Finishing}
use Rattle.dnssec_key.specs.declared.roll.Half.{Half}
use Rattle.dnssec_key.specs.declared.roll.Half.TheVariants.{First, Second}
use Rattle.dnssec_zone.specs.Keys.{Keys, has_tag}

-- ---- of keys

-- why an add is refused for its reference, given the key that has it
abbrev pub reference_refusal : Option KeyParts → Option Error
reference_refusal found = if is_some found then Some KeyExists else None

-- why an add of a key is refused: first its tag, then its reference
abbrev pub add_refusal : Keys → List ℕ → ℕ → Option Error
add_refusal keys reference tag =
    if has_tag tag keys then Some DuplicateKeyTag else reference_refusal (get keys reference)

-- why a setter is refused, given the key that it names
abbrev pub setting_refusal : Setting → Option KeyParts → Option Error
setting_refusal setting None = Some KeyNotFound
setting_refusal setting (Some k) = kind_refusal setting k.keytype

-- why a deletion is refused: only a key that has left in every role may go
abbrev pub deletion_refusal : Option KeyParts → Option Error
deletion_refusal None = Some KeyNotFound
deletion_refusal (Some k) = if all_states is_stale k.keytype then None else Some KeyNotOld

-- ---- of rolls

-- why a report is refused: it belongs to the phase in which its change spreads
abbrev pub report_refusal : Half → Option RollState → Option Error
report_refusal First (Some Propagation1) = None
report_refusal Second (Some Propagation2) = None
report_refusal half _ = Some WrongStateForRollOperation

-- why the end of a roll is refused: it belongs to its last phase
abbrev pub end_refusal : Option RollState → Option Error
end_refusal (Some Finishing) = None
end_refusal _ = Some WrongStateForRollOperation

-- why an early end is refused: after the first report caches may hold what the start changed
abbrev pub early_end_refusal : Option RollState → Option Error
early_end_refusal (Some Propagation1) = None
early_end_refusal _ = Some WrongStateForRollOperation

-- ---- what a call answers

-- a call that takes no memory answers its cause, or is accepted
abbrev pub AnswersExactly : {T : Type 0} → Option Error → Result T Error → Type 0
AnswersExactly (Some cause) r = r ≡ Err cause
AnswersExactly None r = IsOk r

-- a call that takes memory may also run out of it, but has no cause then
abbrev pub Answers : {T : Type 0} → Option Error → Result T Error → Type 0
Answers (Some cause) r = r ≡ Err cause
Answers None r = IsOk r ⊎ (r ≡ Err OutOfMemory)
