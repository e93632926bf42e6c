-- What an accepted or a refused call found and left: for the chain of trust and the laws of runs.
use Rattle.dnssec_keyset.proofs.{After.changed, Changes.Changes}
use Rattle.dnssec_keyset.specs.KeySet.{KeySetParts}
use Rattle.std.proofs.Common.{◌≡◌, Bool, true, false, Option, None, Some, arith}
use Rattle.std.proofs.lemmas.Bool.{true≢false}
use Rattle.std.specs.Prelude.{if◌then◌else◌, is_some}
use Rattle.dnssec_key.specs.declared.roll.RollState.TheVariants.{Propagation1, Done}
use Rattle.dnssec_key.specs.{declared.roll.RollState.RollState, Key.KeyParts}
use Rattle.dnssec_base.specs.declared.error.Error.{Error}
use Rattle.dnssec_zone.specs.Refusals.{deletion_refusal}
use Rattle.dnssec_zone.proofs.Flags.{is_stale}
use Rattle.dnssec_keyset.specs.Step as keyset
use Rattle.dnssec_zone.specs.Wait as waits
use Rattle.dnssec_zone.specs.Refusals as refusals

abbrev pub is_refused : keyset.Reply → Bool
is_refused (keyset.Refused cause) = true
is_refused _ = false

-- an accepted call was clear, made its change, and answered what is due
pub accepted_changes : (old new : KeySetParts) (c : keyset.Call) (r : keyset.Reply) → is_refused r
    ≡ false → keyset.Step old c r new → (keyset.clearance old c ≡ waits.Clear) × Changes old c new
    × (r ≡ keyset.accepted_reply c)
accepted_changes old new c (keyset.Refused cause) a h = absurd (true≢false a)
accepted_changes old new c _ a h = (h.0, changed old new c h.2, h.1)

pub no_some : {A : Type 0} (o : Option A) → is_some o ≡ false → o ≡ None
no_some o e = grind arith

-- of a chain of causes that gives none, none stands
pub no_error : (b : Bool) (e : Error) (o : Option Error) → (if b then Some e else o) ≡ None
    → (b ≡ false) × (o ≡ None)
no_error b e o h = (grind arith, grind arith)

-- what is needed for no cause is there
pub needed : (b : Bool) (e : Error) (o : Option Error) → (if b then o else Some e) ≡ None → b ≡ true
needed b e o h = grind arith

-- a key that may be deleted is there, and stale
pub gone_key : (o : Option KeyParts) → deletion_refusal o ≡ None → (k : KeyParts) × (o ≡ Some k)
    × (is_stale k.keytype ≡ true)
gone_key o e = grind arith

-- the phase in which the end of a roll is accepted
pub finishes : (o : Option RollState) → refusals.end_refusal o ≡ None → o ≡ Some Done
finishes o e = grind arith

-- the phase in which an early end is accepted
pub ends_early : (o : Option RollState) → refusals.early_end_refusal o ≡ None
    → o ≡ Some Propagation1
ends_early o e = grind arith

-- an add is accepted only at a reference that no key has
pub add_free : (a b : Bool) (x y : Error)
    → (if a then Some x else (if b then Some y else None)) ≡ None → b ≡ false
add_free a b x y e = grind arith
