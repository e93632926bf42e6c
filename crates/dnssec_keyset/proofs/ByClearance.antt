-- The allowed step once more, by the clearance in place of the reply.
use Rattle.std.proofs.Common.{◌≡◌, arith, inl}
use Rattle.std.specs.{Prelude.◌⊎◌, Duration.as_nanos, declared.time.Duration.Duration}
use Rattle.dnssec_base.specs.declared.error.Error.TheVariants.{Wait as WaitFor, OutOfMemory}
use Rattle.dnssec_zone.specs.Wait.{Clearance, Barred, Early, Clear}
use Rattle.dnssec_keyset.specs.Step.{Call, Reply, Refused, accepted_reply, clearance, IsRefusedFor}
use Rattle.dnssec_keyset.specs.Step.{TakesMemory, Step}
use Rattle.dnssec_keyset.{specs.KeySet.KeySetParts, proofs.After.changed, proofs.Changes.Changes}

-- a call with this clearance may have the reply and leave new
abbrev pub StepBy : Clearance → KeySetParts → Call → Reply → KeySetParts → Type 0
StepBy (Barred cause) old call reply new = (reply ≡ Refused cause) × (new ≡ old)
StepBy (Early left) old call reply new =
    ((d : Duration) × (reply ≡ Refused (WaitFor d)) × (as_nanos d ≡ left)) × (new ≡ old)
StepBy Clear old call reply new =
    ((reply ≡ accepted_reply call) × Changes old call new)
    ⊎ (TakesMemory call × (reply ≡ Refused OutOfMemory) × (new ≡ old))

pub by-clearance : (old new : KeySetParts) (call : Call) (reply : Reply) → Step old call reply new
    → StepBy (clearance old call) old call reply new
by-clearance old new call (Refused cause) h = at (clearance old call) h.0
  where
    at : (v : Clearance) → IsRefusedFor v call cause → StepBy v old call (Refused cause) new
    at v e = grind (arith, h.1)
by-clearance old new call _ h = rw (h.0) (inl (h.1, changed old new call h.2))
