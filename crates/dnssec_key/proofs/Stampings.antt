-- Stamps are written one by one, each on the keys that pass (`write_stamps`).
use Rattle.std.proofs.Common.{◌≡◌, ℕ, Bool, arith}
use Rattle.std.specs.Prelude.{if◌then◌else◌}
use Rattle.dnssec_base.specs.{declared.time.Stamp.Stamp, Stamps.Stamps, Stamps.with_stamp}
use Rattle.dnssec_key.specs.{declared.kind.KeyType.KeyType, Stamping.Writes, Stamping.stamps_after}
use Rattle.dnssec_key.specs.Inner.Columns.{put}

-- a further stamp is written last
pub put_last : (w : Writes) (k : KeyType) (now : ℕ) (t : Stamps) (p : KeyType → Bool) (s : Stamp)
    → stamps_after (put s p w) k now t
    ≡ (if p k then with_stamp s now (stamps_after w k now t) else stamps_after w k now t)
put_last w k now t p s = grind arith
