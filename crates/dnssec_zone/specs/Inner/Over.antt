-- The moment from which a wait is over, for one key and for all.
use Rattle.std.specs.Prelude.{ℕ, ◌+◌, ◌*◌, Option, None, Some, if◌then◌else◌, max, nat_eq}
use Rattle.std.specs.Option.{option_map}
use Rattle.dnssec_key.specs.declared.roll.RollType.{RollType}
use Rattle.dnssec_key.specs.Key.{KeyParts}
use Rattle.dnssec_key.specs.declared.roll.Half.{Half}
use Rattle.dnssec_key.specs.RollTable.{half_of}
use Rattle.dnssec_zone.specs.Wait.{stamp_read}

-- the moment from which nothing is left of a wait of ttl seconds since a stamp; if the TTL is 0,
-- the first moment of all, as no cache keeps data then
abbrev pub over_since : ℕ → ℕ → ℕ
over_since ttl stamp = if nat_eq ttl 0 then 0 else stamp + ttl * 1_000_000_000

-- the moment from which nothing is left for a key; the first moment of all for a key that the wait
-- doesn't check, and unknown for one that lacks its stamp
abbrev pub over_at : RollType → Half → ℕ → KeyParts → Option ℕ
over_at roll half ttl k =
    if (half_of roll half).checks k.keytype
    then option_map (over_since ttl) (stamp_read roll half k)
    else Some 0

-- the later of two moments, if both are known
abbrev pub later : Option ℕ → Option ℕ → Option ℕ
later None b = None
later (Some x) None = None
later (Some x) (Some y) = Some (max x y)
