-- The mark of one key, for the inside of the crate.
use Rattle.dnssec_key.specs.Key.{KeyParts}
use Rattle.dnssec_key.specs.RollTable.{old_at_start, new_at_start}
use Rattle.dnssec_zone.specs.declared.mark.KeyMark.{KeyMark}
use Rattle.dnssec_zone.specs.declared.mark.KeyMark.TheVariants.{AsOld, AsNew}

-- the key with the mark
abbrev pub marked : KeyMark → KeyParts → KeyParts
marked AsOld = old_at_start
marked (AsNew roll now) = new_at_start roll now
