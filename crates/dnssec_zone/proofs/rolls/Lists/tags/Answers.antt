-- No tag is in the set at first.
use Rattle.std.proofs.Common.{refl}
use Rattle.dnssec_zone.proofs.BitWords.{zeros}
use Rattle.dnssec_zone.proofs.rolls.Lists.tags.Goals as goal

pub loop-entry-init : goal.loop-entry-init
loop-entry-init c = (refl, zeros 1024)
