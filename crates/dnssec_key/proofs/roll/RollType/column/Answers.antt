-- Each roll is its column: both sides compute to one record.
use Rattle.dnssec_key.specs.RollTable.{column}
use Rattle.dnssec_key.proofs.roll.RollType.column.Goals as goal

pub returns-in-KskDoubleDsRoll-clause-wants : goal.returns-in-KskDoubleDsRoll-clause-wants
returns-in-KskDoubleDsRoll-clause-wants c = rw c.in-KskDoubleDsRoll.is

pub returns-in-ZskRoll-clause-means : goal.returns-in-ZskRoll-clause-means
unfolding column
returns-in-ZskRoll-clause-means c = rw c.in-ZskRoll.is

pub returns-in-ZskDoubleSignatureRoll-clause-means
    : goal.returns-in-ZskDoubleSignatureRoll-clause-means
unfolding column
returns-in-ZskDoubleSignatureRoll-clause-means c = rw c.in-ZskDoubleSignatureRoll.is

pub returns-in-CskRoll-clause-means : goal.returns-in-CskRoll-clause-means
unfolding column
returns-in-CskRoll-clause-means c = rw c.in-CskRoll.is

pub returns-in-AlgorithmRoll-clause-means : goal.returns-in-AlgorithmRoll-clause-means
unfolding column
returns-in-AlgorithmRoll-clause-means c = rw c.in-AlgorithmRoll.is
