-- Piece by piece.
use Rattle.std.proofs.Common.{append_assoc, arith}
use Rattle.dnssec_status.specs.Keys.{role_json}
use Rattle.dnssec_status.proofs.keys.push_role.Goals as goal

pub returns : goal.returns
unfolding role_json
returns c = grind (arith, append_assoc)
