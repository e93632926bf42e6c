use Rattle.std.proofs.{Common.arith, lemmas.Grind.elements}
use Rattle.dnssec_base.proofs.name.wire.is_wire_name.Goals as goal

pub returns-then-octets-le-MAX_NAME : goal.returns-then-octets-le-MAX_NAME
returns-then-octets-le-MAX_NAME c = grind (arith, elements)
