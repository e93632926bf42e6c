-- Piece by piece.
use Rattle.std.proofs.Common.{append_assoc}
use Rattle.dnssec_status.specs.Sets.{chain_json}
use Rattle.dnssec_status.proofs.sets.push_broken.Goals as goal

pub returns : goal.returns
unfolding chain_json
returns c =
    rw (c.in_ok-push_bytes.ensures, c.in_ok-push_number-4.ensures, c.in_ok-push_number-3.ensures)
    (rw (c.in_ok-push_number-2.ensures, c.in_ok-push_number.ensures) (simp append_assoc))
