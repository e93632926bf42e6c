-- Piece by piece.
use Rattle.std.proofs.Common.{append_assoc}
use Rattle.dnssec_status.specs.Keys.{end_json}
use Rattle.dnssec_status.proofs.keys.push_end.Goals as goal

pub returns : goal.returns
unfolding end_json
returns c =
    rw (c.in_ok-push_bytes-3.ensures, c.in_ok-push_rolls_of-2.ensures)
    (rw (c.in_ok-push_bytes-2.ensures, c.in_ok-push_rolls_of.ensures, c.in_ok-push_bytes.ensures)
    (rw (c.in_ok-push_flag-2.ensures, c.in_ok-push_flag.ensures, c.is_stale.ensures)
    (rw (c.may_come_in.ensures) (simp append_assoc))))
