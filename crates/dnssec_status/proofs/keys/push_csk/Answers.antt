-- Piece by piece.
use Rattle.std.proofs.Common.{append_assoc}
use Rattle.dnssec_status.specs.Keys.{kind_json}
use Rattle.dnssec_status.proofs.keys.push_csk.Goals as goal

pub returns : goal.returns
unfolding kind_json
returns c =
    rw (c.in_ok-push_bytes-3.ensures, c.in_ok-push_role-2.ensures, c.in_ok-push_bytes-2.ensures)
    (rw (c.in_ok-push_role.ensures, c.in_ok-push_bytes.ensures)
    (rw (c.is_active_ksk.ensures, c.is_active_zsk.ensures) (simp append_assoc)))
