-- Piece by piece.
use Rattle.std.proofs.Common.{append_assoc}
use Rattle.dnssec_status.specs.Keys.{stamps_json}
use Rattle.dnssec_status.proofs.keys.push_stamps.Goals as goal

pub returns : goal.returns
unfolding stamps_json
returns c =
    rw (c.in_ok-push_stamp-6.ensures, c.in_ok-push_stamp-5.ensures, c.in_ok-push_stamp-4.ensures)
    (rw (c.in_ok-push_stamp-3.ensures, c.in_ok-push_stamp-2.ensures, c.in_ok-push_stamp.ensures)
    (rw (c.creation.ensures, c.published.ensures, c.visible.ensures, c.ds_visible.ensures)
    (rw (c.rrsig_visible.ensures, c.withdrawn.ensures) (simp append_assoc))))
