-- Piece by piece.
use Rattle.std.proofs.Common.{append_assoc}
use Rattle.dnssec_status.proofs.push_zone.Goals as goal

pub returns : goal.returns
returns c =
    rw (c.in_ok-push_sets.ensures, c.in_ok-push_bytes-2.ensures, c.in_ok-push_chain.ensures)
    (rw (c.in_ok-push_bytes.ensures, c.in_ok-push_text.ensures, c.as_bytes.ensures.value)
    (simp append_assoc))
