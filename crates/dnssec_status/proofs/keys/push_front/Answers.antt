-- Piece by piece.
use Rattle.std.proofs.Common.{append_assoc}
use Rattle.dnssec_status.specs.Keys.{front_json}
use Rattle.dnssec_status.proofs.keys.push_front.Goals as goal

pub returns : goal.returns
unfolding front_json
returns c =
    rw (c.in_ok-push_stamps.ensures, c.in_ok-push_traits.ensures, c.in_ok-push_kind.ensures)
    (rw (c.in_ok-push_bytes.ensures, c.in_ok-push_text.ensures, c.as_bytes.ensures.value)
    (rw (c.keytype.ensures, c.timestamps.ensures) (simp append_assoc)))
