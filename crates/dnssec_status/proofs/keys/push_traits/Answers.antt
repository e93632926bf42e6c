-- Piece by piece.
use Rattle.std.proofs.Common.{append_assoc}
use Rattle.dnssec_status.specs.Keys.{traits_json}
use Rattle.dnssec_status.proofs.keys.push_traits.Goals as goal

pub returns : goal.returns
unfolding traits_json
returns c =
    rw (c.in_ok-push_flag.ensures, c.in_ok-push_private.ensures, c.in_ok-push_number-2.ensures)
    (rw (c.in_ok-push_number.ensures, c.from-algorithm.ensures, c.to_int.ensures)
    (rw (c.algorithm.ensures, c.from.ensures, c.key_tag.ensures, c.privref.ensures)
    (rw (c.decoupled.ensures) (simp append_assoc))))
