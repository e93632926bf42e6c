-- The bytes are labels if and only if those after the labels so far are: for `from_octets`.
use Rattle.std.proofs.Common.{◌↔◌, length}
use Rattle.dnssec_base.specs.WireName.{AreLabels}
use Rattle.dnssec_base.proofs.name.wire.are_labels.Given as goal

abbrev pub invariant-labels : goal.invariant-labels
invariant-labels l = AreLabels 0 l.fn.octets ↔ AreLabels 0 l.rest

abbrev pub decreases-labels : goal.decreases-labels
decreases-labels l = length l.rest
