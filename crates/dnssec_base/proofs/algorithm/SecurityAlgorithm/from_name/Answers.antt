-- A text that is none of the names, and two that are.
use Rattle.std.proofs.Common.{refl}
use Rattle.dnssec_base.{specs.AlgorithmNames.algorithm_named, proofs.AlgorithmNames.no_name}
use Rattle.dnssec_base.proofs.algorithm.SecurityAlgorithm.from_name.Goals as goal

pub returns-in_default : goal.returns-in_default
returns-in_default c =
    let other = c.in_default in
    no_name c.args.name.now other.not-RSASHA256 other.not-RSASHA512 other.not-ECDSAP256SHA256
    other.not-ECDSAP384SHA384 other.not-ED25519 other.not-ED448

pub returns-in-ED25519 : goal.returns-in-ED25519
unfolding algorithm_named
returns-in-ED25519 c = rw c.in-ED25519.is refl

pub returns-in-ED448 : goal.returns-in-ED448
unfolding algorithm_named
returns-in-ED448 c = rw c.in-ED448.is refl
