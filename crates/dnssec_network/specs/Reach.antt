-- How far the sets of a position have come, by what is noted of their kind.
use Rattle.std.specs.Prelude.{ℕ, ◌≤◌, ◌&&◌, nat_le, nat_lt, if◌then◌else◌, is_none}
use Rattle.dnssec_run.specs.Safe.{SetKind}
use Rattle.dnssec_network.specs.declared.spread.Reach.{Reach}
use Rattle.dnssec_network.specs.declared.spread.Reach.TheVariants.{Unpublished, Spreading}
use Rattle.dnssec_network.specs.declared.spread.{Reach.TheVariants.Everywhere, Spread.Spread}
use Rattle.dnssec_network.specs.Network.{IsGiven, Network}

-- at this moment no version has them or later ones yet; or servers may still give older ones; or
-- all servers give them, or later ones
abbrev pub reach_of : ℕ → Spread → ℕ → Reach
reach_of base s now =
    if nat_lt s.position base then Unpublished
    else (if is_none s.older && nat_le s.seen now then Everywhere else Spreading)

-- from this moment on, up to a time, all servers give the sets of a position, or later ones
abbrev pub AllGive : Network → SetKind → ℕ → ℕ → ℕ → Type 0
AllGive network kind base now time = (v t : ℕ) → now ≤ t → t ≤ time → IsGiven network kind v t →
    base ≤ network.position kind v
