-- What is noted to be on all servers is given by all of them, if the facts are true.
use Rattle.std.proofs.Common.{List, None, arith, ℕ, ◌*◌, ◌+◌, ◌<◌, ◌≡◌, ◌≤◌}
use Rattle.dnssec_run.specs.Safe.{SetKind}
use Rattle.dnssec_network.specs.Facts.{Before, AreTrue, news_of, ttl_before}
use Rattle.dnssec_network.specs.Network.{Network, NeverGoesBack}
use Rattle.dnssec_network.specs.{Reach.AllGive, Reach.reach_of, Spread.known}
use Rattle.dnssec_network.specs.declared.{fact.Fact.Fact, spread.Spread.Spread}
use Rattle.dnssec_network.{specs.declared.spread.Reach.TheVariants.Everywhere, proofs.Noted.noted}

everywhere : (base : ℕ) (s : Spread) (now : ℕ) → reach_of base s now ≡ Everywhere
    → (base ≤ s.position) × (s.older ≡ None) × (s.seen ≤ now)
everywhere base s now e = grind arith

pub all-give : (before : Before) (facts : List Fact) (network : Network) (time : ℕ)
    → AreTrue before facts network time → (kind : SetKind) (base now : ℕ)
    → reach_of base (known base (ttl_before before kind) (news_of kind facts)) now ≡ Everywhere
    → NeverGoesBack network kind base time → AllGive network kind base now time
all-give before facts network time are kind base now e back v t from by given =
    let s : Spread = known base (ttl_before before kind) (news_of kind facts) in
    let is = noted before facts network time are kind base back in
    let says = everywhere base s now e in
    let left : network.position kind v < base
    → (t + network.ttl kind v * 1_000_000_000 + 999_999_999 < s.expired) × (t < s.seen) =
    λ before.
    grind (arith, is.1.older v t, back.versions is.0 v t, says, is.1.position, given, by) in
    grind (arith, left, says.2, from)
