-- What a server gives at the moment of a true sight was published by then, and so was the call.
use Rattle.std.proofs.Common.{List, arith, refl, subst, suc, ℕ, ◌<◌, ◌∷◌, ◌≡◌, ◌≤◌}
use Rattle.dnssec_run.specs.{Safe.SetKind, Safe.time_at, declared.record.Entry.Entry}
use Rattle.dnssec_network.proofs.{Held.time_before, Noted.true-parts}
use Rattle.dnssec_network.specs.Facts.{AreTrueFrom}
use Rattle.dnssec_network.specs.Network.{IsNetworkOf, Network, NeverGoesBack, NoneLiesAhead}
use Rattle.dnssec_network.specs.declared.fact.News.TheVariants.{Everywhere, Published}
use Rattle.dnssec_network.proofs.chain.true_sights_follow_calls.Goals as goal

follows : (entries : List Entry) (network : Network) (kind : SetKind) (n position seen : ℕ)
    → network.position kind n ≡ position
    → ((server : ℕ) → server < network.servers kind → seen ≤ seen →
    n ≤ network.version kind server seen)
    → IsNetworkOf entries network seen → NoneLiesAhead entries network seen
    → NeverGoesBack network kind position seen → 0 < network.servers kind
    → time_at entries position ≤ seen
follows entries network kind n position seen at gives is ahead back serves =
    let v : ℕ = network.version kind 0 seen in
    let newer = back.versions n v seen (gives 0 serves (omega arith)) (omega arith)
    (0, serves, refl) (omega (arith, at)) in
    let published = is.since kind 0 seen serves is.started (omega arith) in
    let flows = is.in_order position (network.position kind v) newer published.recorded
    published.made in
    let before = time_before entries network seen is ahead position
    (omega (arith, newer, published.recorded)) (omega (arith, flows, published.made)) in
    omega (arith, published.made, flows, before)

pub returns : goal.returns
returns c entries before facts kind earlier later position ttl moment seen network news are is ahead
    back serves =
    let from = (true-parts network kind seen 0 earlier
    (Published position ttl moment ∷ Everywhere seen ∷ later)
    (subst (λ news. AreTrueFrom network kind seen 0 news) news (are kind).1)).1 in
    follows entries network kind (suc from.0) position seen from.1.0 from.1.3.0 is ahead back serves
