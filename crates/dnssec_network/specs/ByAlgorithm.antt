-- What resolvers find that ask for a chain by each algorithm of the DS set.
use Rattle.std.specs.Prelude.{ℕ, List}
use Rattle.dnssec_run.specs.declared.{call.Call.Call, record.Entry.Entry}
use Rattle.dnssec_run.specs.ByAlgorithm.{HasChainByEach, KeepsWhole, algorithm_of}
use Rattle.dnssec_network.specs.Network.{Network, NoneLiesAhead, OfAllHeld, OfPlainLists}
use Rattle.dnssec_network.specs.Network.{ReportsAreTrue}

-- Whatever sets caches hold at this time, they have a chain by each algorithm of the DS set. A
-- resolver that keeps the algorithms of a DS set with the DNSKEY set that it checked holds the DS
-- set as long: that counts in the TTL of DS sets.
abbrev pub FindChainByEach : List Call → List Entry → Network → ℕ → Type 0
FindChainByEach calls entries network time =
    OfAllHeld entries network time (HasChainByEach (algorithm_of calls))

-- so they find at every time, if the list also keeps the sets whole
abbrev pub ResolversFindEachChain : Type 0
ResolversFindEachChain = OfPlainLists (λ name calls entries network time.
    KeepsWhole name calls entries →
    ReportsAreTrue entries network time →
    NoneLiesAhead entries network time →
    FindChainByEach calls entries network time)
