-- No cache holds a set whose signatures are over, if servers renew them in time.
use Rattle.std.proofs.Common.{arith, refl, ℕ, ◌+◌, ◌*◌, ◌≤◌}
use Rattle.std.specs.Prelude.{◌-◌}
use Rattle.dnssec_network.proofs.Held.{resolvers_find_chain}
use Rattle.dnssec_network.specs.Network.{IsGiven, Network}
use Rattle.dnssec_network.specs.Validity.{HeldAreValid, IsRenewed, RefreshSuffices}
use Rattle.dnssec_network.specs.Validity.{RenewalIsNeeded, ResolversFindValidChain, WatchSuffices}

held-valid : (network : Network) (time : ℕ) → network.start ≤ time → IsRenewed network time
    → HeldAreValid network time
held-valid network time started renewed kind v held =
    let given : IsGiven network kind v held.since = held.given in
    let good = rw given.2 at (renewed kind given.0 held.since given.1 held.got) in
    let lasts = held.lasts in
    let valid = good (omega (arith, lasts, started)) in
    (omega (arith, valid.0, held.got), omega (arith, valid.1, lasts))

pub resolvers_find_valid_chain : ResolversFindValidChain
resolvers_find_valid_chain name calls entries network time run plain is reports ahead renewed = (
  resolvers_find_chain name calls entries network time run plain is reports ahead,
  held-valid network time is.started renewed,
)

-- the last time at which a cache may hold it
pub renewal_is_needed : RenewalIsNeeded
renewal_is_needed network kind server t serves over =
    let v : ℕ = network.version kind server t in
    let last : ℕ = t + (network.ttl kind v + 1) * 1_000_000_000 - 1 in (
      last,
      record {
        since = t;
        given = (server, serves, refl);
        got = omega arith;
        lasts = omega arith;
      },
      λ valid. omega (arith, valid.1, over),
    )

pub refresh_suffices : RefreshSuffices
refresh_suffices network time is kind server t serves by counts = (
  is.begins kind server t serves by,
  omega (
    arith,
    is.lasts kind (network.version kind server t),
    is.fresh kind server t serves by,
    is.enough kind server t serves by,
  ),
)

pub watch_suffices : WatchSuffices
watch_suffices network time is kind server t serves by counts =
    let seen = is.seen kind server t serves by in
    let v : ℕ = network.version kind server t in
    let older : ℕ = network.version kind server seen.0 in (
      is.begins kind server t serves by,
      omega (
        arith,
        seen.2,
        seen.3,
        is.within kind v,
        is.grows kind older v (is.servers kind server seen.0 t serves seen.1 by),
      ),
    )

pub ruleset renewals = (refresh_suffices, watch_suffices)
