-- The key set. What carries each clause, and what `dnssec_run` takes for the laws of runs:
--
-- | Function or law                | Lemma                          | Files                |
-- |--------------------------------|--------------------------------|----------------------|
-- | `check_wait`, `over_in_phase`  | `ttl-shown`, `no-wait`         | Replies              |
-- | `StaysSound`                   | `apart-step`, `together-step`  | Laws                 |
-- | `KeepsSidesApart`              | `leaves-others`                | Sides, Moves         |
-- | `NeighboursMayBeExchanged`     | `Law.exchange`                 | Exchange             |
-- | the set after an accepted call | `step-after`                   | After                |
-- | the calls' one clause          | `accepted-step`                | Allowed, Changes     |
--
-- `Accepted` says what an accepted call found: for the laws of runs.
pub mod Listing
pub mod Replies
pub mod Changes
pub mod After
pub mod Allowed
pub mod ByClearance
pub mod Moves
pub mod Laws
pub mod Sides
pub mod Exchange
pub mod Accepted
