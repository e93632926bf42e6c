-- A zone that rolls by itself. What carries each clause:
--
-- | Function                     | Lemma                  | File   |
-- |------------------------------|------------------------|--------|
-- | `AutomaticZone::advance`     | `one-said`             | Grown  |
-- | `AutomaticZone::add`         | `one-added`            | Grown  |
-- | `AutomaticZone::note`        | `one-noted`            | Grown  |
-- | `highest_after`, `with_line` | `same-fact`            | Facts  |
-- | `last_line`                  | `last_found`           | Asked  |
pub mod Grown
pub mod Facts
pub mod Asked
