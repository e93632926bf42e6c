-- The reader of scripts. What carries each clause:
--
-- | Function                | Lemma                          | Files             |
-- |-------------------------|--------------------------------|-------------------|
-- | `split_once`            | `cut_where_seen`, `cut_at`     | Cuts              |
-- | `number`                | `too_great`                    | Digits            |
-- | `Fields::last_time`     | `only_time`                    | Digits            |
-- | `Fields::roll`          | `no_roll`, `roll_read`         | Rolls, Ascii      |
-- | `Fields::after_word`    | `no_word`                      | Ascii             |
-- | `algorithm`             | `no_algorithm`                 | Ascii             |
-- | `reference`             | `reference_utf8`               | Ascii             |
-- | `read_zone`             | `zone_none`, `spelled_utf8`    | Zone              |
-- | `Lines::next`           | `read_on`, `read_fault`        | Judging           |
--
-- `Texts` and `Added` are for the crates above.
pub mod Ascii
pub mod Digits
pub mod Cuts
pub mod Zone
pub mod Rolls
pub mod Texts
pub mod Judging
pub mod Added
