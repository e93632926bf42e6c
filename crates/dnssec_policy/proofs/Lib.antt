-- What carries each law:
--
-- | Law                              | Lemma                                 | File       |
-- |----------------------------------|---------------------------------------|------------|
-- | all of them                      | `may`                                 | Said       |
-- | `automatic_runs_are_plain`       | `automatic-plain`                     | PlainCalls |
-- | the same, clause `whole`         | `automatic-whole`                     | Whole      |
-- | `automatic_runs_are_untouched`   | `untouched`                           | ByHand     |
-- | `automatic_reports_are_by_notes` | `by-notes`, `none-ahead`              | Notes      |
-- | `automatic_runs_reach_resolvers` | those, and the network's              | Notes      |
-- | `automatic_runs_serve_keepers`   | `serves-keepers`, `kept-sign`         | Keepers    |
-- | `next_is_accepted`               | `accepted`                            | Clear      |
-- | `automatic_ends_follow`          | `follows`                             | Ends       |
-- | `automatic_deletions_follow`     | `leaves`                              | Ends       |
-- | `next_goes_on`                   | `prompt`                              | Prompt     |
-- | the same                         | `ahead`                               | Ahead      |
-- | `rolls_are_in_time`              | `no-longer`, `in-time`                | Bound      |
-- | `rolls_end`                      | `rolls-end`                           | RollsEnd   |
-- | `starts_are_in_time`             | `renewals-in-time`, `changes-in-time` | InTime     |
-- | `keys_leave`                     | `keys-leave`                          | KeysLeave  |
-- | `nothing_is_silent`              | `outspoken`                           | Silence    |
-- | `rest_is_as_wanted`              | `as_wanted`                           | Rests      |
-- | `automatic_runs_grow`            | `grows`                               | Growing    |
-- | `said_lines_are_read`            | `are-read`, `names`, `goes-on`        | Lines      |
pub mod May
pub mod Said
pub mod Accepted
pub mod Clear
pub mod PlainCalls
pub mod ByHand
pub mod Whole
pub mod Notes
pub mod Ends
pub mod Order
pub mod Steps
pub mod Prompt
pub mod Ahead
pub mod InTime
pub mod Rests
pub mod Growing
pub mod Highest
pub mod Silence
pub mod Spreads
pub mod Dues
pub mod Kept
pub mod Keepers
pub mod Bound
pub mod Lags
pub mod Delays
pub mod RollsEnd
pub mod KeysLeave
pub mod Loops
pub mod Texts
pub mod Lines
pub mod Zone
