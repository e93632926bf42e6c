-- A policy as a text, and a call as a line. What carries each clause:
--
-- | Function             | Lemma                  | Files                       |
-- |----------------------|------------------------|-----------------------------|
-- | `read_wishes`        | `one-more`, `faulty`   | Steps                       |
-- | `policy_text`        | `text-back`            | Back, Wishing, Numbers, Cut |
-- | `said_lines_are_read` | `call-back`           | Calls, Numbers, Cut         |
pub mod Steps
pub mod Cut
pub mod Numbers
pub mod Wishing
pub mod Back
pub mod Calls
