-- Lifetimes that are shorter than a roll takes, by the TTLs of notes.
use Rattle.std.specs.Prelude.{ℕ, nat_lt, if◌then◌else◌, Option, None, Some}
use Rattle.std.specs.Option.{option_or}
use Rattle.dnssec_key.specs.declared.roll.RollType.{RollType, TheVariants.CskRoll}
use Rattle.dnssec_run.specs.Safe.{SetKind}
use Rattle.dnssec_policy.specs.declared.policy.{Policy.Policy, Scheme.Scheme}
use Rattle.dnssec_policy.specs.declared.policy.Scheme.TheVariants.{Split, SingleType}
use Rattle.dnssec_policy.specs.Keys.{ksk_roll, renewal_of, role_of, zsk_roll}
pub use Rattle.dnssec_policy.specs.Ttls.{AreHighest, highest_of, roll_takes, ttl_in}
use Rattle.dnssec_policy.specs.declared.text.lint.TooShort.{TooShort}

abbrev pub shorter : RollType → Option ℕ → ℕ → Option TooShort
shorter roll None takes = None
shorter roll (Some lifetime) takes =
    if nat_lt lifetime takes
    then Some (record { roll = roll; lifetime = lifetime; takes = takes }) else None

-- the lifetime of the keys that a roll renews, if it is shorter than the roll takes
abbrev pub too_short_for : Policy → (SetKind → ℕ) → RollType → Option TooShort
too_short_for policy ttl roll =
    shorter roll (renewal_of policy (role_of roll)).lifetime (roll_takes ttl roll)

-- the first such lifetime of a policy
abbrev pub too_short : Policy → Scheme → (SetKind → ℕ) → Option TooShort
too_short policy (Split k z) ttl =
    option_or (too_short_for policy ttl (ksk_roll k)) (too_short_for policy ttl (zsk_roll z))
too_short policy SingleType ttl = too_short_for policy ttl CskRoll
