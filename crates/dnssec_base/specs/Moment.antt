-- A moment is the time since the start of 1970, in nanoseconds (RFC 6781, section 4.4: DNSSEC
-- brings absolute time into the DNS).
use Rattle.std.specs.Prelude.{◌≡◌, ℕ, ◌+◌, ◌*◌, ◌/◌, ◌%◌, ◌<◌}
use Rattle.std.proofs.Common.{arith}
use Rattle.dnssec_base.specs.declared.time.UnixTime.TheInside.{Inside}

-- the whole seconds, and the nanoseconds beyond them
abbrev pub moment_of : Inside → ℕ
moment_of t = t.secs * 1_000_000_000 + t.nanos

-- what lies beyond the whole seconds is less than a second
abbrev pub IsMoment : Inside → Type 0
IsMoment t = t.nanos < 1_000_000_000

-- how a moment is kept
abbrev pub inside_of : ℕ → Inside
inside_of n = record { secs = n / 1_000_000_000; nanos = n % 1_000_000_000 }

-- the whole seconds of a moment that is kept in this way
secs_of : (s r : ℕ) → r < 1_000_000_000 → (s * 1_000_000_000 + r) / 1_000_000_000 ≡ s
secs_of s r h = omega arith

-- and the nanoseconds beyond them
nanos_of : (s r : ℕ) → r < 1_000_000_000 → (s * 1_000_000_000 + r) % 1_000_000_000 ≡ r
nanos_of s r h = omega arith

-- a moment is kept in one way
pub inside_of-moment_of : (a : Inside) → IsMoment a → inside_of (moment_of a) ≡ a
inside_of-moment_of a h = λ i. record {
  secs = secs_of a.secs a.nanos h i;
  nanos = nanos_of a.secs a.nanos h i;
}
