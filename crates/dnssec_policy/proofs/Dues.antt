-- What is due of a report is due of each kind.
use Rattle.std.proofs.Common.{◌≡◌, ℕ, Bool, List, Result, Ok, Err, max, refl}
use Rattle.dnssec_key.specs.declared.roll.RollType.{RollType}
use Rattle.dnssec_run.specs.declared.caches.SetKind.{SetKind as Kind}
use Rattle.dnssec_run.specs.declared.caches.SetKind.TheVariants as code
use Rattle.dnssec_run.specs.Safe.{SetKind, Ds, Dnskey, ZoneSigners, retires}
use Rattle.dnssec_network.specs.{declared.fact.Fact.Fact, Facts.Before}
use Rattle.dnssec_network.specs.Reports.{due, due_of, higher}

parts : (a b c : Result ℕ Kind) (n : ℕ) → higher (higher a b) c ≡ Ok n
    → (x : ℕ) × (y : ℕ) × (z : ℕ) × (a ≡ Ok x) × (b ≡ Ok y) × (c ≡ Ok z) × (max (max x y) z ≡ n)
parts (Ok x) (Ok y) (Ok z) n e = (x, y, z, refl, refl, refl, cc)
parts (Ok x) (Ok y) (Err k) n e = absurd (cc)
parts (Ok x) (Err k) c n e = absurd (cc)
parts (Err k) b c n e = absurd (cc)

pub due-parts : (before : Before) (facts : List Fact) (roll : RollType) (second : Bool)
    (from : SetKind → ℕ) (now n : ℕ) → due before facts roll second from now ≡ Ok n
    → (x : ℕ) × (y : ℕ) × (z : ℕ)
    × (due_of before facts code.Ds (retires roll second Ds) (from Ds) now ≡ Ok x)
    × (due_of before facts code.Dnskey (retires roll second Dnskey) (from Dnskey) now ≡ Ok y)
    × (due_of before facts code.ZoneSigners (retires roll second ZoneSigners) (from ZoneSigners) now
    ≡ Ok z) × (max (max x y) z ≡ n)
due-parts before facts roll second from now n is =
    parts (due_of before facts code.Ds (retires roll second Ds) (from Ds) now)
    (due_of before facts code.Dnskey (retires roll second Dnskey) (from Dnskey) now)
    (due_of before facts code.ZoneSigners (retires roll second ZoneSigners) (from ZoneSigners) now)
    n is
