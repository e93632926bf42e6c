-- The names of algorithms, as in IANA's registry of DNSSEC algorithms and RFC 8624, section 3.1.
use Rattle.std.specs.Prelude.{ℕ, List, [], ◌∷◌, Option, find, codes}
use Rattle.std.specs.Option.{option_map}
use Rattle.std.specs.Str.{bytes_eq}

-- the names, each with its number
abbrev pub named_algorithms : List (List ℕ × ℕ)
named_algorithms =
    (codes "RSASHA256", 8) ∷ (codes "RSASHA512", 10) ∷ (codes "ECDSAP256SHA256", 13)
    ∷ (codes "ECDSAP384SHA384", 14) ∷ (codes "ED25519", 15) ∷ (codes "ED448", 16) ∷ []

-- the number of the algorithm with this name: `ED25519` has 15, `ed25519` and `15` have none
unfoldable pub algorithm_named : List ℕ → Option ℕ
algorithm_named name =
    option_map (λ entry. entry.1) (find (λ entry. bytes_eq entry.0 name) named_algorithms)
