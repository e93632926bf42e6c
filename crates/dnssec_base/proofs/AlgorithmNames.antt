-- A text that is none of the names has no number: for `from_name`.
use Rattle.std.proofs.Common.{◌≡◌, ◌≢◌, ℕ, List, false, sym, codes}
use Rattle.std.proofs.lemmas.Bool.{false_from_ne_true}
use Rattle.std.specs.{Prelude.None, Str.bytes_eq, Cmp.Lexicographic.bytes_decides}
use Rattle.dnssec_base.specs.AlgorithmNames.{algorithm_named}

passed : (name text : List ℕ) → text ≢ name → bytes_eq name text ≡ false
passed name text other =
    false_from_ne_true _ (λ e. other (sym ((bytes_decides name text).0 e)))

pub no_name : (text : List ℕ) → text ≢ codes "RSASHA256" → text ≢ codes "RSASHA512"
    → text ≢ codes "ECDSAP256SHA256" → text ≢ codes "ECDSAP384SHA384"
    → text ≢ codes "ED25519" → text ≢ codes "ED448" → None ≡ algorithm_named text
unfolding algorithm_named
no_name text a b c d e f = simp passed
