-- How far a kind has spread by the notes: a type of `dnssec_network` that only its own code names.
use Rattle.dnssec_network.specs.Spread.{due_for}

abbrev domain : (A B : Type 0) → (A → B) → Type 0
domain A B f = A

abbrev pub Spread : Type 0
Spread = domain _ _ (due_for 0)
