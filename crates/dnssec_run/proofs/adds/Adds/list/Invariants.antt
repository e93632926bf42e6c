-- What is shown so far, and then what the rest will show, is all that the list has.
use Rattle.std.proofs.Common.{◌≡◌, ◌++◌, drop, map}
use Rattle.dnssec_run.specs.Adds.{by_text, ids_of, ids_shown, listed_of}
use Rattle.dnssec_run.specs.Published.{id_of}
use Rattle.dnssec_run.proofs.adds.Adds.list.Given as goal

abbrev pub invariant-loop-key : goal.invariant-loop-key
invariant-loop-key l = map id_of l.keys.items
    ++ ids_of l.fn.list (map listed_of (drop l.key-index l.key-items))
    ≡ ids_shown l.fn.list l.fn.self.kept

abbrev pub invariant-loop-reference : goal.invariant-loop-reference
invariant-loop-reference l = map id_of l.keys.items
    ++ ids_of l.fn.list (by_text l.reference-iterator) ≡ ids_shown l.fn.list l.fn.self.kept
