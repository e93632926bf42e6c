-- The keys so far, and those that are left, are all that there are.
use Rattle.std.proofs.Common.{◌≡◌, ◌++◌, map}
use Rattle.dnssec_run.specs.Adds.{by_text, listed_of}
use Rattle.dnssec_run.proofs.many.list_of.Given as goal

abbrev pub invariant-loop-reference : goal.invariant-loop-reference
invariant-loop-reference l =
    map listed_of l.keys.items ++ by_text l.reference-iterator ≡ by_text l.tree.entries
