-- With what is left to find, the new keys so far are all that there are to be.
use Rattle.std.proofs.Common.{◌≡◌, map, drop}
use Rattle.std.specs.FinMap as fin
use Rattle.dnssec_zone.specs.{Keys.Keys, Start.texts}
use Rattle.dnssec_run.specs.InOrder.{entry_of}
use Rattle.dnssec_policy.{specs.Keys.new_keys, proofs.Loops.Lent, proofs.Loops.onto}
use Rattle.dnssec_policy.proofs.starts.new_keys.Given as goal

abbrev pub invariant-loop-role : goal.invariant-loop-role
invariant-loop-role l = (all : Keys) → fin.entries all ≡ map {A = Lent} entry_of l.keys
    → onto (texts l.new.items) (new_keys l.policy all (drop l.role-index l.roles))
    ≡ new_keys l.policy all l.roles
