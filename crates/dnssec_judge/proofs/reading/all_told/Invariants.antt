-- All keys are told if the keys that are left are.
use Rattle.dnssec_judge.proofs.Base.{◌≡◌, drop, id_of, is_told, list_all, map}
use Rattle.dnssec_judge.proofs.reading.all_told.Given as goal

abbrev pub invariant-loop-key : goal.invariant-loop-key
invariant-loop-key l = list_all (is_told l.keys) (map id_of (drop l.key-index l.list))
    ≡ list_all (is_told l.keys) (map id_of l.list)
