-- The same keys are in the copy.
use Rattle.std.proofs.Common.{◌∙◌, ap, map}
use Rattle.dnssec_run.specs.Adds.{listed_of, listing_of}
use Rattle.dnssec_run.proofs.Trees.{listings-cloned}
use Rattle.dnssec_run.proofs.adds.Adds.try_clone.Goals as goal
use Rattle.dnssec_run.proofs.adds.Adds.try_clone.Goals.{in-Few+in_ok-copy_of-in-Few}
use Rattle.dnssec_run.proofs.adds.Adds.try_clone.Goals.{in-Many+in_ok-list_of-in-Many}
use Rattle.dnssec_run.proofs.adds.Adds.try_clone.Goals.{in-Many-2+in_ok-copy-in-Many-2}

pub returns : goal.returns
returns c q = elim c.match-self.branch [
  | in-Few+in_ok-copy_of-in-Few w ↦ rw (w.kept-is, w.in-Few.is)
      (ap (λ es. listing_of es q) (w.in_ok-copy_of-in-Few.ensures
      ∙ ap (map listed_of) w.deref.ensures.value))
  | in-Many+in_ok-list_of-in-Many w ↦ rw (w.kept-is, w.in-Many.is)
      (w.in_ok-list_of-in-Many.ensures.same q)
  | in-Many-2+in_ok-copy-in-Many-2 w ↦ rw (w.kept-is, w.in-Many-2.is)
      (listings-cloned _ _ w.in_ok-copy-in-Many-2.ensures.cases q)
]
