-- What spells a name is ASCII; a text in which a fault stands spells no name.
use Rattle.std.proofs.Common.{subst, rules}
use Rattle.dnssec_base.specs.NameText as names
use Rattle.dnssec_base.proofs.Complete.{spells_unless_fault}
use Rattle.dnssec_script.proofs.Zone.{spelled_utf8, faulty}
use Rattle.dnssec_script.proofs.lines.zone_name.Goals as goal

pub returns-in_default-clause-none : goal.returns-in_default-clause-none
returns-in_default-clause-none c = λ name spelled.
    c.in_default.ensures.cases.0 (spelled_utf8 c.args.text.now name spelled)

pub returns-in-Ok-from_str-clause-found : goal.returns-in-Ok-from_str-clause-found
returns-in-Ok-from_str-clause-found c =
    subst (λ t. names.Spells t c.in-Ok-from_str.name) c.in-Ok.ensures.cases.0
    c.in-Ok-from_str.ensures.name

pub returns-in-Err-OutOfMemory-clause-memory : goal.returns-in-Err-OutOfMemory-clause-memory
returns-in-Err-OutOfMemory-clause-memory c =
    subst (λ t. (name : _) × names.Spells t name) c.in-Ok.ensures.cases.0
    (spells_unless_fault c.in-Ok.text.now (c.in-Err-OutOfMemory.ensures.memory (search rules)))

pub returns-in-Err : goal.returns-in-Err
returns-in-Err c = record {
  found = tt;
  none = subst (λ t. (name : _) → ¬ names.Spells t name) c.in-Ok.ensures.cases.0
      (faulty c.in-Ok.text.now c.in-Err.field-0 (c.in-Err.ensures.fault (search rules)));
  memory = tt;
}
