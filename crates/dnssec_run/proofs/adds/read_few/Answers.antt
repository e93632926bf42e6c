-- The key whose listing changes has the same place.
use Rattle.std.proofs.Common.{◌≡◌, ◌++◌, List, arith, drop, get_or, length, map, slice_set, subst}
use Rattle.std.proofs.Common.{sym, take}
use Rattle.std.proofs.lemmas.Grind.{common_steps}
use Rattle.dnssec_run.specs.Adds.{IsAscending, listed_of}
use Rattle.dnssec_run.specs.declared.lists.Known.{Known}
use Rattle.dnssec_run.proofs.Moves.{ascending-again}
use Rattle.dnssec_run.proofs.adds.read_few.Goals as goal

pub returns-in_err-note_change-clause-ascending : goal.returns-in_err-note_change-clause-ascending
returns-in_err-note_change-clause-ascending c =
    let now : List Known = slice_set c.loop-known.known-items c.loop-known.known-index record {
      listing = c.show-change.new.self;
      reference = (get_or c.loop-known.known-items c.loop-known.known-index
          c.known-item.result).reference;
    } in
    let whole : take c.args.list.now.len (now ++ drop (length now) c.args.list.now.items) ≡ now =
    grind (arith, common_steps) in
    subst (λ keys. IsAscending (map listed_of keys)) (sym whole)
    (ascending-again c.show-change.new.self c.loop-known.known-items c.loop-known.known-index
    c.known-item.result c.loop-known.invariant.ascending)

pub loop-known-preserved : goal.loop-known-preserved
loop-known-preserved c = record {
  ascending = ascending-again c.show-change.new.self c.loop-known.known-items
      c.loop-known.known-index c.known-item.result c.loop-known.invariant.ascending;
  read = grind (arith, common_steps);
  changes = grind (arith, common_steps);
}
