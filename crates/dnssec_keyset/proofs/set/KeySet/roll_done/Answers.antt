-- The end of a roll takes it out, and nothing else.
use Rattle.std.proofs.{Common.refl, Common.ap, Common.sym, lemmas.Iterator.Adapters.option_map_id}
use Rattle.dnssec_keyset.proofs.Allowed.{accepted-step, cleared}
use Rattle.dnssec_keyset.specs.{Step.Actions, Step.RollDone, contracts.set.KeySet.the_view}
use Rattle.dnssec_keyset.proofs.set.KeySet.roll_done.Goals as goal

pub returns : goal.returns
returns c = rw (← c.self.view_is) (accepted-step (the_view c.self.inside) _
    (RollDone c.args.rolltype) _ (cleared _ _ c.in_ok-check_end.ensures)
    (ap Actions c.new.ensures.items) (record {
      name = refl;
      rolls = c.take_out.ensures;
      lists = refl;
      keys = λ q. sym (option_map_id _);
    }))
