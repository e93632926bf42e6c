-- The move of the roll and the walk over the keys are what an accepted report changes.
use Rattle.std.proofs.Common.{refl, ap, rules}
use Rattle.dnssec_keyset.proofs.{Listing.reported, Allowed.accepted-step, Allowed.cleared}
use Rattle.dnssec_keyset.specs.{Step.Actions, Step.Report, contracts.set.KeySet.the_view}
use Rattle.dnssec_keyset.proofs.set.KeySet.report.Goals as goal

pub invariant_of-self-2 : goal.invariant_of-self-2
invariant_of-self-2 c = rw (c.report.ensures) (reported c.self.invariant _
    c.args.rolltype c.args.half c.args.now.now c.end_phase.ensures).0

pub returns : goal.returns
returns c = rw (← c.self.view_is) (accepted-step (the_view c.self.inside) _
    (Report c.args.rolltype c.args.half c.args.ttl c.args.now.now) _
    (cleared _ _ c.in_ok-take_report.ensures.reply) (ap Actions c.new.ensures.items) (record {
      name = refl;
      rolls = c.in_ok-take_report.ensures.ok;
      lists = rw (c.report.ensures) (reported c.self.invariant _ c.args.rolltype
          c.args.half c.args.now.now c.end_phase.ensures).1;
      keys = c.end_phase.ensures;
    }))

-- the roll refuses for the report's only cause
pub returns-in_err-take_report : goal.returns-in_err-take_report
returns-in_err-take_report c = search rules
