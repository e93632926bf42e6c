-- The last check is of the new keys that the list names, by what the column wants.
use Rattle.std.proofs.Common.{rules, None, Some, subst}
use Rattle.std.specs.{Prelude.if◌then◌else◌, List.list_all}
use Rattle.dnssec_base.specs.declared.error.Error.TheVariants.{NoSuitableKeyPresent}
use Rattle.dnssec_zone.specs.{Start.texts, Start.is_met, Refusals.AnswersExactly}
use Rattle.dnssec_keyset.proofs.set.KeySet.check_start.Goals as goal

pub returns : goal.returns
returns c =
    let olds = texts c.args.old.now in
    let news = texts c.args.new.now in
    let kept = subst (λ ws. AnswersExactly (if list_all (is_met c.self.inside.keys olds news) ws
    then None else Some NoSuitableKeyPresent) c.check_suitability.result)
    c.column-column.ensures.wants
    (c.check_suitability.ensures news c.in_ok-of_new.ensures.kinds) in
    search rules
