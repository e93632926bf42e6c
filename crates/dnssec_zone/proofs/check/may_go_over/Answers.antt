-- Sets are the same if each list's algorithms are among the other's.
use Rattle.std.proofs.Common.{rules, sym, ap, ◌∙◌}
use Rattle.std.specs.Prelude.{◌||◌, ◌&&◌}
use Rattle.dnssec_zone.{specs.Start.algorithms_within, proofs.Starts.same_algorithms}
use Rattle.dnssec_zone.proofs.check.may_go_over.Goals as goal

pub returns-else-column-clause-within : goal.returns-else-column-clause-within
returns-else-column-clause-within c = λ at olds news of_olds of_news.
    let both = algorithms_within at olds news && algorithms_within at news olds in
    c.eq.ensures
    ∙ same_algorithms at olds news c.args.old.now c.args.new.now (search rules)
    (λ i h. search rules) (λ i h. search rules) of_olds of_news
    ∙ ap (λ may. may || both) (sym c.if-column.false)
