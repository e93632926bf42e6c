-- The pieces between line feeds are those that `split` gives.
use Rattle.std.proofs.{Common.rules, Common.tests, Common.◌==◌, Common.◌∙◌}
use Rattle.std.proofs.lemmas.Iterator.{Consumers.map_from_collect}
use Rattle.std.proofs.lemmas.Iterator.Splits.{YieldsList-from_slice_split}
use Rattle.dnssec_script.specs.Script.{without_end}
use Rattle.dnssec_script.proofs.lines.all_lines.Goals as goal

pub returns : goal.returns
returns c =
    map_from_collect _ c.collect.ensures.ran
    (YieldsList-from_slice_split _ (λ b. b == 10) (without_end c.args.text.now)
    (c.split.ensures.rest ∙ c.without_end.ensures) c.split.ensures.done c.split.ensures.closure
    (λ x b q k. search (rules, tests)))
