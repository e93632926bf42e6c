-- Each byte may stand in a reference.
use Rattle.std.proofs.Common.{◌≡◌, rules, tests}
use Rattle.std.proofs.lemmas.{Iterator.YieldsList-from_slice, Iterator.Search.all_from_yields_List}
use Rattle.std.specs.List.{list_all}
use Rattle.dnssec_script.specs.Script.{is_reference, is_reference_byte}
use Rattle.dnssec_script.proofs.fields.is_reference.Goals as goal

pub returns-then-ne : goal.returns-then-ne
unfolding is_reference
returns-then-ne c =
    let each : c.all.result ≡ list_all is_reference_byte c.args.text.now =
    all_from_yields_List is_reference_byte _ _ c.all.result c.all.ensures.ran
    (YieldsList-from_slice c.args.text.now c.iter.ensures.rest)
    (λ x b q k. search (rules, tests)) in
    search (rules, each)
