-- Each turn of the loop looks at one more reference.
use Rattle.std.proofs.Common.{◌≡◌, ◌++◌, ◌∙◌, ap, sym, refl, rules, arith, ℕ, List, [], Bor}
use Rattle.std.proofs.Common.{get_or}
use Rattle.std.specs.FinMap.{get}
use Rattle.std.proofs.lemmas.Map.Text.{text_keys}
use Rattle.std.proofs.lemmas.List.{append-nil, append_assoc, take_all}
use Rattle.std.specs.Option.{option_map}
use Rattle.dnssec_zone.specs.{Start.texts, Inner.Entries.entries_of, Inner.Entries.entry_of}
use Rattle.dnssec_zone.proofs.Listing.References.{entries_of-at}
use Rattle.dnssec_zone.proofs.rolls.Lists.list.Goals as goal

pub loop-reference-init : goal.loop-reference-init
loop-reference-init c = (
  sym (append-nil c.args.self.now.entries.items),
  omega arith,
  refl,
)

-- what a list has past its end
abbrev past : Bor (List ℕ)
past = record { ref_ptr = (0, 0); now = [] }

pub loop-reference-preserved : goal.loop-reference-preserved
loop-reference-preserved c =
    let l = c.loop-reference in
    let listed : c.match-get.self.entries.items ≡ l.self.entries.items
    ++ entry_of c.args.roll c.args.part (option_map (λ k. k.now) c.get.result) =
    search (rules, append-nil) in
    let found : option_map (λ k. k.now) c.get.result ≡ get c.args.keys.now (get_or
    c.args.references.now l.reference-index past).now = search (rules, text_keys) in (
      listed
          ∙ (λ j. l.invariant.0 j ++ entry_of c.args.roll c.args.part (found j))
          ∙ append_assoc c.args.self.now.entries.items _ _
          ∙ ap (λ es. c.args.self.now.entries.items ++ es)
          (sym (entries_of-at c.args.keys.now c.args.roll c.args.part c.args.references.now
          l.reference-index _ c.loop-reference-test.true)),
      search rules,
      search rules,
    )

pub returns-clause-items : goal.returns-clause-items
returns-clause-items c = c.loop-reference.invariant.0
    ∙ ap (λ rs. c.args.self.now.entries.items
    ++ entries_of c.args.keys.now c.args.roll c.args.part (texts rs))
    (take_all c.loop-reference.reference-index c.args.references.now c.loop-reference-test.false)
