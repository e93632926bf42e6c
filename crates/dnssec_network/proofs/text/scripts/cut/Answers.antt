-- Each byte goes on with a part, or ends it.
use Rattle.std.proofs.{Common.◌∙◌, Common.arith, Common.map, Common.sym, lemmas.List.map-append}
use Rattle.dnssec_network.proofs.Texts.Parting.{part_ends, part_goes_on, part_last}
use denote.Bor.{now}
use Rattle.dnssec_network.proofs.text.scripts.cut.Goals as goal
use Rattle.dnssec_network.proofs.text.scripts.cut.Goals.{then-ends+in_ok-push, else-ends}

pub loop-index-preserved : goal.loop-index-preserved
loop-index-preserved c =
    let l = c.loop-index in
    elim c.if-ends.branch [
      | then-ends+in_ok-push w ↦
          rw (w.begin-is, w.parts-is, w.in_ok-push.ensures.items, map-append) (
            omega arith,
            part_ends c.args.text.now l.begin l.index l.line_begins (map now l.parts.items) _
                l.invariant.1 c.loop-index-test.true
                (sym c.ends_part-ends.ensures ∙ w.if-ends.true),
          )
      | else-ends w ↦
          rw (w.begin-is, w.parts-is) (
            omega (arith, l.invariant.0),
            part_goes_on c.args.text.now l.begin l.index l.line_begins (map now l.parts.items) _
                l.invariant.1 l.invariant.0 c.loop-index-test.true
                (sym c.ends_part-ends.ensures ∙ w.if-ends.false),
          )
    ]

pub returns : goal.returns
returns c =
    let l = c.loop-index in
    rw (c.in_ok-push-2.ensures.items, map-append)
    (sym (part_last c.args.text.now l.begin l.index l.line_begins (map now l.parts.items) _
    l.invariant.1 c.loop-index-test.false))
