-- Each turn takes two parts; what is left is a script, or none.
use Rattle.std.proofs.Common.{◌+◌, ◌<◌, arith, length, map, sym, ◌∙◌}
use Rattle.std.proofs.lemmas.List.{length-map, map-append}
use Rattle.dnssec_script.proofs.Texts.{shown_at}
use Rattle.dnssec_network.specs.Text.Scripts.{as_noted}
use Rattle.dnssec_network.proofs.Texts.Parting.{pair_ended, pair_last, pair_more, pair_none}
use denote.Bor.{now}
use Rattle.dnssec_network.proofs.text.scripts.pair.Goals as goal

pub loop-at-preserved : goal.loop-at-preserved
loop-at-preserved c =
    let xs = c.args.parts.now in
    let l = c.loop-at in
    let before = map as_noted l.scripts.items in
    let long = length-map xs now in
    let here : l.at < length xs = omega arith in
    let next : l.at + 1 < length xs = omega arith in (
      omega arith,
      rw (
        c.in_ok-push.ensures.items,
        map-append,
        ← shown_at xs l.at here,
        ← shown_at xs (l.at + 1) next,
      )
          (pair_more (map now xs) l.at before _ l.invariant.1 (omega arith)),
    )

pub returns-then-at-parts : goal.returns-then-at-parts
returns-then-at-parts c =
    let xs = c.args.parts.now in
    let l = c.loop-at in
    let long = length-map xs now in
    pair_none (map now xs) l.at (map as_noted l.scripts.items) _ l.invariant.1 (omega arith)

pub returns-then-not-is_script : goal.returns-then-not-is_script
returns-then-not-is_script c =
    let xs = c.args.parts.now in
    let l = c.loop-at in
    let long = length-map xs now in
    let here : l.at < length xs = omega arith in
    pair_ended (map now xs) l.at (map as_noted l.scripts.items) _ l.invariant.1 (omega arith)
    (omega arith)
    (rw (shown_at xs l.at here) (sym c.is_script.ensures ∙ c.if-not-is_script.true))

pub returns : goal.returns
returns c =
    let xs = c.args.parts.now in
    let l = c.loop-at in
    let long = length-map xs now in
    let here : l.at < length xs = omega arith in
    rw (c.in_ok-push-2.ensures.items, map-append, ← shown_at xs l.at here)
    (pair_last (map now xs) l.at (map as_noted l.scripts.items) _ l.invariant.1 (omega arith)
    (omega arith)
    (rw (shown_at xs l.at here) (sym c.is_script.ensures ∙ c.if-not-is_script.false)))
