-- The text is cut at the first such byte, or has none. The lowest lane that equals the byte is the
-- first such byte of a load.
use Rattle.std.proofs.Common.{◌≤◌, ◌+◌, arith, eqb, length, sym, w8}
use Rattle.std.proofs.lemmas.Bool.Decides.{nat_tests}
use Rattle.std.proofs.lemmas.List.{length-take-le, take_rest}
use Rattle.std.proofs.lemmas.Simd.{bitmask_splat, length-chunk}
use lib.Lanes.{chunk}
use Rattle.dnssec_script.proofs.Cuts.{cut_at, cut_where_seen, none_seen, seen_within, uncut}
use Rattle.dnssec_script.proofs.fields.split_once.Goals as goal
use Rattle.dnssec_script.proofs.fields.split_once.Goals.{else-text-end-ge-FEW}
use Rattle.dnssec_script.proofs.fields.split_once.Goals.{then-text-end-ge-FEW+else-hits-ne0-2}

pub slice_bounds-result-count : goal.slice_bounds-result-count
slice_bounds-result-count c =
    let text = c.args.text.now in let end = c.loop-end.end in
    let room : end + 16 ≤ length text = omega (arith, c.loop-end-test.true) in
    omega (
      arith,
      seen_within c.args.byte text end 16 _ room (omega arith)
          (bitmask_splat w8 eqb (chunk end 16 text) 16 c.args.byte (length-chunk end 16 text room)
          (omega arith)) (omega (arith, c.if-hits-ne0.true)),
    )

pub slice_bounds-result-end : goal.slice_bounds-result-end
slice_bounds-result-end c = sym (length-take-le _ c.args.text.now
    (omega (arith, slice_bounds-result-count c)))

pub slice_bounds-result-start : goal.slice_bounds-result-start
slice_bounds-result-start c = omega (arith, slice_bounds-result-count c)

pub slice_bounds-result-count-then-hits-ne0-2 : goal.slice_bounds-result-count-then-hits-ne0-2
slice_bounds-result-count-then-hits-ne0-2 c =
    let text = c.args.text.now in let end = c.loop-end.end in
    let room : end + 8 ≤ length text = omega (arith, c.if-text-end-ge-FEW.true) in
    omega (
      arith,
      seen_within c.args.byte text end 8 _ room (omega arith)
          (bitmask_splat w8 eqb (chunk end 8 text) 8 c.args.byte (length-chunk end 8 text room)
          (omega arith)) (omega (arith, c.if-hits-ne0-2.true)),
    )

pub slice_bounds-result-end-then-hits-ne0-2 : goal.slice_bounds-result-end-then-hits-ne0-2
slice_bounds-result-end-then-hits-ne0-2 c = sym (length-take-le _ c.args.text.now
    (omega (arith, slice_bounds-result-count-then-hits-ne0-2 c)))

pub slice_bounds-result-start-then-hits-ne0-2 : goal.slice_bounds-result-start-then-hits-ne0-2
slice_bounds-result-start-then-hits-ne0-2 c =
    omega (arith, slice_bounds-result-count-then-hits-ne0-2 c)

pub returns-then-hits-ne0 : goal.returns-then-hits-ne0
returns-then-hits-ne0 c =
    let text = c.args.text.now in let end = c.loop-end.end in
    let room : end + 16 ≤ length text = omega (arith, c.loop-end-test.true) in
    rw (take_rest text _) (cut_where_seen c.args.byte text end 16 _ room (omega arith)
    (bitmask_splat w8 eqb (chunk end 16 text) 16 c.args.byte (length-chunk end 16 text room)
    (omega arith)) (omega (arith, c.if-hits-ne0.true)) c.loop-end.invariant.1)

pub loop-end-preserved : goal.loop-end-preserved
loop-end-preserved c =
    let text = c.args.text.now in let end = c.loop-end.end in
    let room : end + 16 ≤ length text = omega (arith, c.loop-end-test.true) in (
      room,
      none_seen c.args.byte text end 16 _ room (omega arith)
          (bitmask_splat w8 eqb (chunk end 16 text) 16 c.args.byte (length-chunk end 16 text room)
          (omega arith)) c.if-hits-ne0.false c.loop-end.invariant.1,
    )

pub returns-then-hits-ne0-2 : goal.returns-then-hits-ne0-2
returns-then-hits-ne0-2 c =
    let text = c.args.text.now in let end = c.loop-end.end in
    let room : end + 8 ≤ length text = omega (arith, c.if-text-end-ge-FEW.true) in
    rw (take_rest text _) (cut_where_seen c.args.byte text end 8 _ room (omega arith)
    (bitmask_splat w8 eqb (chunk end 8 text) 8 c.args.byte (length-chunk end 8 text room)
    (omega arith)) (omega (arith, c.if-hits-ne0-2.true)) c.loop-end.invariant.1)

pub loop-end-2-init : goal.loop-end-2-init
loop-end-2-init c =
    let text = c.args.text.now in let end = c.loop-end.end in
    elim c.if-text-end-ge-FEW.branch [
      | then-text-end-ge-FEW+else-hits-ne0-2 w ↦
          let room : end + 8 ≤ length text = omega (arith, w.if-text-end-ge-FEW) in
          let long = length-chunk end 8 text room in
          rw w.end-is (
            room,
            none_seen c.args.byte text end 8 _ room (omega arith)
                (bitmask_splat w8 eqb (chunk end 8 text) 8 c.args.byte long (omega arith))
                w.if-hits-ne0-2.false c.loop-end.invariant.1,
          )
      | else-text-end-ge-FEW w ↦ rw w.end-is c.loop-end.invariant
    ]

pub returns-then-text-end : goal.returns-then-text-end
returns-then-text-end c =
    let text = c.args.text.now in let at = c.loop-end-2 in
    rw (take_rest text (at.end + 1)) (cut_at c.args.byte text at.end
    (omega (arith, c.loop-end-2-test.true)) at.invariant.1
    (grind (arith, nat_tests, c.if-text-end.true)))

pub returns : goal.returns
returns c =
    let at = c.loop-end-2 in
    uncut c.args.byte c.args.text.now at.end at.invariant.0
    (omega (arith, c.loop-end-2-test.false)) at.invariant.1
