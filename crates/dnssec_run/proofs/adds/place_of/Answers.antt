-- The next key has the reference, or not.
use Rattle.std.proofs.Common.{◌≡◌, ◌∙◌, ap, false, rules, string_bytes, sym, true}
use Rattle.std.specs.{Str.bytes_eq}
use Rattle.dnssec_run.specs.declared.lists.Known.{Known}
use Rattle.dnssec_run.proofs.Trees.{at-next, there}
use Rattle.dnssec_run.proofs.adds.place_of.Goals as goal

pub returns-then-eq-clause-some : goal.returns-then-eq-clause-some
returns-then-eq-clause-some c =
    let q = c.args.reference.now in
    let key = c.index-keys-place.result in
    let same : bytes_eq (string_bytes key.reference) q ≡ true = search rules in (
      c.loop-place-test.true,
      λ d. ap (λ (k : Known). bytes_eq (string_bytes k.reference) q)
          (there c.args.keys.now c.loop-place.place d key c.loop-place-test.true
          ∙ sym c.index-keys-place.is) ∙ same,
    )

pub loop-place-preserved : goal.loop-place-preserved
loop-place-preserved c =
    let q = c.args.reference.now in
    let key = c.index-keys-place.result in
    let other : bytes_eq (string_bytes key.reference) q ≡ false = search rules in
    sym (at-next q c.args.keys.now c.loop-place.place key c.loop-place-test.true
    (sym c.index-keys-place.is) false other) ∙ c.loop-place.invariant
