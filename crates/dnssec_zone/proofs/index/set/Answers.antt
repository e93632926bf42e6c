-- One bit of one word is set or cleared, and no other.
use Rattle.std.{proofs.Common.◌<◌, proofs.Common.◌%◌, proofs.Common.arith, specs.Int.w64}
use Rattle.std.specs.Prelude.{get_or, ◌/◌}
use Rattle.std.proofs.lemmas.Nat.Bits.{bit_at_set_same, bit_at_set_other}
use Rattle.std.proofs.lemmas.Nat.Bits.{bit_at_clear_same, bit_at_clear_other}
use Rattle.std.proofs.lemmas.{Bool.Decides.nat_tests, List.get_or-set_same, List.get_or-set_other}
use Rattle.dnssec_zone.proofs.index.set.Goals as goal

pub returns-clause-put : goal.returns-clause-put
returns-clause-put c = λ n.
    let low : c.args.number % 64 < 64 = omega arith in
    let word = get_or c.args.words.now (c.args.number / 64) 0 in
    let on = bit_at_set_same w64 word _ low in
    let on_others = bit_at_set_other w64 word _ low in
    let off = bit_at_clear_same w64 word _ low in
    let off_others = bit_at_clear_other w64 word _ low in
    grind (arith, nat_tests, on, on_others, off, off_others, get_or-set_same, get_or-set_other)
