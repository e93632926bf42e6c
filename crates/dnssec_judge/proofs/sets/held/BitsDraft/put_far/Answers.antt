-- The bit is written in its word, after words that are filled up with 0.
use Rattle.dnssec_judge.proofs.Base.{ℕ, ◌%◌, ◌++◌, ◌-◌, ◌/◌, ◌<◌, ◌≡◌, ◌≤◌, arith, bit_at, elements}
use Rattle.dnssec_judge.proofs.Base.{get_or, get_or_past, length, List, nat_tests, rules, take}
use Rattle.dnssec_judge.proofs.Words.{bit-cleared, bit-set, word-of}
use Rattle.dnssec_judge.specs.Bits.{rest_in}
use Rattle.std.proofs.{Common.if◌then◌else◌, Common.nat_eq, Common.slice_set, Math.ListN.replicate}
use Rattle.dnssec_judge.proofs.sets.held.BitsDraft.put_far.Goals as goal

filled : (words : List ℕ) (m n i : ℕ) → length words ≤ n
    → get_or (take n words ++ replicate m 0) i 0 ≡ get_or words i 0
filled words m n i le = grind (arith, elements, get_or_past)

pub returns : goal.returns
returns c n =
    let old = rest_in c.args.self.now.rest c.args.base.now in let index = c.args.number / 64 - 1 in
    let word = c.index-old.result.now in let m = c.args.number % 64 in
    let bit : nat_eq (bit_at c.if-is_in.word (n % 64)) 1
    ≡ (if nat_eq m (n % 64) then c.args.is_in else nat_eq (bit_at word (n % 64)) 1) =
    (let lt : m < 64 = omega arith in elim c.if-is_in.branch [
      | goal.then-is_in w ↦ grind (arith, w.word-is, w.if-is_in.true, bit-set word m n lt)
      | goal.else-is_in w ↦ grind (arith, w.word-is, w.if-is_in.false, bit-cleared word m n lt)
    ]) in
    let whole : c.match-take.rest.items ≡ old = elim c.match-take.branch [
      | goal.in-Some w ↦ search rules
      | goal.in-None+in_ok-rest-in-None w ↦ search rules
    ] in
    let resized = c.in_ok-resize.ensures in let len = c.max-len.ensures in
    let same : (i : ℕ) → get_or c.resize.new.self.items i 0 ≡ get_or old i 0 =
    (λ i. grind (arith, filled, whole, resized.items, len, c.len.ensures)) in
    let there : word ≡ get_or old index 0 =
    grind (arith, elements, get_or_past, same, resized.len, len, c.index-old.ensures) in
    let put = slice_set c.resize.new.self.items index c.if-is_in.word in
    let at : (i : ℕ) → get_or put i 0
    ≡ (if nat_eq index i then c.if-is_in.word else get_or old i 0) =
    (λ i. grind (arith, nat_tests, elements, same i, resized.len, len)) in
    grind (arith, nat_tests, word-of, bit, at (n / 64 - 1), there, c.requires)
