-- A walk over the map lends its entries, and sorting them leaves them the same.
use Rattle.std.proofs.Common.{Bor, List, String, map, rules, string_bytes, subst, ℕ}
use Rattle.std.proofs.lemmas.Fn.{always_returns_same}
use Rattle.std.proofs.lemmas.List.Sorted.{IsPermutation-map, IsPermutation-sym, IsPermutation-trans}
use Rattle.std.proofs.lemmas.List.Sorted.{ranks_by}
use Rattle.std.specs.Cmp.Lexicographic.{nat_list_cmp_total, slice_cmp}
use Rattle.std.specs.{FinMap.entries_sorted, Global.Global, Ordering.is_lt, Ordering.nat_cmp}
use Rattle.std.specs.Prelude.{IsPermutation}
use Rattle.dnssec_key.specs.Key.{KeyParts}
use Rattle.dnssec_zone.proofs.Walks.{apart_by_bytes, entries_permute}
use Rattle.dnssec_zone.specs.Keys.{entries_by_bytes, keys_in_map}
use Rattle.dnssec_run.specs.Recorder.{entry_lent}
use Rattle.dnssec_run.{proofs.InOrder.put_in_order, proofs.Lent.all-lent, specs.InOrder.entry_of}
use mathlib.Core.List.{map-map}
use Rattle.std.specs.FinMap as fin
use Rattle.dnssec_run.proofs.in_order.keys_in_order.Goals as goal

-- an entry as it is lent
abbrev Lent : Type 0
Lent = Bor (String Global) × Bor KeyParts

abbrev reference : Lent → List ℕ
reference e = string_bytes e.0.now

-- the entries of a map, with the bytes of their references
abbrev by_bytes : String Global × KeyParts → List ℕ × KeyParts
by_bytes e = (string_bytes e.0, e.1)

pub returns : goal.returns
returns c =
    let m = c.args.keys.now in
    let sorted : List Lent = c.sort_unstable_by.new.self.items in
    let ran = c.in_ok-entries.ensures.ran in
    let lent : List Lent → List (String Global × KeyParts) = map entry_lent in
    let walked = all-lent entry_lent c.iter.ensures.rest ran.1.1 (ran.1.2 tt).1.0 ran.2.0 in
    let all : IsPermutation m.entries (lent sorted) =
    rw walked (IsPermutation-map entry_lent _ _ c.sort_unstable_by.ensures.permutation) in
    let moved : IsPermutation (entries_by_bytes m) (map entry_of sorted) =
    subst (IsPermutation (entries_by_bytes m)) (map-map by_bytes entry_lent sorted)
    (IsPermutation-map by_bytes m.entries (lent sorted) all) in
    let shown : IsPermutation (entries_by_bytes m) (fin.entries (keys_in_map m)) =
    entries_permute (entries_by_bytes m) (apart_by_bytes m.entries c.iter.ensures.unique) in
    put_in_order entry_of (fin.entries (keys_in_map m)) sorted (entries_sorted (keys_in_map m))
    (IsPermutation-trans _ _ _ (IsPermutation-sym _ _ shown) moved)
    (c.sort_unstable_by.ensures.sorted
    (λ (x y : Lent). is_lt (slice_cmp nat_cmp (reference x) (reference y)))
    (ranks_by nat_list_cmp_total reference)
    (always_returns_same _ _ _ (λ a r f k. (search rules, search rules))))
