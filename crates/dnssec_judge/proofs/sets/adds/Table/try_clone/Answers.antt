-- The same numbers are known.
use Rattle.dnssec_judge.proofs.Adds.{table-from}
use Rattle.std.proofs.Common.{List, ap, get_or, sym, ℕ, ◌∙◌, ◌≡◌}
use Rattle.std.proofs.lemmas.List.Elements.{same_from_all_zip}
use Rattle.std.specs.{BTreeMap.get, BTreeMap.is_at, Map.lookup, Ordering.nat_cmp}
use Rattle.dnssec_judge.proofs.sets.adds.Table.try_clone.Goals as goal

pub returns-clause-table : goal.returns-clause-table
returns-clause-table c =
    let old = c.args.self.now in let clone = c.in_ok-clone-2.field-0 in
    let adds : c.in_ok-clone.field-0.items ≡ old.adds.items =
    same_from_all_zip (λ (p q : ℕ). q ≡ p) old.adds.items c.in_ok-clone.field-0.items
    c.in_ok-clone.ensures.cases.0 (λ x y r. r) in
    let same = λ (n : ℕ). ap (λ (ns : List ℕ). get_or ns n 0) adds in
    let known : (at : ℕ) → get nat_cmp clone at ≡ get nat_cmp old.by_added at =
    (λ at. ap (λ (es : List (ℕ × ℕ)). lookup (is_at (nat_cmp at)) es)
    (same_from_all_zip (λ (p q : ℕ × ℕ). (q.0 ≡ p.0) × (q.1 ≡ p.1)) old.by_added.entries
    clone.entries c.in_ok-clone-2.ensures.cases (λ x y r i. (r.0 i, r.1 i)))) in
    let copy = record (old) { adds = c.in_ok-clone.field-0; by_added = clone } in (
      λ t. table-from old copy same (λ n few counts. known _ ∙ t.known n few counts) t,
      λ t. table-from copy old (λ n. sym (same n))
          (λ n few counts. sym (known _) ∙ t.known n few counts) t,
    )
