-- A walk over a map lends its entries.
use Rattle.std.proofs.Common.{◌≡◌, ◌++◌, ◌∙◌, List, [], map, sym, ap}
use Rattle.std.proofs.lemmas.{List.append-nil, Map.Iter.rest_so_far}
use Rattle.std.specs.Iterator.{Yields}
use Rattle.std.specs.Map.Iter.{TakesFirst}

module _ {A X : Type 0} {all start rest : List X} {xs items : List A} where
  -- the items of a walk that went to its end show all that it began with
  pub all-lent : (shows : A → X) → start ≡ all → Yields (TakesFirst shows) start xs rest
      → rest ≡ [] → items ≡ xs → all ≡ map shows items
  all-lent shows begins yields ends same = sym begins ∙ rest_so_far shows xs start rest yields
      ∙ ap (λ rest. map shows xs ++ rest) ends ∙ append-nil (map shows xs)
      ∙ ap (map shows) (sym same)
