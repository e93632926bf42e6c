-- The keys that a session lists, as the code keeps them and as a definition has them.
use Rattle.std.proofs.Common.{◌≡◌, ◌∙◌, Bool, List, [], ◌∷◌, map, refl, ap, arith}
use Rattle.std.specs.List.{filter}
use Rattle.dnssec_record.specs.Courses.{Listing, as_listed}
use Rattle.dnssec_record.specs.declared.courses.Listing as code

-- to keep some of them is to keep those of the definition
pub kept_listed : (passes : Listing → Bool) (kept ls : List code.Listing)
    → kept ≡ filter (λ (l : code.Listing). passes (as_listed l)) ls
    → map as_listed kept ≡ filter passes (map as_listed ls)
kept_listed passes kept ls is = ap (map as_listed) is ∙ by ls
  where
    by : (ls : List code.Listing)
        → map as_listed (filter (λ (l : code.Listing). passes (as_listed l)) ls)
        ≡ filter passes (map as_listed ls)
    by [] = refl
    by (l ∷ ls) = grind (arith, by ls)
