-- How many keys have each end of a wait.
use Rattle.std.specs.Prelude.{◌≡◌, ℕ, ◌<◌, Bool, false, Option, None, Some, nat_eq, unwrap_or}
use Rattle.std.specs.{Option.option_eq, BTreeMap.get, Ordering.nat_cmp}
use Rattle.dnssec_key.specs.Key.{KeyParts}
use Rattle.dnssec_zone.specs.Inner.Counts.{count_in}
use Rattle.dnssec_zone.specs.declared.ends.CountedEnds.{CountedEnds}
use Rattle.dnssec_zone.specs.Keys.{Keys}

-- how many keys have an end, but the first moment of all; `None` is the end of a key that lacks its
-- stamp
abbrev pub number : CountedEnds → Option ℕ → ℕ
number ends None = ends.lacking
number ends (Some end) = unwrap_or (get nat_cmp ends.keys end) 0

-- the first moment of all, which isn't counted: a wait that doesn't check a key is over by then
abbrev pub is_first : Option ℕ → Bool
is_first = option_eq nat_eq (Some 0)

-- an end that no key has isn't kept
abbrev pub AreHad : CountedEnds → Type 0
AreHad ends = (end : ℕ) → get nat_cmp ends.keys end ≡ Some 0 → ⊥

-- the last end that some key has, or 0 if none has one; none if a key lacks its stamp
abbrev pub IsLast : CountedEnds → Option ℕ → Type 0
IsLast ends None = 0 < number ends None
IsLast ends (Some end) = (number ends None ≡ 0)
    × ((later : ℕ) → end < later → number ends (Some later) ≡ 0)
    × (0 < end → 0 < number ends (Some end))

-- the ends that f gives the keys, counted
pub record AreEndsOf (f : KeyParts → Option ℕ) (keys : Keys) (ends : CountedEnds) : Type 0 where
  pub had : AreHad ends
  pub counted : (end : Option ℕ) → is_first end ≡ false
      → number ends end ≡ count_in (λ q k. option_eq nat_eq (f k) end) keys
