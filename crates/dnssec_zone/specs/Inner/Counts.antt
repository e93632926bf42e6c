-- How many keys pass a test.
use Rattle.std.specs.Prelude.{◌≡◌, ℕ, ◌+◌, ◌-◌, min, Bool, true, false, not, ◌&&◌, Option, None}
use Rattle.std.specs.Prelude.{Some, List, [], ◌∷◌, ◌≤◌}
use Rattle.std.specs.FinMap.{entries}
use Rattle.dnssec_key.specs.declared.kind.KeyType.{KeyType}
use Rattle.dnssec_key.specs.declared.roll.PhaseEnd.{PhaseEnd}
use Rattle.dnssec_key.specs.declared.roll.PhaseEnd.TheVariants.{Report, Wait}
use Rattle.dnssec_key.specs.declared.roll.{Half.Half, RollType.RollType}
use Rattle.dnssec_key.specs.{Key.KeyParts, Sides.wait_moves_kept}
use Rattle.dnssec_key.specs.Setters.{Setting, Present, AtParent, Stale}
use Rattle.dnssec_zone.specs.Keys.{Keys}
use Rattle.dnssec_zone.specs.declared.index.Counts.{Counts}
use Rattle.dnssec_zone.specs.declared.index.Counting.{Counting}
use Rattle.dnssec_zone.specs.declared.index.Counting.TheVariants.{OneMore, OneLess}
use Rattle.dnssec_zone.specs.Start.{is_listed, serves_as_kept, Want}
use Rattle.dnssec_zone.specs.Start.{PresentKsk, KskAtParent, PresentZsk, PresentKskRole}
use Rattle.dnssec_zone.specs.Start.{PresentZskRole}

abbrev pub bit : Bool → ℕ
bit true = 1
bit false = 0

abbrev pub count : (List ℕ → KeyParts → Bool) → List (List ℕ × KeyParts) → ℕ
count p [] = 0
count p (e ∷ es) = bit (p e.0 e.1) + count p es

-- how many keys pass
abbrev pub count_in : (List ℕ → KeyParts → Bool) → Keys → ℕ
count_in p keys = count p (entries keys)

-- what a key adds
abbrev pub share : (List ℕ → KeyParts → Bool) → List ℕ → Option KeyParts → ℕ
share p r None = 0
share p r (Some k) = bit (p r k)

module _ (p : KeyType → Bool) where
  -- a key that isn't listed passes
  abbrev pub unlisted_passes : List (List ℕ) → List ℕ → KeyParts → Bool
  unlisted_passes qs q k = p k.keytype && not (is_listed qs q)

  -- a listed key passes
  abbrev pub listed_passes : List (List ℕ) → List ℕ → KeyParts → Bool
  listed_passes qs q k = p k.keytype && is_listed qs q

  -- a key passes, whether it is listed or not
  abbrev pub passes : List ℕ → KeyParts → Bool
  passes q k = p k.keytype

-- ---- the counts that are kept

abbrev pub count_of : Counts → Want → ℕ
count_of c PresentKsk = c.present_ksk
count_of c KskAtParent = c.ksk_at_parent
count_of c PresentZsk = c.present_zsk
count_of c PresentKskRole = c.present_ksk_role
count_of c PresentZskRole = c.present_zsk_role

-- the counts that f gives
abbrev pub counts_by : (Want → ℕ) → Counts
counts_by f = record {
  present_ksk = f PresentKsk;
  ksk_at_parent = f KskAtParent;
  present_zsk = f PresentZsk;
  present_ksk_role = f PresentKskRole;
  present_zsk_role = f PresentZskRole;
}

-- the counts of no keys
abbrev pub no_counts : Counts
no_counts = counts_by (λ w. 0)

-- a key that serves adds one as it comes in, up to the greatest number that is kept, and takes one
-- as it goes out
abbrev pub count_after : Bool → Counting → ℕ → ℕ
count_after false counting n = n
count_after true OneMore n = min 18446744073709551615 (n + 1)
count_after true OneLess n = n - 1

-- the counts once a key has come in, or gone out
abbrev pub counts_after : Counting → KeyType → Counts → Counts
counts_after counting t c =
    counts_by (λ w. count_after (serves_as_kept w t) counting (count_of c w))

-- the counts with one key more
abbrev pub with_key : KeyType → Counts → Counts
with_key = counts_after OneMore

-- the counts with one key less
abbrev pub without_key : KeyType → Counts → Counts
without_key = counts_after OneLess

-- a setter may change the counts; none of them asks whether a key signs
abbrev pub moves_counts : Setting → Bool
moves_counts (Present value now) = true
moves_counts (AtParent value) = true
moves_counts Stale = true
moves_counts _ = false

-- the end of a phase may change the counts; a report changes no flag
abbrev pub end_moves_kept : PhaseEnd → RollType → Half → Bool
end_moves_kept (Report ttl) roll half = false
end_moves_kept Wait roll half = wait_moves_kept roll half

-- each count is that of the keys
abbrev pub CountsAgree : Counts → Keys → Type 0
CountsAgree counts keys =
    (w : Want) → count_of counts w ≡ count_in (passes (serves_as_kept w)) keys

-- a usize holds the number of keys
abbrev pub AreCountable : Keys → Type 0
AreCountable keys = count_in (λ q k. true) keys ≤ 18446744073709551615
