-- Since when a set is published: the position at which it came.
use Rattle.std.specs.Prelude.{ℕ, zero, suc, ◌==◌, ◌&&◌, Bool, true, false, if◌then◌else◌, List}
use Rattle.std.specs.Prelude.{[], ◌∷◌, map}
use Rattle.std.specs.Str.{bytes_eq}
use Rattle.dnssec_run.specs.declared.record.Entry.{Entry}
use Rattle.dnssec_run.specs.declared.record.Published.{Published}
use Rattle.dnssec_run.specs.Published.{Id, id_of}
use Rattle.dnssec_run.specs.Safe.{SetKind, Ds, Dnskey, ZoneSigners, Position, position_at}

-- ---- sets of a kind

-- what caches hold as one: a set of keys; a DNSKEY set with its signers
abbrev pub CachedSet : Type 0
CachedSet = List Id × List Id

-- the set of a kind at a position
abbrev pub set_at : SetKind → Position → CachedSet
set_at Ds p = (p.ds, [])
set_at Dnskey p = (p.dnskey, p.signers)
set_at ZoneSigners p = (p.zone, [])

-- such a set, of what is published
abbrev pub set_in : SetKind → Published → CachedSet
set_in Ds sets = (map id_of sets.ds.items, [])
set_in Dnskey sets = (map id_of sets.dnskey.items, map id_of sets.dnskey_signers.items)
set_in ZoneSigners sets = (map id_of sets.zone_signers.items, [])

-- ---- the same set

-- the same reference, added at the same position
abbrev pub same_id : Id → Id → Bool
same_id a b = (a.1 == b.1) && bytes_eq a.0 b.0

-- the same keys
abbrev pub same_ids : List Id → List Id → Bool
same_ids [] [] = true
same_ids [] (b ∷ others) = false
same_ids (a ∷ rest) [] = false
same_ids (a ∷ rest) (b ∷ others) = same_id a b && same_ids rest others

-- and the same signers
abbrev pub same_set : CachedSet → CachedSet → Bool
same_set p q = same_ids p.0 q.0 && same_ids p.1 q.1

-- ---- when it came

-- The set of a kind that is there at position n came at this position: no later call up to n has
-- changed it. So a set that comes back comes anew.
unfoldable pub origin : List Entry → SetKind → ℕ → ℕ
origin entries kind zero = 0
origin entries kind (suc n) =
    if same_set (set_at kind (position_at entries n)) (set_at kind (position_at entries (suc n)))
    then origin entries kind n else suc n
