-- What is known of the waits in progress.
use Rattle.std.specs.Prelude.{◌≡◌, ℕ, List, Option, None, Some, IfSome, nat_lt, is_none}
use Rattle.std.specs.Prelude.{if◌then◌else◌, unwrap_or, ◌||◌, not, max}
use Rattle.std.specs.{FinMap.get, Str.bytes_eq}
use Rattle.dnssec_key.specs.Key.{KeyParts}
use Rattle.dnssec_zone.specs.declared.wait_end.ReportedWait.{ReportedWait}
use Rattle.dnssec_zone.specs.declared.wait_end.Waits.{Waits}
use Rattle.dnssec_zone.specs.Inner.{Ends.AreEndsOf, Over.over_at}
use Rattle.dnssec_zone.specs.Keys.{Keys, some_key}

-- the latest of the moments that f gives the keys: some key has none, or some key is past each
-- moment before the latest, and no key is past that
pub record IsLatest (f : KeyParts → Option ℕ) (keys : Keys) (latest : Option ℕ) : Type 0 where
  pub lacks : some_key (λ k. is_none (f k)) keys ≡ is_none latest
  pub past : IfSome latest (λ end. (n : ℕ)
      → some_key (λ k. nat_lt n (unwrap_or (f k) 0)) keys ≡ nat_lt n end)

-- all that a wait sees of a key: the moment from which nothing is left for the key
abbrev pub over_by : ReportedWait → KeyParts → Option ℕ
over_by wait = over_at wait.roll wait.half wait.ttl

-- a wait is over from the moment that is kept, or a key lacks its stamp; if its ends are kept, they
-- are those of the keys
abbrev pub Knows : ReportedWait → Keys → Type 0
Knows wait keys = IsLatest (over_by wait) keys wait.over
    × IfSome wait.ends (AreEndsOf (over_by wait) keys)

-- it is so of a wait, if one is kept
abbrev pub IsKnown : Option ReportedWait → Keys → Type 0
IsKnown known keys = IfSome known (λ wait. Knows wait keys)

-- what a wait sees of a key, if one is kept
abbrev pub over_for : Option ReportedWait → KeyParts → Option ℕ
over_for None k = None
over_for (Some wait) k = over_by wait k

-- it is so of both waits
abbrev pub AreKnown : Waits → Keys → Type 0
AreKnown waits keys = IsKnown waits.of_ksks keys × IsKnown waits.of_zsks keys

-- what was known of keys is known once one of them has changed
abbrev pub GoesOn : KeyParts → KeyParts → (Keys → Type 0) → (Keys → Type 0) → Type 0
GoesOn k l Old New = (m n : Keys) (r : List ℕ) → get m r ≡ Some k
    → ((q : List ℕ) → get n q ≡ (if bytes_eq r q then Some l else get m q)) → Old m → New n

-- the latest moment of all keys once that of one has changed from `before` to `after`; not known if
-- the latest may have become earlier
abbrev pub moved : Option ℕ → Option ℕ → Option ℕ → Option ℕ
moved (Some before) (Some after) (Some latest) =
    if nat_lt before latest || not (nat_lt after before) then Some (max latest after) else None
moved _ _ _ = None
