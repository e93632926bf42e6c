-- The two lists of a start, entry by entry, also by the tags of the keys that stand before; and the
-- marks that they make: a key that is listed twice is marked as one that is listed once.
use Rattle.std.proofs.Common.{◌≡◌, ℕ, Bool, ◌+◌, ◌<◌, List, [], ◌∷◌, ◌++◌, length, take, drop}
use Rattle.std.proofs.Common.{get_or, refl, Bor, add-one, arith, ap, ◌∙◌, true, false, Some, None}
use Rattle.dnssec_zone.specs.Start.{texts, is_listed, new_entry_fault, new_fault, old_entry_fault}
use Rattle.std.proofs.{Common.sym, Math.Seq.take-suc, Math.Seq.drop-cons, Math.Bool.or-false}
use Rattle.std.proofs.{lemmas.List.map-append, lemmas.List.Folds.list_any-append}
use Rattle.std.proofs.{lemmas.Bool.Decides.nat_tests}
use Rattle.std.specs.{Prelude.◌||◌, Prelude.Option, Prelude.if◌then◌else◌, Prelude.nat_eq}
use Rattle.std.specs.{Prelude.◌&&◌, Prelude.not, FinMap.get, List.list_any, Option.option_or}
use Rattle.std.specs.{Option.option_map, Option.option_map_or, Str.bytes_eq}
use Rattle.std.specs.{Cmp.Lexicographic.nat_list_eq_equiv, Cmp.Lexicographic.bytes_decides}
use Rattle.dnssec_zone.specs.{declared.mark.KeyMark.KeyMark, Inner.KeyMark.marked}
use Rattle.dnssec_zone.specs.{Keys.Keys, Keys.TagsApart}
use Rattle.dnssec_zone.specs.{Inner.NewKeys.freshness_fault, Inner.Tags.HasListed}
use Rattle.dnssec_zone.proofs.Quantified.{list_any-map}
use Rattle.dnssec_key.specs.{declared.roll.RollType.RollType, Key.KeyParts, RollTable.column}
use Rattle.dnssec_key.specs.declared.kind.KeyType.{KeyType}
use Rattle.dnssec_zone.specs.Inner.Bits.{is_set}
use Rattle.dnssec_base.specs.declared.error.Error.{Error}

pub is_listed-texts : (rs : List (Bor (List ℕ))) (q : List ℕ) → is_listed (texts rs) q
    ≡ list_any (λ (r : Bor (List ℕ)). bytes_eq q r.now) rs
is_listed-texts rs q = list_any-map (bytes_eq q) (λ (r : Bor (List ℕ)). r.now) rs

-- one entry more of a list of references
pub texts-more : (rs : List (Bor (List ℕ))) (i : ℕ) (d : Bor (List ℕ)) → i < length rs
    → texts (take (i + 1) rs) ≡ texts (take i rs) ++ (get_or rs i d).now ∷ []
texts-more rs i d h = rw (add-one, take-suc rs i d, map-append) refl

module _ (roll : RollType) (at : List ℕ → Option KeyParts) (olds : List (List ℕ)) where
  -- the new entry at i, and then the rest
  pub new_fault-at : (rs : List (Bor (List ℕ))) (i : ℕ) (d : Bor (List ℕ)) → i < length rs
      → new_fault roll at olds (texts (take i rs)) (texts (drop i rs))
      ≡ option_or
      (new_entry_fault roll (at (get_or rs i d).now)
      (is_listed olds (get_or rs i d).now || is_listed (texts (take i rs))
      (get_or rs i d).now))
      (new_fault roll at olds (texts (take (i + 1) rs)) (texts (drop (i + 1) rs)))
  new_fault-at rs i d h = rw (add-one, take-suc rs i d, drop-cons rs i d, map-append) refl

pub ruleset lists = (is_listed-texts, new_fault-at)

-- ---- a mark that is made twice

pub marked-twice : (mark : KeyMark) (k : KeyParts) → marked mark (marked mark k) ≡ marked mark k
unfolding column
marked-twice mark k = grind arith

-- ---- a step of the loop

-- one entry more passes
pub any-more : (p : List ℕ → Bool) (rs : List (Bor (List ℕ))) (i : ℕ) (d : Bor (List ℕ))
    → i < length rs → list_any p (texts (take (i + 1) rs))
    ≡ (list_any p (texts (take i rs)) || p (get_or rs i d).now)
any-more p rs i d h = rw (texts-more rs i d h, list_any-append)
    (ap (λ b. list_any p (texts (take i rs)) || b) (or-false _))

-- one entry more is listed
pub listed_more : (rs : List (Bor (List ℕ))) (i : ℕ) (d : Bor (List ℕ)) (q : List ℕ)
    → i < length rs → is_listed (texts (take (i + 1) rs)) q
    ≡ (is_listed (texts (take i rs)) q || bytes_eq (get_or rs i d).now q)
listed_more rs i d q h = any-more (bytes_eq q) rs i d h
    ∙ ap (λ b. is_listed (texts (take i rs)) q || b)
    (nat_list_eq_equiv.symm q (get_or rs i d).now)

-- the keys of one set with these references are marked in the other
abbrev pub IsMarked : (KeyParts → KeyParts) → List (Bor (List ℕ)) → Keys → Keys → Type 0
IsMarked f rs old new = (q : List ℕ) → get new q
    ≡ option_map (λ k. if is_listed (texts rs) q then f k else k) (get old q)

module _ (f : KeyParts → KeyParts) (twice : (k : KeyParts) → f (f k) ≡ f k) where
  -- the mark of the reference at i, after those before it
  pub mark_more : (rs : List (Bor (List ℕ))) (i : ℕ) (d : Bor (List ℕ)) (old mid new : Keys)
      → i < length rs → IsMarked f (take i rs) old mid
      → ((q : List ℕ) → get new q
      ≡ option_map (λ k. if bytes_eq (get_or rs i d).now q then f k else k) (get mid q))
      → IsMarked f (take (i + 1) rs) old new
  mark_more rs i d old mid new h before now q =
      grind (arith, twice, now q, before q, listed_more rs i d q h)

-- ---- by the tags of the keys that stand before

-- one more reference, at which there is no key
pub listed-none : (keys : Keys) (tags : List ℕ) (r : List ℕ) → get keys r ≡ None
    → (listed : List ℕ → Bool) → HasListed tags keys listed
    → HasListed tags keys (λ q. listed q || bytes_eq r q)
listed-none keys tags r none listed old q k at = old q k at ∙ (grind (arith, bytes_decides))

-- one more reference, and the tag of the key there
pub listed-put : (keys : Keys) → TagsApart keys → (tags more : List ℕ) (r : List ℕ)
    (x : KeyParts) → get keys r ≡ Some x
    → ((t : ℕ) → is_set more t ≡ (if nat_eq x.key_tag t then true else is_set tags t))
    → (listed : List ℕ → Bool) → HasListed tags keys listed
    → HasListed more keys (λ q. listed q || bytes_eq r q)
listed-put keys differ tags more r x found put listed old q k at =
    grind (arith, bytes_decides, nat_tests, put k.key_tag, old q k at, differ r q x k found at)

-- a new entry with the fault of an old one; and one without, by its key
pub old-fault : (roll : RollType) (o : Option KeyParts) (taken : Bool) (e : Error)
    → old_entry_fault roll o ≡ Some e → new_entry_fault roll o taken ≡ Some e
old-fault roll o taken e h = grind (arith, h)

pub new-fault : (roll : RollType) (o : Option KeyParts) (k : KeyParts) (taken is : Bool)
    → old_entry_fault roll o ≡ None → o ≡ Some k → is ≡ taken
    → new_entry_fault roll o taken ≡ freshness_fault k is
new-fault roll o k taken is h found same = grind (arith, h, found, same)

-- whether a key serves that isn't listed, by the tags of those listed
pub first-listed : (p : KeyType → Bool) (keys : Keys) (tags : List ℕ) (listed : List ℕ → Bool)
    (r : List ℕ) → HasListed tags keys listed
    → option_map_or (λ (k : KeyParts). p k.keytype && not (is_set tags k.key_tag)) (get keys r)
    false ≡ option_map_or (λ (k : KeyParts). p k.keytype && not (listed r)) (get keys r) false
first-listed p keys tags listed r has = grind (arith, has r)

-- ---- step by step

-- the first fault among the new entries from i on
pub fault-from : (roll : RollType) (at : List ℕ → Option KeyParts) (olds : List (List ℕ))
    (news : List (Bor (List ℕ))) (i : ℕ) (d : Bor (List ℕ)) → i < length news
    → (all found : Option Error)
    → new_fault roll at olds (texts (take i news)) (texts (drop i news)) ≡ all
    → new_entry_fault roll (at (get_or news i d).now) (is_listed olds (get_or news i d).now
    || is_listed (texts (take i news)) (get_or news i d).now) ≡ found
    → all ≡ option_or found (new_fault roll at olds (texts (take (i + 1) news))
    (texts (drop (i + 1) news)))
fault-from roll at olds news i d within all found so_far is =
    sym so_far ∙ new_fault-at roll at olds news i d within
    ∙ ap (λ o. option_or o (new_fault roll at olds (texts (take (i + 1) news))
    (texts (drop (i + 1) news)))) is

pub or_joined : (a b c : Bool) → ((a || b) || c) ≡ (a || (b || c))
or_joined a b c = grind arith
