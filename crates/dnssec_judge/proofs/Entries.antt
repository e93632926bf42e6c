-- A record that is read as that of a run.
use Rattle.dnssec_judge.proofs.Base.{[], ℕ, ◌++◌, ◌+◌, ◌<◌, ◌∙◌, ◌∷◌, ◌≡◌, ◌≤◌, add_of, ap}
use Rattle.dnssec_judge.proofs.Base.{AreTold, arith, cases_lt, Change, Contains, Entry, false, get}
use Rattle.dnssec_judge.proofs.Base.{get_or, Id, id_of, inl, inr, is_told, LeadTo, length, List}
use Rattle.dnssec_judge.proofs.Base.{list_all, list_at, more, nat_cmp, None, Option, position-new}
use Rattle.dnssec_judge.proofs.Base.{position_at, position_of, refl, same-id, same_id, Shown, Some}
use Rattle.dnssec_judge.proofs.Base.{subst, suc, sym, take, take_more, TellsApart, true, true≢false}
use Rattle.dnssec_judge.proofs.Base.{zero}
use Rattle.dnssec_judge.specs.Reading.{Keys}
use Rattle.dnssec_run.proofs.OneMore.{front-at, past-end}
use Rattle.dnssec_run.specs.Safe.{blank}
use Rattle.dnssec_run.specs.declared.lists.Shown.TheVariants.{Dnskey, DnskeySigners, Ds}
use Rattle.dnssec_run.specs.declared.lists.Shown.TheVariants.{ZoneSigners}
use Rattle.dnssec_run.specs.declared.record.PublishedKey.{PublishedKey}
use Rattle.std.proofs.{Common.Bor, lemmas.List.length-take-le}
use Rattle.std.proofs.{lemmas.List.Sums.AllPass-from_list_all}
use Rattle.std.specs.Option.{option_map_or}

-- ---- the entries so far

-- position 0 has no keys, nor has one past the end
none-there : (keys : Keys) (list : Shown) → list_all (is_told keys) (list_at list blank) ≡ true
none-there keys Ds = refl
none-there keys Dnskey = refl
none-there keys DnskeySigners = refl
none-there keys ZoneSigners = refl

pub told-none : (keys : Keys) (es : List Entry) → AreTold keys es 0
unfolding position_at
told-none keys es list zero le = none-there keys list
told-none keys es list (suc m) le = absurd (omega (arith, le))

pub told-more : (keys : Keys) (es : List Entry) (n : ℕ) → AreTold keys es n
    → ((list : Shown) → list_all (is_told keys) (list_at list (position_at es (n + 1))) ≡ true)
    → AreTold keys es (n + 1)
told-more keys es n told next list m le = elim (cases_lt n m) [
  | inl lt ↦ (let e : m ≡ n + 1 = omega (arith, lt, le) in rw e (next list))
  | inr ge ↦ told list m ge
]

same-told : (o : Option (Bor PublishedKey)) (a b : Id)
    → option_map_or (λ (r : Bor PublishedKey). same_id (id_of r.now) a) o false ≡ true
    → option_map_or (λ (r : Bor PublishedKey). same_id (id_of r.now) b) o false ≡ true → a ≡ b
same-told None a b x y = absurd (true≢false (sym x))
same-told (Some r) a b x y = sym ((same-id (id_of r.now) a).0 x) ∙ (same-id (id_of r.now) b).0 y

-- so a key is told by its add
pub apart : (keys : Keys) (es : List Entry) (n : ℕ) → n ≤ length es → AreTold keys es n
    → TellsApart add_of (take n es)
apart keys es n le told list other m o a b x y same = same-told (get nat_cmp keys a.1) a b
    (at list m a x) (rw same (at other o b y))
  where
    all : (list : Shown) (m : ℕ)
        → list_all (is_told keys) (list_at list (position_at (take n es) m)) ≡ true
    all list m = elim (cases_lt n m) [
      | inl lt ↦ subst (λ p. list_all (is_told keys) (list_at list p) ≡ true)
          (past-end (take n es) m (omega (arith, lt, length-take-le n es le)))
          (none-there keys list)
      | inr ge ↦ rw (front-at es n m ge) (told list m ge)
    ]

    at : (list : Shown) (m : ℕ) (k : Id)
        → Contains (list_at list (position_at (take n es) m)) k → is_told keys k ≡ true
    at list m k there = ap (is_told keys) (sym there.2)
        ∙ AllPass-from_list_all (is_told keys) _ (all list m) there.0 k there.1

-- the entry that comes next
module _ (es : List Entry) (n : ℕ) (e : Entry) (lt : n < length es) (is : e ≡ get_or es n e) where
  pub one-more : take (n + 1) es ≡ more (take n es) e
  one-more = take_more es n e lt ∙ ap (λ (e : Entry). take n es ++ e ∷ []) (sym is)

  next-at : position_at es (n + 1) ≡ position_of e
  next-at = sym (front-at es (n + 1) (n + 1) (omega arith))
      ∙ ap (λ es. position_at es (n + 1)) one-more
      ∙ ap (position_at (more (take n es) e)) (omega (arith, lt, length-take-le n es))
      ∙ position-new (take n es) e

  pub leads-next : (cs : List Change) → LeadTo add_of cs (position_at es n) (position_at es (n + 1))
      → LeadTo add_of cs (position_at (take n es) (length (take n es))) (position_of e)
  leads-next cs h =
      rw (length-take-le n es (omega (arith, lt)), front-at es n n (omega arith), ← next-at) h
