-- A start that is said isn't refused.
use Rattle.std.proofs.Common.{◌≡◌, ℕ, inl, inr, Bool, true, false, List, [], ◌∷◌, Option, None}
use Rattle.std.proofs.Common.{Some, refl, sym, ap, subst, ◌∙◌, arith}
use Rattle.std.proofs.lemmas.Bool.{and_parts, eqb-true, false_from_ne_true, or_parts, true≢false}
use Rattle.std.proofs.lemmas.Option.{same_Some}
use Rattle.std.specs.Prelude.{T, ◌&&◌, ◌||◌, nat_eq, is_none, Result, Ok, Err}
use Rattle.std.specs.{List.list_all, Cmp.Lexicographic.bytes_decides, Cmp.Lexicographic.slice_cmp}
use Rattle.std.specs.{Ordering.nat_cmp, FinMap.find, FinMap.Entries.is_sorted, Str.bytes_eq}
use Rattle.std.specs.FinMap.{entries, entries_sorted, get, get-entries}
use Rattle.dnssec_base.specs.declared.error.Error.{Error}
use Rattle.dnssec_key.specs.declared.kind.KeyType.{KeyType}
use Rattle.dnssec_key.specs.declared.roll.RollType.{RollType, TheVariants.AlgorithmRoll}
use Rattle.dnssec_key.specs.Key.{KeyParts, all_states, ksk_role, zsk_role}
use Rattle.dnssec_key.specs.State.{is_any, is_fresh}
use Rattle.dnssec_zone.specs.Keys.{some_key}
use Rattle.dnssec_zone.specs.Start.{algorithm_fault, algorithms_within, conflict, has_algorithm}
use Rattle.dnssec_zone.specs.Start.{is_listed, lists_kind, new_fault, old_fault, serves_as_new}
use Rattle.dnssec_zone.specs.Start.{side_of, suitability_fault, wants}
use Rattle.dnssec_zone.proofs.Quantified.{here-found, later-found, same_key, second, some_key-none}
use Rattle.dnssec_keyset.specs.KeySet.{KeySetParts}
use Rattle.dnssec_keyset.specs.Step as keyset
use Rattle.dnssec_policy.specs.declared.policy.KeyRole.{KeyRole}
use Rattle.dnssec_policy.specs.declared.policy.KeyRole.TheVariants.{Ksk, Zsk, Csk}
use Rattle.dnssec_policy.specs.declared.policy.{Policy.Policy, Scheme.Scheme}
use Rattle.dnssec_policy.specs.declared.policy.Scheme.TheVariants.{Split, SingleType}
use Rattle.dnssec_policy.specs.Keys.{first_of, goes, has_role, is_in_use, is_new, is_unwanted}
use Rattle.dnssec_policy.specs.Keys.{new_keys, references_where, role_of, roles_of, serves}
use Rattle.dnssec_policy.specs.{Keys.with_key, View.View}
use Rattle.dnssec_policy.proofs.May.{IsChange, IsRenewal, IsStart, is_renewal}

abbrev Entry : Type 0
Entry = List ℕ × KeyParts

module _ (at : List ℕ → Option KeyParts) where
  -- a look-up finds these entries
  abbrev pub AllAt : List Entry → Type 0
  AllAt [] = Unit {0}
  AllAt (e ∷ es) = (at e.0 ≡ Some e.1) × AllAt es

  -- ---- old entries

  old-free : (roll : RollType) (p : KeyParts → Bool)
      → ((k : KeyParts) → p k ≡ true → lists_kind (side_of roll) k.keytype ≡ true)
      → (es : List Entry) → AllAt es → old_fault roll at (references_where p es) ≡ None
  old-free roll p kind [] there = refl
  old-free roll p kind (e ∷ es) there =
      grind (arith, old-free roll p kind es there.1, there.0, kind e.1)

  -- an entry that is listed passes
  picked-passes : (p : KeyParts → Bool) (es : List Entry) → AllAt es → (q : List ℕ)
      → is_listed (references_where p es) q ≡ true → (k : KeyParts) × (at q ≡ Some k) × (p k ≡ true)
  picked-passes p [] there q l = absurd (true≢false (sym l))
  picked-passes p (e ∷ es) there q l =
      grind (arith, or_parts, picked-passes p es there.1 q, there.0, (bytes_decides q e.0).0)

  -- ---- algorithms

  module _ (a : ℕ) (q : List ℕ) (j : KeyParts) (at_q : at q ≡ Some j) (of_j : j.algorithm ≡ a)
      (p : KeyParts → Bool) where
    -- those that pass have the algorithm
    abbrev pub AllOf : List Entry → Type 0
    AllOf [] = Unit {0}
    AllOf (e ∷ es) = (p e.1 ≡ true → e.1.algorithm ≡ a) × AllOf es

    olds-within : (es : List Entry) → AllAt es → AllOf es
        → algorithms_within at (references_where p es) (q ∷ []) ≡ true
    olds-within [] there is = refl
    olds-within (e ∷ es) there is = grind (arith, olds-within es there.1 is.1, there.0, is.0)

-- an entry that passes is listed
pub listed-in : (p : KeyParts → Bool) (es : List Entry) (q : List ℕ) (k : KeyParts)
    → find (slice_cmp nat_cmp) q es ≡ Some k → p k ≡ true
    → is_listed (references_where p es) q ≡ true
listed-in p [] q k f e = absurd (cc)
listed-in p (x ∷ xs) q k f e =
    grind (arith, same_key, or_parts, listed-in p xs q k, (bytes_decides q x.0).1)

-- and so is its algorithm
listed-algorithm : (at : List ℕ → Option KeyParts) (qs : List (List ℕ)) (q : List ℕ) (k : KeyParts)
    → at q ≡ Some k → is_listed qs q ≡ true → has_algorithm at qs k.algorithm ≡ true
listed-algorithm at [] q k there l = absurd (true≢false (sym l))
listed-algorithm at (x ∷ xs) q k there l =
    grind (arith, or_parts, listed-algorithm at xs q k there, (bytes_decides q x).0)

-- the entries of a map are found
all-at-on : (f g : List ℕ → Option KeyParts) → ((q : List ℕ) (k : KeyParts) → f q ≡ Some k
    → g q ≡ Some k) → (es : List Entry) → AllAt f es → AllAt g es
all-at-on f g on [] there = tt
all-at-on f g on (e ∷ es) there = (on e.0 e.1 there.0, all-at-on f g on es there.1)

all-at : (es : List Entry) → T (is_sorted (slice_cmp nat_cmp) es)
    → AllAt (λ q. find (slice_cmp nat_cmp) q es) es
all-at [] s = tt
all-at (e ∷ es) s = (
  here-found e es,
  all-at-on (λ q. find (slice_cmp nat_cmp) q es) (λ q. find (slice_cmp nat_cmp) q (e ∷ es))
      (later-found e es s) es (all-at es (second _ _ s)),
)

-- ---- a key by its roles

not-both : (roll : RollType) (k : KeyParts) → goes roll k ≡ true
    → all_states is_fresh k.keytype ≡ true → ⊥
not-both roll k g f = grind (arith, and_parts, or_parts)

role-kind : (roll : RollType) (k : KeyParts) → has_role (role_of roll) k.keytype ≡ true
    → lists_kind (side_of roll) k.keytype ≡ true
role-kind roll k e = grind (arith, and_parts)

any-kind : (role : KeyRole) (k : KeyParts) → has_role role k.keytype ≡ true
    → lists_kind (side_of AlgorithmRoll) k.keytype ≡ true
any-kind role k e = grind (arith, and_parts)

role-serves : (roll : RollType) (k : KeyParts) → has_role (role_of roll) k.keytype ≡ true
    → list_all (λ want. serves_as_new want k.keytype) (wants roll) ≡ true
role-serves roll k e = grind (arith, and_parts)

apart-roles : (k : KeyParts) → has_role Ksk k.keytype ≡ true → has_role Zsk k.keytype ≡ true → ⊥
apart-roles k a b = grind arith

ksk-in : (k : KeyType) → has_role Ksk k ≡ true → ksk_role is_any k ≡ true
ksk-in k e = grind arith

zsk-in : (k : KeyType) → has_role Zsk k ≡ true → zsk_role is_any k ≡ true
zsk-in k e = grind arith

-- a key at work goes by the roll that renews it
pub works-goes : (roll : RollType) (k : KeyParts) → is_renewal roll ≡ true
    → serves (role_of roll) k.keytype ≡ true → goes roll k ≡ true
works-goes roll k r e = grind (arith, and_parts, or_parts)

-- ---- new keys

with-parts : (r : Result (List ℕ) KeyRole) (s : Result (List (List ℕ)) KeyRole)
    (news : List (List ℕ)) → with_key r s ≡ Ok news
    → (q : List ℕ) × (qs : List (List ℕ)) × (r ≡ Ok q) × (s ≡ Ok qs) × (q ∷ qs ≡ news)
with-parts (Err role) s news e = absurd (cc)
with-parts (Ok q) (Err role) news e = absurd (cc)
with-parts (Ok q) (Ok qs) news e = (q, qs, refl, refl, (cc))

none-left : (qs : List (List ℕ)) → ◌≡◌ {A = Result (List (List ℕ)) KeyRole} (Ok []) (Ok qs)
    → qs ≡ []
none-left qs e = cc

first-listed : (role : KeyRole) (qs : List (List ℕ)) (q : List ℕ) → first_of role qs ≡ Ok q
    → is_listed qs q ≡ true
first-listed role [] q e = absurd (cc)
first-listed role (x ∷ xs) q e =
    let same : x ≡ q = cc in
    ap (λ b. b || is_listed xs q) ((bytes_decides q x).1 (sym same))

module _ (policy : Policy) (set : KeySetParts) where
  -- a key of the role that may come in
  pub record IsNewKey (role : KeyRole) (q : List ℕ) : Type 0 where
    pub key : KeyParts
    pub at : get set.keys q ≡ Some key
    pub has : has_role role key.keytype ≡ true
    pub fresh : all_states is_fresh key.keytype ≡ true
    pub algorithm : key.algorithm ≡ policy.algorithm

  there : AllAt (get set.keys) (entries set.keys)
  there = all-at-on (λ q. find (slice_cmp nat_cmp) q (entries set.keys)) (get set.keys)
      (λ q k e. get-entries set.keys q ∙ e) (entries set.keys)
      (all-at (entries set.keys) (entries_sorted set.keys))

  new-key : (role : KeyRole) (q : List ℕ)
      → first_of role (references_where (is_new policy role) (entries set.keys)) ≡ Ok q
      → IsNewKey role q
  new-key role q found =
      let w = picked-passes (get set.keys) (is_new policy role) (entries set.keys) there q
      (first-listed role (references_where (is_new policy role) (entries set.keys)) q found) in
      let k = w.0 in
      let x = and_parts (has_role role k.keytype && all_states is_fresh k.keytype)
      (nat_eq k.algorithm policy.algorithm) w.2 in
      let y = and_parts (has_role role k.keytype) (all_states is_fresh k.keytype) x.0 in
      record {
        key = k;
        at = w.1;
        has = y.0;
        fresh = y.1;
        algorithm = eqb-true k.algorithm policy.algorithm x.1;
      }

  pub one-new : (role : KeyRole) (news : List (List ℕ))
      → new_keys policy set.keys (role ∷ []) ≡ Ok news
      → (q : List ℕ) × (q ∷ [] ≡ news) × IsNewKey role q
  one-new role news e =
      let x = with-parts
      (first_of role (references_where (is_new policy role) (entries set.keys))) (Ok []) news e in
      let one = ap (λ (qs : List (List ℕ)). x.0 ∷ qs) (sym (none-left x.1 x.3)) ∙ x.4 in
      (x.0, one, new-key role x.0 x.2)

  pub two-new : (a b : KeyRole) (news : List (List ℕ))
      → new_keys policy set.keys (a ∷ b ∷ []) ≡ Ok news
      → (q r : List ℕ) × (q ∷ r ∷ [] ≡ news) × IsNewKey a q × IsNewKey b r
  two-new a b news e =
      let x = with-parts (first_of a (references_where (is_new policy a) (entries set.keys)))
      (new_keys policy set.keys (b ∷ [])) news e in
      let y = one-new b x.1 x.3 in
      (x.0, y.0, ap (λ (qs : List (List ℕ)). x.0 ∷ qs) y.1 ∙ x.4, new-key a x.0 x.2, y.2)

  -- ---- one start

  module _ (roll : RollType) where
    abbrev pub olds : List (List ℕ)
    olds = references_where (goes roll) (entries set.keys)

    olds-free : old_fault roll (get set.keys) olds ≡ None
    olds-free = old-free (get set.keys) roll (goes roll)
        (λ k e. (and_parts (lists_kind (side_of roll) k.keytype) (is_in_use k.keytype) e).0)
        (entries set.keys) there

    -- what is listed as old goes, and what goes is listed
    pub old-goes : (q : List ℕ) → is_listed olds q ≡ true
        → (k : KeyParts) × (get set.keys q ≡ Some k) × (goes roll k ≡ true)
    old-goes q l = picked-passes (get set.keys) (goes roll) (entries set.keys) there q l

    pub goes-old : (q : List ℕ) (k : KeyParts) → get set.keys q ≡ Some k → goes roll k ≡ true
        → is_listed olds q ≡ true
    goes-old q k at g = listed-in (goes roll) (entries set.keys) q k
        (sym (get-entries set.keys q) ∙ at) g

    pub untaken : (role : KeyRole) (q : List ℕ) → IsNewKey role q → is_listed olds q ≡ false
    untaken role q new = false_from_ne_true (is_listed olds q) (λ t.
        let w = old-goes q t in
        let same = same_Some w.0 new.key (sym w.1 ∙ new.at) in
        not-both roll new.key (subst (λ k. goes roll k ≡ true) same w.2) new.fresh)

    module _ (begins : conflict roll set.rolls ≡ None) (role : KeyRole) (q : List ℕ)
        (new : IsNewKey role q)
        (kind : lists_kind (side_of roll) new.key.keytype ≡ true)
        (each : list_all (λ want. serves_as_new want new.key.keytype) (wants roll) ≡ true)
        (algorithms : algorithm_fault roll (get set.keys) olds (q ∷ []) ≡ None) where
      new-free : new_fault roll (get set.keys) olds [] (q ∷ []) ≡ None
      new-free = rw (new.at, untaken role q new, kind, new.fresh) refl

      suitable : suitability_fault roll set.keys olds (q ∷ []) ≡ None
      suitable = grind (arith, each, new.at)

      one-free : keyset.start_refusal roll set olds (q ∷ []) ≡ None
      one-free = rw (begins, olds-free, new-free, algorithms, suitable) refl

  -- ---- a renewal

  -- a key that goes is wanted, so it has the algorithm
  of-algorithm : (roll : RollType) (k : KeyParts) → is_unwanted policy k ≡ false
      → goes roll k ≡ true → k.algorithm ≡ policy.algorithm
  of-algorithm roll k w g = eqb-true k.algorithm policy.algorithm
      (grind (arith, and_parts, or_parts))

  pub goes-of : some_key (is_unwanted policy) set.keys ≡ false → (roll : RollType) (q : List ℕ)
      (k : KeyParts) → get set.keys q ≡ Some k → goes roll k ≡ true
      → k.algorithm ≡ policy.algorithm
  goes-of wanted roll q k at g =
      of-algorithm roll k (some_key-none (is_unwanted policy) set.keys q k wanted at) g

  module _ (wanted : some_key (is_unwanted policy) set.keys ≡ false) (roll : RollType)
      (q : List ℕ) (new : IsNewKey (role_of roll) q)
      (old : List ℕ) (k : KeyParts) (at : get set.keys old ≡ Some k) (g : goes roll k ≡ true) where
    all-of : (es : List Entry) → AllAt (get set.keys) es
        → AllOf (get set.keys) policy.algorithm q new.key new.at new.algorithm (goes roll) es
    all-of [] found = tt
    all-of (e ∷ es) found = (λ h. goes-of wanted roll e.0 e.1 found.0 h, all-of es found.1)

    within : algorithms_within (get set.keys) (olds roll) (q ∷ []) ≡ true
    within = olds-within (get set.keys) policy.algorithm q new.key new.at new.algorithm (goes roll)
        (entries set.keys) there (all-of (entries set.keys) there)

    back : algorithms_within (get set.keys) (q ∷ []) (olds roll) ≡ true
    back =
        let some = listed-algorithm (get set.keys) (olds roll) old k at
        (goes-old roll old k at g) in
        let has : has_algorithm (get set.keys) (olds roll) new.key.algorithm ≡ true =
        ap (λ a. has_algorithm (get set.keys) (olds roll) a)
        (new.algorithm ∙ sym (goes-of wanted roll old k at g)) ∙ some in
        rw (new.at, has) refl

    renewal-algorithms : algorithm_fault roll (get set.keys) (olds roll) (q ∷ []) ≡ None
    renewal-algorithms = grind (arith, within, back)

  -- ---- a change to a key and a zone key

  module _ (begins : conflict AlgorithmRoll set.rolls ≡ None) (q r : List ℕ) (a : IsNewKey Ksk q)
      (b : IsNewKey Zsk r) where
    apart : bytes_eq r q ≡ false
    apart = false_from_ne_true (bytes_eq r q) (λ t.
        let same = (bytes_decides r q).0 t in
        let one = same_Some b.key a.key (sym b.at ∙ ap (get set.keys) same ∙ a.at) in
        apart-roles a.key a.has (subst (λ (k : KeyParts). has_role Zsk k.keytype ≡ true) one b.has))

    two-entries : new_fault AlgorithmRoll (get set.keys) (olds AlgorithmRoll) [] (q ∷ r ∷ []) ≡ None
    two-entries =
        let out_q = untaken AlgorithmRoll Ksk q a in
        let out_r = untaken AlgorithmRoll Zsk r b in
        let kind_q = any-kind Ksk a.key a.has in
        let kind_r = any-kind Zsk b.key b.has in
        rw (a.at, b.at, out_q, out_r, kind_q, kind_r, a.fresh, b.fresh, apart) refl

    two-suit : suitability_fault AlgorithmRoll set.keys (olds AlgorithmRoll) (q ∷ r ∷ []) ≡ None
    two-suit = grind (arith, a.at, b.at, ksk-in a.key.keytype a.has, zsk-in b.key.keytype b.has)

    two-free : keyset.start_refusal AlgorithmRoll set (olds AlgorithmRoll) (q ∷ r ∷ []) ≡ None
    two-free = rw (begins, olds-free AlgorithmRoll, two-entries, two-suit) refl

  by-scheme : (scheme : Scheme) (news : List (List ℕ)) → conflict AlgorithmRoll set.rolls ≡ None
      → new_keys policy set.keys (roles_of scheme) ≡ Ok news
      → keyset.start_refusal AlgorithmRoll set (olds AlgorithmRoll) news ≡ None
  by-scheme (Split k z) news begins e =
      let n = two-new Ksk Zsk news e in
      subst (λ news. keyset.start_refusal AlgorithmRoll set (olds AlgorithmRoll) news ≡ None) n.2
      (two-free begins n.0 n.1 n.3 n.4)
  by-scheme SingleType news begins e =
      let n = one-new Csk news e in
      subst (λ news. keyset.start_refusal AlgorithmRoll set (olds AlgorithmRoll) news ≡ None) n.1
      (one-free AlgorithmRoll begins Csk n.0 n.2 (any-kind Csk n.2.key n.2.has)
      (role-serves AlgorithmRoll n.2.key n.2.has) refl)

-- ---- all of them

no-cause : (o : Option Error) → is_none o ≡ true → o ≡ None
no-cause None e = refl
no-cause (Some cause) e = absurd (true≢false (sym e))

pub free : (policy : Policy) (v : View) (roll : RollType) (old news : List (List ℕ))
    → IsStart policy v roll old news → keyset.start_refusal roll v.set old news ≡ None
free policy v roll old news s = subst (λ old. keyset.start_refusal roll v.set old news ≡ None)
    (sym s.olds_are) (elim s.by [
      | inl c ↦ changed c
      | inr r ↦ renewed r
    ])
  where
    begins : conflict roll v.set.rolls ≡ None
    begins = no-cause (conflict roll v.set.rolls) s.begins

    changed : IsChange policy v roll news → keyset.start_refusal roll v.set
        (references_where (goes roll) (entries v.set.keys)) news ≡ None
    changed c = subst (λ roll. keyset.start_refusal roll v.set
        (references_where (goes roll) (entries v.set.keys)) news ≡ None) (sym c.roll_is)
        (by-scheme policy v.set policy.scheme news
        (subst (λ roll. conflict roll v.set.rolls ≡ None) c.roll_is begins) c.news_are)

    renewed : IsRenewal policy v roll news → keyset.start_refusal roll v.set
        (references_where (goes roll) (entries v.set.keys)) news ≡ None
    renewed r =
        let n = one-new policy v.set (role_of roll) news r.news_are in
        let g = works-goes roll r.key r.renews r.works in
        subst (λ news. keyset.start_refusal roll v.set
        (references_where (goes roll) (entries v.set.keys)) news ≡ None) n.1
        (one-free policy v.set roll begins (role_of roll) n.0 n.2 (role-kind roll n.2.key n.2.has)
        (role-serves roll n.2.key n.2.has)
        (renewal-algorithms policy v.set r.wanted roll n.0 n.2 r.old r.key r.there g))
