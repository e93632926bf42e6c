-- What a call changes in the published lists leads from one position to the next: for `advance`.
use Rattle.std.proofs.Common.{◌≡◌, ℕ, Bool, true, false, List, [], None, Some, refl, sym, ap}
use Rattle.std.proofs.Common.{◌∙◌, subst, arith, inl, inr, ◌⊎◌}
use Rattle.std.specs.Prelude.{Option, if◌then◌else◌, ◌==◌, ◌||◌, not}
use Rattle.std.proofs.lemmas.Bool.{cases_Bool, eqb-true, eq-eqb, false_from_ne_true, or_left}
use Rattle.std.proofs.lemmas.Bool.{or_right, true≢false}
use Rattle.std.specs.Bool.{Decides}
use Rattle.std.proofs.lemmas.List.Folds.{Any-from_list_any, list_any-from_Any}
use Rattle.std.proofs.lemmas.{Map.Views.Contains-from_lookup, Option.none-some, Option.same_Some}
use Rattle.std.specs.{List.Contains, List.list_any, FinMap.get, Ordering.is_eq, Ordering.nat_cmp}
use Rattle.std.specs.{Cmp.Lexicographic.slice_cmp}
use Rattle.dnssec_key.specs.{declared.kind.KeyType.KeyType, Key.KeyParts}
use Rattle.dnssec_zone.proofs.Quantified.{same_key}
use Rattle.dnssec_run.specs.{ByList.ByList, declared.lists.Change.Change}
use Rattle.dnssec_run.specs.declared.lists.{Shown.Shown}
use Rattle.dnssec_run.specs.declared.lists.Shown.TheVariants as lists
use Rattle.dnssec_run.specs.Changes.{LeadTo, add_of, has_added, list_at, moves, moves_in}
use Rattle.dnssec_run.specs.{Origins.CachedSet, Origins.same_set}
use Rattle.dnssec_run.specs.Origins.{set_at}
use Rattle.dnssec_run.specs.Lists.{at_list, lists_with, passing, same_lists, shows}
use Rattle.dnssec_run.specs.Published.{Id, World, keys_where}
use Rattle.dnssec_run.specs.Safe.{Position, SetKind, Ds, Dnskey, ZoneSigners}
use Rattle.dnssec_run.proofs.{Chain.Shown.found_in, Since.same-set}
use Rattle.dnssec_run.proofs.Positions.{position_in, position_shown, same-shown, shown-ascending}
use Rattle.dnssec_run.proofs.Positions.{shown-found}

-- ---- the adds of a list

-- a key that was added at this position is there and passes
abbrev pub Has : (KeyType → Bool) → World → ℕ → Type 0
Has p w n = (q : List ℕ) × (passing p (get w.set.keys q) ≡ true) × (w.added q ≡ n)

pub there : (p : KeyType → Bool) (o : Option KeyParts) → passing p o ≡ true
    → (k : KeyParts) × (o ≡ Some k)
there p None h = absurd (true≢false (sym h))
there p (Some k) h = (k, refl)

shown-some : (p : KeyType → Bool) (o : Option KeyParts) (n : ℕ) → passing p o ≡ true
    → position_shown p o (Some n) ≡ Some n
shown-some p o n h = grind arith

pub some-shown : (p : KeyType → Bool) (o : Option KeyParts) (n m : ℕ)
    → position_shown p o (Some n) ≡ Some m → (passing p o ≡ true) × (n ≡ m)
some-shown p None n m h = absurd (none-some m h)
some-shown p (Some k) n m h = by (p k.keytype) h
  where
    by : (b : Bool) → (if b then Some n else None) ≡ Some m → (b ≡ true) × (n ≡ m)
    by true h = (refl, same_Some n m h)
    by false h = absurd (none-some m h)

module _ (p : KeyType → Bool) (w : World) where
  pub has-is : (n : ℕ) → Has p w n → has_added (keys_where p w) n ≡ true
  has-is n (q, pass, is) =
      let m = Contains-from_lookup {eq = λ x y. is_eq (slice_cmp nat_cmp x y)} same_key q n
      (keys_where p w) (shown-found p w q ∙ shown-some p (get w.set.keys q) (w.added q) pass
      ∙ ap Some is) in
      list_any-from_Any (λ (id : Id). id.1 == n) (keys_where p w)
      (m.0, (q, n), m.1, m.2, eq-eqb n n refl)

  pub has-of : (n : ℕ) → has_added (keys_where p w) n ≡ true → Has p w n
  has-of n h =
      let m = Any-from_list_any (λ (id : Id). id.1 == n) (keys_where p w) h in
      let at = some-shown p (get w.set.keys m.1.0) (w.added m.1.0) m.1.1
      (sym (shown-found p w m.1.0) ∙ found_in (keys_where p w) (shown-ascending p w) m.1
      (m.0, m.2, m.3)) in
      (m.1.0, at.0, at.1 ∙ eqb-true m.1.1 n m.4)

-- ---- tests of lists

-- what none of a list passes, no element of it does
none-of : {A : Type 0} (p : A → Bool) (l : List A) (x : A) → list_any p l ≡ false → Contains l x
    → p x ≡ false
none-of p l x none c = false_from_ne_true (p x) (λ t. true≢false
    (sym (list_any-from_Any p l (c.0, x, c.1, c.2, t)) ∙ none))

any-or : {A : Type 0} (f g : A → Bool) (l : List A) → list_any (λ x. f x || g x) l ≡ true
    → (list_any f l ≡ true) ⊎ (list_any g l ≡ true)
any-or f g l h =
    let m = Any-from_list_any (λ x. f x || g x) l h in
    elim (cases_Bool (f m.1)) [
      | inl t ↦ inl (list_any-from_Any f l (m.0, m.1, m.2, m.3, t))
      | inr t ↦ inr (list_any-from_Any g l (
        m.0,
        m.1,
        m.2,
        m.3,
        ap (λ b. b || g m.1) (sym t) ∙ m.4,
      ))
    ]

none-or : {A : Type 0} (f g : A → Bool) (l : List A) → list_any (λ x. f x || g x) l ≡ false
    → (list_any f l ≡ false) × (list_any g l ≡ false)
none-or f g l none = (
  false_from_ne_true (list_any f l) (λ t. let m = Any-from_list_any f l t in
      true≢false (sym (list_any-from_Any (λ x. f x || g x) l
      (m.0, m.1, m.2, m.3, or_left (f m.1) (g m.1) m.4)) ∙ none)),
  false_from_ne_true (list_any g l) (λ t. let m = Any-from_list_any g l t in
      true≢false (sym (list_any-from_Any (λ x. f x || g x) l
      (m.0, m.1, m.2, m.3, or_right (f m.1) (g m.1) m.4)) ∙ none)),
)

decide : {X : Type 0} (d b : Bool) → Decides d X → (b ≡ true → X → ⊥) → (b ≡ false → X)
    → d ≡ not b
decide d true x some none = false_from_ne_true d (λ t. some refl (x.0 t))
decide d false x some none = x.1 (none refl)

-- ---- one key

pub same-bools : (a b : Bool) → (a ≡ true → b ≡ true) → (b ≡ true → a ≡ true) → a ≡ b
same-bools a b to back = grind arith

pass-alike : (p : KeyType → Bool) (o u : Option KeyParts) (m n : ℕ)
    → position_shown p o (Some m) ≡ position_shown p u (Some n) → passing p o ≡ passing p u
pass-alike p o u m n e =
    same-bools _ _ (λ h. (some-shown p u n m (sym e ∙ shown-some p o m h)).0)
    (λ h. (some-shown p o m n (e ∙ shown-some p u n h)).0)

-- lists that say the same
pub said-alike : (a b : ByList) → same_lists a b ≡ true → (s : Shown) → at_list a s ≡ at_list b s
said-alike a b h s = grind arith

unmoved : (s : Shown) (c : Change) → moves s c ≡ false → at_list c.was s ≡ at_list c.shown s
unmoved s c h = grind arith

moved : (s : Shown) (c : Change) → moves s c ≡ true → at_list c.was s ≡ at_list c.shown s → ⊥
moved s c h same = absurd (grind arith)

pub with-is : (o : Option KeyParts) (s : Shown) → at_list (lists_with o) s ≡ passing (shows s) o
with-is o lists.Ds = refl
with-is o lists.Dnskey = refl
with-is o lists.DnskeySigners = refl
with-is o lists.ZoneSigners = refl

-- ---- all changes

-- the change of a key
abbrev pub change_at : World → World → List ℕ → Change
change_at v w q = record {
  added = w.added q;
  was = lists_with (get v.set.keys q);
  shown = lists_with (get w.set.keys q);
}

-- each change is that of a key that is there, and all keys that have changed are among them
pub record Told (v w : World) (changes : List Change) : Type 0 where
  pub each : (c : Change) → Contains changes c
      → (q : List ℕ) × (k : KeyParts) × (get w.set.keys q ≡ Some k) × (c ≡ change_at v w q)
  pub all : (q : List ℕ)
      → same_lists (lists_with (get v.set.keys q)) (lists_with (get w.set.keys q)) ≡ false
      → Contains changes (change_at v w q)

-- keys of two worlds that were added at one position are one key
abbrev pub AreApart : World → World → Type 0
AreApart v w = (q r : List ℕ) (j k : KeyParts) → get v.set.keys q ≡ Some j →
    get w.set.keys r ≡ Some k → v.added q ≡ w.added r → q ≡ r

module _ (v w : World) (changes : List Change) (told : Told v w changes)
    (stay : (q : List ℕ) (k : KeyParts) → get v.set.keys q ≡ Some k → w.added q ≡ v.added q)
    (apart : AreApart v w) (apart_now : AreApart w w) where
  -- a key has changed, or is in the same lists
  unchanged : (q : List ℕ) → Contains changes (change_at v w q)
      ⊎ ((s : Shown) → passing (shows s) (get v.set.keys q) ≡ passing (shows s) (get w.set.keys q))
  unchanged q = elim (cases_Bool (same_lists (lists_with (get v.set.keys q))
      (lists_with (get w.set.keys q)))) [
        | inl t ↦ inr (λ s. sym (with-is (get v.set.keys q) s)
            ∙ said-alike _ _ t s ∙ with-is (get w.set.keys q) s)
        | inr t ↦ inl (told.all q t)
      ]

  stays : (s : Shown) (n : ℕ) → ((c : Change) → Contains changes c → c.added ≡ n → ⊥)
      → has_added (keys_where (shows s) w) n ≡ has_added (keys_where (shows s) v) n
  stays s n none = same-bools _ _ to back
    where
      to : has_added (keys_where (shows s) w) n ≡ true → has_added (keys_where (shows s) v) n ≡ true
      to h = let m = has-of (shows s) w n h in elim (unchanged m.0) [
        | inl c ↦ absurd (none (change_at v w m.0) c m.2)
        | inr same ↦
            let pass = same s ∙ m.1 in
            let k = there (shows s) (get v.set.keys m.0) pass in
            has-is (shows s) v n (m.0, pass, sym (stay m.0 k.0 k.1) ∙ m.2)
      ]

      back : has_added (keys_where (shows s) v) n ≡ true
          → has_added (keys_where (shows s) w) n ≡ true
      back h =
          let m = has-of (shows s) v n h in
          let k = there (shows s) (get v.set.keys m.0) m.1 in
          let is = stay m.0 k.0 k.1 ∙ m.2 in
          elim (unchanged m.0) [
            | inl c ↦ absurd (none (change_at v w m.0) c is)
            | inr same ↦ has-is (shows s) w n (m.0, sym (same s) ∙ m.1, is)
          ]

  was : (s : Shown) (c : Change) → Contains changes c
      → has_added (keys_where (shows s) v) c.added ≡ at_list c.was s
  was s c in_them =
      let x = told.each c in_them in
      let q = x.0 in
      subst (λ (c : Change). has_added (keys_where (shows s) v) c.added ≡ at_list c.was s)
      (sym x.3) (same-bools _ _ (λ h.
      let m = has-of (shows s) v (w.added q) h in
      let k = there (shows s) (get v.set.keys m.0) m.1 in
      with-is (get v.set.keys q) s ∙ subst (λ r. passing (shows s) (get v.set.keys r) ≡ true)
      (apart m.0 q k.0 x.1 k.1 x.2 m.2) m.1) (λ h.
      let pass = sym (with-is (get v.set.keys q) s) ∙ h in
      let k = there (shows s) (get v.set.keys q) pass in
      has-is (shows s) v (w.added q) (q, pass, sym (stay q k.0 k.1))))

  is : (s : Shown) (c : Change) → Contains changes c
      → has_added (keys_where (shows s) w) c.added ≡ at_list c.shown s
  is s c in_them =
      let x = told.each c in_them in
      let q = x.0 in
      subst (λ (c : Change). has_added (keys_where (shows s) w) c.added ≡ at_list c.shown s)
      (sym x.3) (same-bools _ _ (λ h.
      let m = has-of (shows s) w (w.added q) h in
      let k = there (shows s) (get w.set.keys m.0) m.1 in
      with-is (get w.set.keys q) s ∙ subst (λ r. passing (shows s) (get w.set.keys r) ≡ true)
      (apart_now m.0 q k.0 x.1 k.1 x.2 m.2) m.1) (λ h.
      has-is (shows s) w (w.added q) (q, sym (with-is (get w.set.keys q) s) ∙ h, refl)))

  -- ---- the sets of a kind

  -- a list has changed if a key has moved in it, and else not
  other : (s : Shown) → list_any (moves s) changes ≡ true
      → keys_where (shows s) v ≡ keys_where (shows s) w → ⊥
  other s some same =
      let m = Any-from_list_any (moves s) changes some in
      let x = told.each m.1 (m.0, m.2, m.3) in
      let q = x.0 in
      let alike = sym (shown-found (shows s) v q) ∙ ap (λ l. position_in l q) same
      ∙ shown-found (shows s) w q in
      moved s m.1 m.4 (subst (λ (c : Change). at_list c.was s ≡ at_list c.shown s) (sym x.3)
      (with-is (get v.set.keys q) s ∙ pass-alike (shows s) (get v.set.keys q) (get w.set.keys q)
      (v.added q) (w.added q) alike ∙ sym (with-is (get w.set.keys q) s)))

  alike : (s : Shown) → list_any (moves s) changes ≡ false
      → keys_where (shows s) v ≡ keys_where (shows s) w
  alike s none = sym (same-shown (shows s) v w (λ q. elim (unchanged q) [
    | inl c ↦ sym (sym (with-is (get v.set.keys q) s)
        ∙ unmoved s (change_at v w q) (none-of (moves s) changes (change_at v w q) none c)
        ∙ with-is (get w.set.keys q) s)
    | inr same ↦ sym (same s)
  ]) stay)

  module _ (p q : Position) (old : (s : Shown) → list_at s p ≡ keys_where (shows s) v)
      (new : (s : Shown) → list_at s q ≡ keys_where (shows s) w) where
    list-same : (s : Shown) → list_any (moves s) changes ≡ false → list_at s p ≡ list_at s q
    list-same s none = old s ∙ alike s none ∙ sym (new s)

    list-other : (s : Shown) → list_any (moves s) changes ≡ true → list_at s p ≡ list_at s q → ⊥
    list-other s some same = other s some (sym (old s) ∙ same ∙ new s)

    kind-same : (kind : SetKind)
        → same_set (set_at kind p) (set_at kind q) ≡ not (list_any (moves_in kind) changes)
    kind-same Ds = decide _ _ (same-set (set_at Ds p) (set_at Ds q))
        (λ some same. list-other lists.Ds some (ap (λ (set : CachedSet). set.0) same))
        (λ none i. (list-same lists.Ds none i, []))
    kind-same Dnskey = decide _ _ (same-set (set_at Dnskey p) (set_at Dnskey q))
        (λ some same. elim (any-or (moves lists.Dnskey) (moves lists.DnskeySigners) changes some) [
          | inl t ↦ list-other lists.Dnskey t (ap (λ (set : CachedSet). set.0) same)
          | inr t ↦ list-other lists.DnskeySigners t (ap (λ (set : CachedSet). set.1) same)
        ])
        (λ none i. (
          list-same lists.Dnskey (none-or (moves lists.Dnskey) (moves lists.DnskeySigners)
              changes none).0 i,
          list-same lists.DnskeySigners (none-or (moves lists.Dnskey)
              (moves lists.DnskeySigners) changes none).1 i,
        ))
    kind-same ZoneSigners = decide _ _ (same-set (set_at ZoneSigners p) (set_at ZoneSigners q))
        (λ some same. list-other lists.ZoneSigners some (ap (λ (set : CachedSet). set.0) same))
        (λ none i. (list-same lists.ZoneSigners none i, []))

    pub leads : LeadTo add_of changes p q
    leads = record {
      stays = λ s n none. rw (old s, new s) (stays s n none);
      was = λ s c c_in. rw (old s) (was s c c_in);
      is = λ s c c_in. rw (new s) (is s c c_in);
      same = kind-same;
    }
