-- What keeps the index of the tags right, whatever its form: `has` is what it says of a tag.
use Rattle.std.proofs.Common.{◌≡◌, ℕ, Bool, true, false, List, Some, None, refl, sym, ap, subst}
use Rattle.std.proofs.lemmas.Bool.{cond_both, eqb-false, eqb-true, false_from_ne_true}
use Rattle.std.proofs.{Common.◌∙◌, Common.arith, lemmas.Bool.Decides.nat_tests}
use Rattle.std.specs.{Prelude.Option, Prelude.IfSome, Prelude.nat_eq, Prelude.if◌then◌else◌}
use Rattle.std.specs.{Str.bytes_eq, Cmp.Lexicographic.bytes_decides, Option.option_map, FinMap.get}
use Rattle.std.specs.{HashMap.HashMap, declared.string.String.String, Cmp.both_ways}
use Rattle.dnssec_key.specs.{Key.KeyParts, RollTable.after_early_end, RollTable.after_end}
use Rattle.dnssec_key.specs.declared.roll.{Half.Half, PhaseEnd.PhaseEnd}
use Rattle.dnssec_key.specs.{Setters.Setting, Setters.set_by, declared.roll.RollType.RollType}
use Rattle.dnssec_zone.specs.{Inner.Entries.IsThere, Inner.Tags.TagsAgree, Keys.Keys, Keys.has_tag}
use Rattle.dnssec_zone.specs.{Keys.keys_in_map, Keys.TagsApart}
use Rattle.dnssec_zone.proofs.Counted.{count-changed, some-alike, some_key-counted}
use Rattle.dnssec_zone.proofs.Quantified.{some_key-found, some_key-none}
use Rattle.dnssec_zone.proofs.Walks.{IsWalked, get-walked}

-- a change at some references keeps the tags
pub kept_at : (f : KeyParts → KeyParts) → ((k : KeyParts) → (f k).key_tag ≡ k.key_tag) →
    (b : Bool) (k : KeyParts) → (if b then f k else k).key_tag ≡ k.key_tag
kept_at f keeps b k = grind (arith, keeps)

pub kept_set : (setting : Setting) (k : KeyParts) → (set_by setting k).key_tag ≡ k.key_tag
kept_set setting k = grind arith

pub kept_unmarked : (roll : RollType) (as_old as_new : Bool) (k : KeyParts)
    → (after_early_end roll as_old as_new k).key_tag ≡ k.key_tag
kept_unmarked roll as_old as_new k = grind arith

pub kept_ended : (end : PhaseEnd) (roll : RollType) (half : Half) (now : ℕ) (k : KeyParts)
    → (after_end end roll half now k).key_tag ≡ k.key_tag
kept_ended end roll half now k = grind arith

-- a value that f gives of what was there
pub mapped : (o : Option KeyParts) (f : KeyParts → KeyParts) (l : KeyParts)
    → option_map f o ≡ Some l
    → (k : KeyParts) × (o ≡ Some k) × (f k ≡ l)
mapped o f l e = grind arith

-- ---- whether some key has a tag

-- it is so if and only if a look-up finds one
has_tag-found : (keys : Keys) (t : ℕ) → has_tag t keys ≡ true → IsThere keys t
has_tag-found keys t h = let o = some_key-found (λ k. nat_eq k.key_tag t) keys h in
    (o.0, o.1, o.2, eqb-true o.1.key_tag t o.3)

has_tag-there : (keys : Keys) (t : ℕ) → IsThere keys t → has_tag t keys ≡ true
has_tag-there keys t o =
    grind (arith, nat_tests, some_key-none (λ k. nat_eq k.key_tag t) keys o.0 o.1)

-- an index that says something else for a reason
said-through : (f : Bool → Bool) (o p : Option Bool) (a b : Bool) → p ≡ option_map f o → b ≡ f a
    → IfSome o (λ x. x ≡ a) → IfSome p (λ x. x ≡ b)
said-through f o p a b after is old = grind arith

-- ---- keys are changed, and keep their tags

module _ (m n : Keys) (f : List ℕ → KeyParts → KeyParts)
    (keeps : (q : List ℕ) (k : KeyParts) → (f q k).key_tag ≡ k.key_tag)
    (is : (q : List ℕ) → get n q ≡ option_map (f q) (get m q)) where
  pub there-mapped : (t : ℕ) → (o : IsThere m t)
      → (l : KeyParts) × (get n o.0 ≡ Some l) × (l.key_tag ≡ t)
  there-mapped t o = (f o.0 o.1, is o.0 ∙ ap (option_map (f o.0)) o.2, keeps o.0 o.1 ∙ o.3)

  pub apart-mapped : TagsApart m → TagsApart n
  apart-mapped old q r k l e d same = grind (arith, keeps, is q, is r, old q r)

  pub TagsAgree-mapped : (has : ℕ → Option Bool) → TagsAgree has m → TagsAgree has n
  TagsAgree-mapped has old = record {
    says = λ t. subst (λ b. IfSome (has t) (λ x. x ≡ b)) (both_ways (has_tag t m) (has_tag t n)
        (λ h. let o = has_tag-found m t h in let l = there-mapped t o in
        has_tag-there n t (o.0, l.0, l.1, l.2))
        (λ h. let o = has_tag-found n t h in
        let b = mapped _ (f o.0) o.1 (sym (is o.0) ∙ o.2) in
        has_tag-there m t (o.0, b.0, b.1, grind (arith, keeps o.0 b.0, b.2, o.3))))
        (old.says t);
    apart = apart-mapped old.apart;
  }

-- a walk puts each key through a step that keeps its tag
pub tags-walked : {Y S : Type 0} {step : KeyParts → KeyParts} {m n : HashMap (String Y) KeyParts S}
    → IsWalked step m n → ((k : KeyParts) → (step k).key_tag ≡ k.key_tag)
    → (has : ℕ → Option Bool) → TagsAgree has (keys_in_map m) → TagsAgree has (keys_in_map n)
tags-walked {step} {m} {n} walk keeps = TagsAgree-mapped (keys_in_map m) (keys_in_map n)
    (λ q. step) (λ q. keeps) (get-walked walk refl)

-- the key at a reference is changed, and keeps its tag
pub tags-changed : (m n : Keys) (r : List ℕ) (f : KeyParts → KeyParts)
    → ((k : KeyParts) → (f k).key_tag ≡ k.key_tag)
    → ((q : List ℕ) → get n q ≡ option_map (λ k. if bytes_eq r q then f k else k) (get m q))
    → (has : ℕ → Option Bool) → TagsAgree has m → TagsAgree has n
tags-changed m n r f keeps = TagsAgree-mapped m n (λ q k. if bytes_eq r q then f k else k)
    (λ q k. kept_at f keeps (bytes_eq r q) k)

-- ---- a key goes

module _ (m n : Keys) (r : List ℕ)
    (is : (q : List ℕ) → get n q ≡ (if bytes_eq r q then None else get m q)) where
  pub apart-removed : TagsApart m → TagsApart n
  apart-removed old q s k l e d same = grind (arith, is q, is s, old q s k l)

  module _ (x : KeyParts) (found : get m r ≡ Some x) where
    -- a key with another tag stays
    pub there-removed : (t : ℕ) → nat_eq x.key_tag t ≡ false → (o : IsThere m t)
        → get n o.0 ≡ Some o.1
    there-removed t differs o = grind (arith, bytes_decides, nat_tests, is o.0)

    -- its tag goes with it
    has_tag-removed : TagsApart m → (t : ℕ)
        → has_tag t n ≡ (if nat_eq x.key_tag t then false else has_tag t m)
    has_tag-removed apart t = cond_both (nat_eq x.key_tag t) false (has_tag t m)
        (λ b. has_tag t n ≡ b)
        (λ same. false_from_ne_true _ (λ h.
        let f = has_tag-found n t h in
        grind (arith, bytes_decides, nat_tests, is f.0, apart r f.0 x f.1 found)))
        (λ differs. some-alike (λ k. nat_eq k.key_tag t) m n r None is
        (rw found differs))

    pub TagsAgree-removed : (has left : ℕ → Option Bool)
        → ((t : ℕ) → left t ≡ option_map (λ b. if nat_eq x.key_tag t then false else b) (has t))
        → TagsAgree has m → TagsAgree left n
    TagsAgree-removed has left gone old = record {
      says = λ t. said-through (λ b. if nat_eq x.key_tag t then false else b) (has t) (left t) _ _
          (gone t) (has_tag-removed old.apart t) (old.says t);
      apart = apart-removed old.apart;
    }

-- ---- a key comes in, with a tag that no key has

module _ (m n : Keys) (r : List ℕ) (x : KeyParts) (absent : get m r ≡ None)
    (is : (q : List ℕ) → get n q ≡ (if bytes_eq r q then Some x else get m q)) where
  module _ (free : has_tag x.key_tag m ≡ false) where
    other_tag : (q : List ℕ) (k : KeyParts) → get m q ≡ Some k → k.key_tag ≡ x.key_tag → ⊥
    other_tag q k e same = eqb-false k.key_tag x.key_tag
        (some_key-none (λ k. nat_eq k.key_tag x.key_tag) m q k free e) same

    pub apart-added : TagsApart m → TagsApart n
    apart-added old q s k l e d same =
        grind (arith, bytes_decides, is q, is s, other_tag q k, other_tag s l, old q s k l)

    has_tag-added : (t : ℕ) → has_tag t n ≡ (if nat_eq x.key_tag t then true else has_tag t m)
    has_tag-added t = grind (
      arith,
      nat_tests,
      absent,
      count-changed (λ q k. nat_eq k.key_tag t) m n r (Some x) is,
      some_key-counted (λ k. nat_eq k.key_tag t) n,
      some_key-counted (λ k. nat_eq k.key_tag t) m,
    )

    pub TagsAgree-added : (has more : ℕ → Option Bool)
        → ((t : ℕ) → more t ≡ option_map (λ b. if nat_eq x.key_tag t then true else b) (has t))
        → TagsAgree has m → TagsAgree more n
    TagsAgree-added has more gains old = record {
      says = λ t. said-through (λ b. if nat_eq x.key_tag t then true else b) (has t) (more t) _ _
          (gains t) (has_tag-added t) (old.says t);
      apart = apart-added old.apart;
    }
