-- Changes that lead from what is published at one position to what is at another.
use Rattle.std.proofs.Common.{◌≡◌, ◌∙◌, ◌∷◌, [], ℕ, List, zero, suc, ap, arith, false, refl, sym}
use Rattle.std.proofs.Common.{true}
use Rattle.std.proofs.lemmas.Bool.{and_parts, false_from_ne_true, true≢false}
use Rattle.std.proofs.lemmas.Bool.Decides.{Decides-eqb, not_from_Decides}
use Rattle.std.proofs.lemmas.List.Elements.{All-contains}
use Rattle.std.proofs.lemmas.List.Folds.{Any-from_list_any, list_any-from_Any}
use Rattle.std.specs.Prelude.{◌&&◌, ◌==◌, Bool, if◌then◌else◌, not}
use Rattle.std.specs.{Bool.Decides, List.All, List.Contains, List.list_any}
use Rattle.std.specs.{BTreeSet.BTreeSet, BTreeSet.contains, Ordering.nat_cmp}
use Rattle.dnssec_run.specs.declared.between.AddLists.{AddLists}
use Rattle.dnssec_run.specs.declared.lists.{Change.Change, Shown.Shown}
use Rattle.dnssec_run.specs.declared.lists.Shown.TheVariants as lists
use Rattle.dnssec_run.specs.Between.{IsBetween, in_lists, lists_at}
use Rattle.dnssec_run.specs.Changes.{LeadTo, add_of, has_added, has_after, has_add, list_at}
use Rattle.dnssec_run.specs.Changes.{moves, moves_in}
use Rattle.dnssec_run.specs.{Lists.at_list, Origins.same_set, Origins.set_at, Published.Id}
use Rattle.dnssec_run.specs.Safe.{Position, SetKind, Ds, Dnskey, ZoneSigners}

-- a test finds a key that passes, if there is one
pub any-key : {X : Type 0} (p : X → Bool) (P : X → Type 0) → ((k : X) → Decides (p k) (P k))
    → (ids : List X) → Decides (list_any p ids) ((k : X) × Contains ids k × P k)
any-key p P h ids = (
  λ e. (let a = Any-from_list_any p ids e in (a.1, (a.0, a.2, a.3), (h a.1).0 a.4)),
  λ t. list_any-from_Any p ids (t.1.0, t.0, t.1.1, t.1.2, (h t.0).1 t.2),
)

pub of-each : (P : SetKind → Type 0) → P Ds → P Dnskey → P ZoneSigners → (kind : SetKind) → P kind
of-each P d k z Ds = d
of-each P d k z Dnskey = k
of-each P d k z ZoneSigners = z

-- ---- one key

-- a list has a key with an add, or not
pub has-add : (add : Id → ℕ) (ids : List Id) (a : ℕ)
    → Decides (has_add add ids a) ((k : Id) × Contains ids k × (add k ≡ a))
has-add add ids a =
    any-key (λ id. add id == a) (λ id. add id ≡ a) (λ id. Decides-eqb (add id) a) ids

-- what changes of a key say of a list, if all of them say so, or none is there and it was so
after-is : (list : Shown) (cs : List Change) (a : ℕ) (was is : Bool)
    → ((c : Change) → Contains cs c → c.added ≡ a → moves list c ≡ true → at_list c.shown list ≡ is)
    → (((c : Change) → Contains cs c → c.added ≡ a → moves list c ≡ true → ⊥) → was ≡ is)
    → has_after list cs a was ≡ is
after-is list [] a was is says none = none (λ c there. absurd (omega (arith, there.1)))
after-is list (c ∷ cs) a was is says none =
    after-is list cs a _ is (λ d there. says d (later d there))
    (λ others. by (moves list c && (c.added == a)) refl others)
  where
    later : (d : Change) → Contains cs d → Contains (c ∷ cs) d
    later d there = (suc there.0, omega (arith, there.1), there.2)

    by : (b : Bool) → (moves list c && (c.added == a)) ≡ b
        → ((d : Change) → Contains cs d → d.added ≡ a → moves list d ≡ true → ⊥)
        → (if b then at_list c.shown list else was) ≡ is
    by true e others = let both = and_parts _ _ e in
        says c (zero, omega arith, refl) ((Decides-eqb c.added a).0 both.1) both.0
    by false e others = none only
      where
        only : (d : Change) → Contains (c ∷ cs) d → d.added ≡ a → moves list d ≡ true → ⊥
        only d (zero, lt, same) at moved = true≢false (sym (λ i. moved' i && at' i) ∙ e)
          where
            moved' : moves list c ≡ true
            moved' = ap (moves list) same ∙ moved

            at' : (c.added == a) ≡ true
            at' = (Decides-eqb c.added a).1 (ap (λ (x : Change). x.added) same ∙ at)
        only d (suc i, lt, same) at moved = others d (i, omega (arith, lt), same) at moved

unmoved : (was is : Bool) → (if was then not is else is) ≡ false → was ≡ is
unmoved true true e = refl
unmoved true false e = absurd (true≢false e)
unmoved false true e = absurd (true≢false e)
unmoved false false e = refl

-- whether a change has the key of this add
pub changed : (cs : List Change) (a : ℕ)
    → Decides (list_any (λ c. c.added == a) cs) ((c : Change) × Contains cs c × (c.added ≡ a))
changed cs a = any-key (λ c. c.added == a) (λ c. c.added ≡ a) (λ c. Decides-eqb c.added a) cs

module _ (add : Id → ℕ) (cs : List Change) (p q : Position) (lead : LeadTo add cs p q)
    (list : Shown) (a : ℕ) where
  abbrev has : List Id → ℕ → Bool
  has = has_add add

  pub leads : has_after list cs a (has (list_at list p) a) ≡ has (list_at list q) a
  leads = after-is list cs a _ _
      (λ c there e moved. sym (lead.is list c there) ∙ ap (has (list_at list q)) e)
      (λ none. by none (list_any (λ c. c.added == a) cs) refl)
    where
      by : ((c : Change) → Contains cs c → c.added ≡ a → moves list c ≡ true → ⊥) → (b : Bool)
          → list_any (λ c. c.added == a) cs ≡ b
          → has (list_at list p) a ≡ has (list_at list q) a
      by none true e =
          let s = (changed cs a).0 e in let c = s.0 in
          ap (has (list_at list p)) (sym s.2) ∙ lead.was list c s.1
          ∙ unmoved _ _ (false_from_ne_true (moves list c) (none c s.1 s.2))
          ∙ sym (lead.is list c s.1) ∙ ap (has (list_at list q)) s.2
      by none false e = sym (lead.stays list a (λ c there is.
          not_from_Decides _ (changed cs a) e (c, there, is)))

-- ---- changes between two positions

shown-at : (p : Position) (list : Shown) (a : ℕ)
    → at_list (lists_at p a) list ≡ has_added (list_at list p) a
shown-at p lists.Ds a = refl
shown-at p lists.Dnskey a = refl
shown-at p lists.DnskeySigners a = refl
shown-at p lists.ZoneSigners a = refl

-- the changes lead on, if lists stay the same, except what moves
pub leads-on : (p q : Position) (before now : AddLists) (named : BTreeSet ℕ) (cs : List Change)
    → ((a : ℕ) → in_lists before a ≡ lists_at p a) → ((a : ℕ) → in_lists now a ≡ lists_at q a)
    → All (IsBetween before now) cs
    → ((a : ℕ) → contains nat_cmp named a ≡ list_any (λ c. c.added == a) cs)
    → ((list : Shown) (a : ℕ) → contains nat_cmp named a ≡ false
    → at_list (in_lists now a) list ≡ at_list (in_lists before a) list)
    → ((kind : SetKind) → same_set (set_at kind p) (set_at kind q)
    ≡ not (list_any (moves_in kind) cs)) → LeadTo add_of cs p q
leads-on p q before now named cs was is are said stays same = record {
  stays = λ list n no. sym (shown list n) ∙ stays list n (said n ∙ false_from_ne_true _ (λ e.
      (let s = (changed cs n).0 e in no s.0 s.1 s.2))) ∙ were list n;
  was = λ list c there. sym (were list c.added)
      ∙ ap (λ l. at_list l list) (sym (All-contains (IsBetween before now) cs c are there).was);
  is = λ list c there. sym (shown list c.added)
      ∙ ap (λ l. at_list l list) (sym (All-contains (IsBetween before now) cs c are there).shown);
  same = same;
}
  where
    were : (list : Shown) (a : ℕ) → at_list (in_lists before a) list ≡ has_added (list_at list p) a
    were list a = ap (λ s. at_list s list) (was a) ∙ shown-at p list a

    shown : (list : Shown) (a : ℕ) → at_list (in_lists now a) list ≡ has_added (list_at list q) a
    shown list a = ap (λ s. at_list s list) (is a) ∙ shown-at q list a
