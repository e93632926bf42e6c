-- What the changes of a call make of the sets of a run.
use Rattle.dnssec_judge.proofs.Base.{[], ℕ, ◌<◌, ◌==◌, ◌∙◌, ◌∷◌, ◌≡◌, add_at, ap, AreNumbered}
use Rattle.dnssec_judge.proofs.Base.{arith, Change, Contains, count, Dnskey, Ds, Entry, false}
use Rattle.dnssec_judge.proofs.Base.{has_after, has_bit, Id, IsAfter, IsChanged, IsTable, Keys}
use Rattle.dnssec_judge.proofs.Base.{last_set, latest, LeadTo, length, List, list_at, Means}
use Rattle.dnssec_judge.proofs.Base.{MeansSet, more, next_set, None, not, not_from_Decides}
use Rattle.dnssec_judge.proofs.Base.{Numbered, Position, position-new, position_at, position_of}
use Rattle.dnssec_judge.proofs.Base.{refl, same-set, same_from_decides, SetKind, Shown, Some, Span}
use Rattle.dnssec_judge.proofs.Base.{spans_of, Stands, subst, suc, sym, Tiles, true, true≢false}
use Rattle.dnssec_judge.proofs.Base.{Watches, Window, ZoneSigners}
use Rattle.dnssec_judge.proofs.{OneByOne.Back.low, OneByOne.Windows.none-means}
use Rattle.dnssec_judge.specs.{Adds.AreAfter, Inner.Window.IsTaken, declared.sets.adds.Table.Table}
use Rattle.dnssec_run.proofs.Leads.{changed, has-add, leads}
use Rattle.dnssec_run.specs.Changes.{has_add}
use Rattle.std.specs.{List.list_any, Prelude.Bool}
use Rattle.dnssec_run.specs.declared.lists.Shown.TheVariants as lists

-- the last span is of the last position
latest-is : (at : ℕ → Numbered) (n : ℕ) (ss : List Span) → Tiles at n ss → latest ss ≡ at n
latest-is at n [] h = absurd h
latest-is at n (s ∷ []) h = h.1 n h.0 (omega arith)
latest-is at n (s ∷ t ∷ ss) h = latest-is at n (t ∷ ss) h.2

-- ---- the bits of a list

-- an entry comes next, to which the changes lead
module _ (add : Id → ℕ) (es : List Entry) (e : Entry) (cs : List Change)
    (lead : LeadTo add cs (position_at es (length es)) (position_of e)) (t : Table)
    (table : IsTable t) (numbered : AreNumbered t cs) where
  abbrev p : Position
  p = position_at es (length es)

  abbrev q : Position
  q = position_of e

  abbrev key : Keys
  key = (more es e, t, add)

  stands : (list : Shown) (k : Id) (n : ℕ) → Contains (list_at list q) k → 0 < add_at t n
      → add k ≡ add_at t n → Stands key n k
  stands list k n there counts is = record {
    counts = counts;
    added = is;
    shown = (
      list,
      suc (length es),
      omega (arith, count es e),
      subst (λ p. Contains (list_at list p) k) (sym (position-new es e)) there,
    );
  }

  module _ (list : Shown) (old new : List ℕ) (h : Means key old (list_at list p))
      (after : AreAfter t list cs old new) where
    -- a number is in the bits if the list has the key of its add
    old-says : (n : ℕ) → has_bit old n ≡ has_add add (list_at list p) (add_at t n)
    old-says n = same_from_decides (has_bit old n) _ (
      λ b. (let m = h.members n b in (m.0, m.1, m.2.added)),
      λ s. (let m = h.all s.0 s.1 in subst (λ i. has_bit old i ≡ true)
          (table.apart m.0 n m.2.counts (sym m.2.added ∙ s.2)) m.1),
    ) (has-add add (list_at list p) (add_at t n))

    new-says : (n : ℕ) → has_bit new n ≡ has_add add (list_at list q) (add_at t n)
    new-says n = after n ∙ ap (has_after list cs (add_at t n)) (old-says n)
        ∙ leads add cs p q lead list (add_at t n)

    -- each key has its number
    number-of : (k : Id) → Contains (list_at list q) k → (b : Bool)
        → list_any (λ c. c.added == add k) cs ≡ b
        → (n : ℕ) × (0 < add_at t n) × (add k ≡ add_at t n)
    number-of k there true e =
        let s = (changed cs (add k)).0 e in let n = numbered s.0 s.1 in
        (n.1.0, omega (arith, n.0, n.1.1), sym s.2 ∙ sym n.1.1)
    number-of k there false e =
        let was = sym (lead.stays list (add k) (λ c at is.
        not_from_Decides _ (changed cs (add k)) e (c, at, is)))
        ∙ (has-add add (list_at list q) (add k)).1 (k, there, refl) in
        let s = (has-add add (list_at list p) (add k)).0 was in let m = h.all s.0 s.1 in
        (m.0, m.2.counts, sym s.2 ∙ m.2.added)

    list-means : Means key new (list_at list q)
    list-means = record {
      members = λ n b.
          (let s = (has-add add (list_at list q) (add_at t n)).0 (sym (new-says n) ∙ b) in
          let m = number-of s.0 s.1 _ refl in
          (s.0, s.1, stands list s.0 n s.1 (omega (arith, m.1, m.2, s.2)) s.2));
      all = λ k there.
          (let n = number-of k there _ refl in (
            n.0,
            new-says n.0 ∙ (has-add add (list_at list q) (add_at t n.0)).1 (k, there, n.2),
            stands list k n.0 there n.1 n.2,
          ));
    }

  -- ---- the set of a kind

  means-after : (kind : SetKind) (old new : Numbered) → MeansSet key old (last_set es kind)
      → IsAfter t kind cs old new → MeansSet key new (next_set e kind)
  means-after Ds old new h after = (
    list-means lists.Ds old.0 new.0 h.0 after.0,
    subst (λ words. Means key words []) (sym after.1) (none-means key),
  )
  means-after Dnskey old new h after = (
    list-means lists.Dnskey old.0 new.0 h.0 after.0,
    list-means lists.DnskeySigners old.1 new.1 h.1 after.1,
  )
  means-after ZoneSigners old new h after = (
    list-means lists.ZoneSigners old.0 new.0 h.0 after.0,
    subst (λ words. Means key words []) (sym after.1) (none-means key),
  )

  -- a window takes the set, if it is another
  pub takes-changes : (kind : SetKind) (at : ℕ) (old new : Window) (is_other : Bool)
      → IsChanged t kind cs at old new is_other → Watches es kind (length es) key old
      → IsTaken key (last_set es kind) (next_set e kind) at old new
      × (is_other ≡ false → next_set e kind ≡ last_set es kind)
  takes-changes kind at old new true changed h = (
    record {
      news = Some changed.set;
      brings = (
        means-after kind _ changed.set (h.means (length es) (low es kind _ key old h) (omega arith))
            (subst (λ set. IsAfter t kind cs set changed.set)
            (latest-is h.numbered (length es) (spans_of old) h.spans)
            (changed.after refl table numbered)),
        lead.same kind ∙ ap not (sym changed.is),
      );
      kept = changed.kept;
      spans = changed.spans;
    },
    λ e. absurd (true≢false e),
  )
  takes-changes kind at old new false changed h =
      let same = sym ((same-set (last_set es kind) (next_set e kind)).0
      (lead.same kind ∙ ap not (sym changed.is))) in (
        record { news = None; brings = same; kept = changed.kept; spans = changed.spans },
        λ e. same,
      )
