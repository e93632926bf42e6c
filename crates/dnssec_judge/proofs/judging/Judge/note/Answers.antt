-- The changes are taken, if there are any.
use Rattle.dnssec_judge.proofs.Base.{[], ℕ, ◌<◌, ◌∙◌, ◌∷◌, ◌≡◌, add_at, arith, Change, Contains}
use Rattle.dnssec_judge.proofs.Base.{count, Dnskey, Ds, Entry, Id, is_in_use, Keys, LeadTo, length}
use Rattle.dnssec_judge.proofs.Base.{List, list_at, more, Position, position-kept, refl, same-set}
use Rattle.dnssec_judge.proofs.Base.{set_at, SetKind, subst, sym, true, Windows, ZoneSigners}
use Rattle.dnssec_judge.proofs.Base.{ap, AreApart, IsChanged, IsTable, Judge, TellsApart}
use Rattle.dnssec_judge.proofs.OneByOne.{Copies.are-same, Copies.knows-on, Followed.takes-none}
use Rattle.dnssec_judge.proofs.Run.{takes-changes}
use Rattle.dnssec_judge.specs.{Inner.Windows.KnowsBy, Numbers.IsShown}
use Rattle.dnssec_judge.specs.declared.sets.adds.Table.{Table}
use Rattle.dnssec_run.proofs.Leads.{of-each}
use Rattle.std.proofs.lemmas.Bool.{eqb-true, or_parts}
use Rattle.dnssec_judge.proofs.judging.Judge.note.Goals as goal

-- keys that were shown are shown in the longer record too
shown-more : (es : List Entry) (e : Entry) (k : Id) → IsShown es k → IsShown (more es e) k
shown-more es e k (list, m, le, there) = (
  list,
  m,
  omega (arith, le, count es e),
  subst (λ p. Contains (list_at list p) k) (sym (position-kept es e m le)) there,
)

-- what the windows know they know by the adds of the longer record, if keys in use keep numbers
known-more : (add : Id → ℕ) (es : List Entry) (e : Entry) (t u : Table) (w : Windows)
    → ((n : ℕ) → is_in_use w n ≡ true → 0 < add_at t n → add_at u n ≡ add_at t n)
    → KnowsBy es (es, t, add) w → KnowsBy es (more es e, u, add) w
known-more add es e t u w kept = knows-on es (es, t, add) (more es e, u, add) w w (are-same w)
    (λ n k used is. (let same = kept n used is.counts in record {
      counts = omega (arith, same, is.counts);
      added = is.added ∙ sym same;
      shown = shown-more es e k is.shown;
    }))

none-moves : {add : Id → ℕ} (cs : List Change) (p q : Position) → length cs ≡ 0
    → LeadTo add cs p q → (kind : SetKind) → set_at kind q ≡ set_at kind p
none-moves [] p q none lead kind =
    sym ((same-set (set_at kind p) (set_at kind q)).0 (lead.same kind))
none-moves (c ∷ cs) p q none lead kind = absurd (omega (arith, none))

-- the keys of a table are told apart, if those of the record are
are-apart : (add : Id → ℕ) (es : List Entry) (t : Table) → IsTable t → TellsApart add es
    → AreApart (es, t, add)
are-apart add es t table apart = record {
  apart = λ m n k a b. table.apart m n a.counts (sym a.added ∙ b.added);
  one = λ n k l a b. apart a.shown.0 b.shown.0 a.shown.1 b.shown.1 k l a.shown.3 b.shown.3
      (a.added ∙ sym b.added);
}

pub returns-then-is_empty-clause-ok : goal.returns-then-is_empty-clause-ok
returns-then-is_empty-clause-ok c add es e mark moment lead apart h =
    let j = c.args.self.now in let t = j.numbers in let key : Keys = (more es e, t, add) in
    let stays = none-moves c.args.changes.now _ _ (eqb-true (length c.args.changes.now) 0
    (sym c.is_empty.ensures ∙ c.if-is_empty.true)) lead in
    record {
      table = h.table;
      windows = c.in_ok-go_on.ensures es e key j.windows (record {
        has_mark = mark;
        has_moment = moment;
        here = omega (arith, c.in-Some.ensures, h.windows.follows.at);
      }) (are-apart add (more es e) t h.table apart) (record {
        kept = refl;
        ds = takes-none key j.windows.ds _ _ _ (stays Ds);
        dnskey = takes-none key j.windows.dnskey _ _ _ (stays Dnskey);
        zone = takes-none key j.windows.zone _ _ _ (stays ZoneSigners);
      }) (λ _. stays) (known-more add es e t t j.windows (λ n _ _. refl) h.windows);
    }

-- the table may have fewer keys
record IsLeft (old new : Judge) : Type 0 where
  windows : new.windows ≡ old.windows
  table : IsTable old.numbers → IsTable new.numbers
  used : (n : ℕ) → is_in_use old.windows n ≡ true
      → add_at new.numbers n ≡ add_at old.numbers n

pub returns-clause-ok : goal.returns-clause-ok
returns-clause-ok c add es e mark moment lead apart h =
    let j = c.args.self.now in let l = c.if-self-eq0.self in let cs = c.args.changes.now in
    let left : IsLeft j l = elim c.if-self-eq0.branch [
      | goal.then-self-eq0+in_ok-give_numbers_back b ↦
          let g = b.in_ok-give_numbers_back.ensures in rw b.self-is record {
            windows = ap (λ (j : Judge). j.windows) g.kept;
            table = g.table;
            used = g.in_use;
          }
      | goal.else-self-eq0 b ↦ rw b.self-is record {
        windows = refl;
        table = λ t. t;
        used = λ n e. refl;
      }
    ] in
    let t = c.give_all.new.self in let given = c.in_ok-give_all.ensures (left.table h.table) in
    let key : Keys = (more es e, t, add) in
    let known = known-more add es e j.numbers t j.windows (λ n used counts.
    (let same = left.used n used in
    given.1 n (omega (arith, same, counts)) ∙ same)) h.windows in
    let f = known.follows in let takes = takes-changes add es e cs lead t given.0 given.2 in
    let ds = takes Ds c.in-Some.at j.windows.ds c.change.new.self c.in_ok-ds.ds
    (subst (λ (w : Windows). IsChanged t Ds cs c.in-Some.at w.ds c.change.new.self
    c.in_ok-ds.ds) left.windows c.in_ok-ds.ensures) f.ds in
    let keys = takes Dnskey c.in-Some.at j.windows.dnskey c.change-2.new.self c.in_ok-dnskey.dnskey
    (subst (λ (w : Windows). IsChanged t Dnskey cs c.in-Some.at w.dnskey c.change-2.new.self
    c.in_ok-dnskey.dnskey) left.windows c.in_ok-dnskey.ensures) f.dnskey in
    let zone = takes ZoneSigners c.in-Some.at j.windows.zone c.change-3.new.self c.in_ok-zone.zone
    (subst (λ (w : Windows). IsChanged t ZoneSigners cs c.in-Some.at w.zone c.change-3.new.self
    c.in_ok-zone.zone) left.windows c.in_ok-zone.ensures) f.zone in
    record {
      table = given.0;
      windows = c.in_ok-go_on-2.ensures es e key j.windows (record {
        has_mark = mark;
        has_moment = moment;
        here = omega (arith, c.in-Some.ensures, h.windows.follows.at);
      }) (are-apart add (more es e) t given.0 apart) (record {
        kept = ap (λ (w : Windows). record w {
          ds = c.change.new.self;
          dnskey = c.change-2.new.self;
          zone = c.change-3.new.self;
        }) left.windows;
        ds = ds.0;
        dnskey = keys.0;
        zone = zone.0;
      })
          (λ none. (let two = or_parts _ c.in_ok-zone.zone none in
          let one = or_parts c.in_ok-ds.ds c.in_ok-dnskey.dnskey two.0 in
          of-each _ (ds.1 one.0) (keys.1 one.1) (zone.1 two.1))) known;
    }
