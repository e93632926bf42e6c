-- Windows know the same as those that they are a copy of, also by other keys, if those of their
-- sets keep their numbers.
use Rattle.dnssec_judge.proofs.Base.{ℕ, ◌||◌, ◌∙◌, ◌≡◌, ap, AreSame, arith, came, Dnskey, Ds, Entry}
use Rattle.dnssec_judge.proofs.Base.{floor_with, Id, in_window, is_in_use, Keys, length, List}
use Rattle.dnssec_judge.proofs.Base.{or_left, or_right, refl, SetKind, Stands, subst, sym, true}
use Rattle.dnssec_judge.proofs.Base.{add_at, IsTable, Judge, Knows}
use Rattle.dnssec_judge.proofs.Base.{Watches, Window, Windows, ZoneSigners}
use Rattle.dnssec_judge.proofs.OneByOne.Back.{watches-on}
use Rattle.dnssec_judge.specs.{Inner.Window.IsSame, Inner.Windows.KnowsBy}

-- a copy of a window watches the same
watches-same : (es : List Entry) (kind : SetKind) (key : Keys) (a b : Window) → IsSame a b
    → Watches es kind (length es) key a → Watches es kind (length es) key b
watches-same es kind key a b s w = record {
  floor = s.floor ∙ w.floor;
  dues = λ time le lt. (λ i. floor_with (s.floor i) (s.dues i) time) ∙ w.dues time le lt;
  numbered = w.numbered;
  spans = rw s.spans w.spans;
  begins = rw (s.spans, s.floor) w.begins;
  means = λ q ge le. w.means q (omega (arith, ge, s.floor)) le;
  came_at = ap came s.spans ∙ w.came_at;
}

-- numbers that are in no set may be given to other keys
pub knows-on : (es : List Entry) (key other : Keys) (a b : Windows) → AreSame a b
    → ((m : ℕ) (k : Id) → is_in_use a m ≡ true → Stands key m k → Stands other m k)
    → KnowsBy es key a → KnowsBy es other b
knows-on es key other a b s used h =
    let f = h.follows in let n = length es in
    let ds = watches-on es Ds n key other a.ds (λ m k b. used m k
    (or_left _ (in_window a.zone m) (or_left _ (in_window a.dnskey m) b))) f.ds in
    let keys = watches-on es Dnskey n key other a.dnskey (λ m k b. used m k
    (or_left _ (in_window a.zone m) (or_right (in_window a.ds m) _ b))) f.dnskey in
    let zone = watches-on es ZoneSigners n key other a.zone (λ m k b. used m k
    (or_right (in_window a.ds m || in_window a.dnskey m) _ b)) f.zone in
    subst (KnowsBy es other) (sym s.kept) (record {
      verdict = h.verdict;
      follows = record {
        at = f.at;
        steps = f.steps;
        time = f.time;
        fits = f.fits;
        ds = watches-same es Ds other a.ds b.ds s.ds ds;
        dnskey = watches-same es Dnskey other a.dnskey b.dnskey s.dnskey keys;
        zone = watches-same es ZoneSigners other a.zone b.zone s.zone zone;
        next = (rw s.ds.dues f.next.0, rw s.dnskey.dues f.next.1, rw s.zone.dues f.next.2);
        within = f.within;
        tested = record {
          keys = rw (s.ds.spans, s.dnskey.spans) f.tested.keys;
          zones = rw (s.dnskey.spans, s.zone.spans) f.tested.zones;
        };
      };
    })

is-same : (w : Window) → IsSame w w
is-same w = record { floor = refl; dues = refl; spans = refl }

pub are-same : (w : Windows) → AreSame w w
are-same w = record {
  kept = refl;
  ds = is-same w.ds;
  dnskey = is-same w.dnskey;
  zone = is-same w.zone;
}

same-back : {a b : Window} → IsSame a b → IsSame b a
same-back s = record { floor = sym s.floor; dues = sym s.dues; spans = sym s.spans }

pub are-same-back : {a b : Windows} → AreSame a b → AreSame b a
are-same-back {a} {b} s = record {
  kept = ap (λ (w : Windows). record w { ds = a.ds; dnskey = a.dnskey; zone = a.zone })
      (sym s.kept);
  ds = same-back s.ds;
  dnskey = same-back s.dnskey;
  zone = same-back s.zone;
}

-- one judge knows what another does, if it has the same of all
pub knows-too : (add : Id → ℕ) (es : List Entry) (a b : Judge) → AreSame a.windows b.windows
    → (IsTable a.numbers → IsTable b.numbers)
    → ((n : ℕ) → add_at b.numbers n ≡ add_at a.numbers n) → Knows add es a
    → Knows add es b
knows-too add es a b windows table same h = record {
  table = table h.table;
  windows = knows-on es (es, a.numbers, add) (es, b.numbers, add) a.windows b.windows windows
      (λ n k _ is. record {
        counts = omega (arith, is.counts, same n);
        added = is.added ∙ sym (same n);
        shown = is.shown;
      }) h.windows;
}
