-- Positions of a record: time, retirement, bases; and the side of the key chain.
use Rattle.std.proofs.Common.{[], ◌≡◌, ℕ, zero, suc, ◌≤◌, ◌⊎◌, inl, inr, refl, sym, Bool, true, ◌∷◌}
use Rattle.std.proofs.Common.{◌∙◌, false, arith, List, Some, ◌<◌}
use Rattle.std.proofs.lemmas.{Option.none-some, Option.same_Some, Bool.cases_lt, Bool.cases_Bool}
use Rattle.std.specs.List.{Contains}
use Rattle.dnssec_key.specs.declared.roll.RollType.{RollType}
use Rattle.dnssec_zone.proofs.Flags.{SideOf, Keys, Zone, affects}
use Rattle.dnssec_run.specs.Safe.{SetKind, position_at, base_below, time_at, IsGone, is_step}
use Rattle.dnssec_run.specs.Safe.{retires}
use Rattle.dnssec_run.specs.{declared.record.Entry.Entry, Published.Id}
use Rattle.dnssec_run.proofs.Chain.Tale.{Tale}
use Rattle.dnssec_run.proofs.Chain.Flags.{SideSet, Shared, Own, kind_on, first_set, second_set}
use Rattle.dnssec_run.proofs.Chain.Flags.{switches}

pub time_grows : (es : List Entry) (n : ℕ) → time_at es n ≤ time_at es (suc n)
unfolding time_at
time_grows es n = omega arith

pub time_mono : (es : List Entry) (m n : ℕ) → m ≤ n → time_at es m ≤ time_at es n
time_mono es m zero le = let e : m ≡ zero = omega arith in rw e (omega arith)
time_mono es m (suc n) le = elim (cases_lt m (suc n)) [
  | inl lt ↦ omega (arith, time_mono es m n (omega arith), time_grows es n)
  | inr ge ↦ let e : m ≡ suc n = omega arith in rw e (omega arith)
]

pub time_now : (es : List Entry) (n m : ℕ) → (position_at es n).moment ≡ Some m → m ≤ time_at es n
unfolding time_at position_at
time_now es zero m e = absurd (cc)
time_now es (suc n) m e = rw e (omega arith)

pub retired_stays : (es : List Entry) (kind : SetKind) (q n : ℕ) → IsGone es kind q n
    → IsGone es kind q (suc n)
retired_stays es kind q n h = record {
  at = h.at;
  roll = h.roll;
  second = h.second;
  ttl = h.ttl;
  moment = h.moment;
  base = h.base;
  within = omega (arith, h.within);
  mark = h.mark;
  kind_is = h.kind_is;
  base_is = h.base_is;
  above = h.above;
  moment_is = h.moment_is;
  over = omega (arith, h.over, time_grows es n);
}

-- the base of a roll after one more position
pub base_same : (es : List Entry) (r : RollType) (n : ℕ) → is_step r (position_at es n).mark ≡ false
    → base_below es r (suc n) ≡ base_below es r n
unfolding base_below
base_same es r n e = rw e refl

pub base_here : (es : List Entry) (r : RollType) (n : ℕ) → is_step r (position_at es n).mark ≡ true
    → base_below es r (suc n) ≡ Some n
unfolding base_below
base_here es r n e = rw e refl

-- what a report counts from lies below it, so the newest position is in no report
pub base-lies-below : (es : List Entry) (r : RollType) (n b : ℕ) → base_below es r n ≡ Some b
    → b < n
unfolding base_below
base-lies-below es r zero b e = absurd (none-some b e)
base-lies-below es r (suc n) b e = elim (cases_Bool (is_step r (position_at es n).mark)) [
  | inl t ↦ omega (arith, same_Some n b (sym (base_here es r n t) ∙ e))
  | inr t ↦ omega (arith, base-lies-below es r n b (sym (base_same es r n t) ∙ e))
]

pub never-gone-now : (es : List Entry) (kind : SetKind) (n : ℕ) → IsGone es kind n n → ⊥
never-gone-now es kind n h =
    omega (arith, h.within, h.above, base-lies-below es h.roll h.at h.base h.base_is)

-- the DS set of the position has no key of the family
abbrev pub Without : Tale → ℕ → Type 0
Without tale q = (id : Id) → tale.of id ≡ true → Contains (position_at tale.es q).ds id → ⊥

-- what the set of a position offers to a key: it holds the key, or as a DS set none of the family
abbrev pub Serving : Tale → SideOf → SideSet → ℕ → Id → Type 0
Serving tale Keys Shared q k = Contains (position_at tale.es q).dnskey k
    × Contains (position_at tale.es q).signers k
Serving tale Keys Own q k = Without tale q ⊎ Contains (position_at tale.es q).ds k
Serving tale Zone Shared q k = Contains (position_at tale.es q).dnskey k
Serving tale Zone Own q k = Contains (position_at tale.es q).zone k

pub first-retires : (sd : SideOf) (r : RollType) → affects sd r ≡ true
    → retires r false (kind_on sd (first_set r)) ≡ true
first-retires sd r own = grind arith

-- if the second set changes at the first wait, the second report retires it; else the first does
pub second-retires : (sd : SideOf) (r : RollType) → affects sd r ≡ true
    → retires r (switches sd r) (kind_on sd (second_set r)) ≡ true
second-retires sd r own = grind arith

-- the report of a half has retired each set that it counts for, below the roll's base
abbrev pub Retired : List Entry → ℕ → RollType → Bool → Type 0
Retired es n r second = (kind : SetKind) → retires r second kind ≡ true → (b : ℕ)
    → base_below es r (suc n) ≡ Some b → (q : ℕ) → q < b → IsGone es kind q (suc n)

pub nothing_in : {A : Type 0} (xs : List A) → ((x : A) → Contains xs x → ⊥) → xs ≡ []
nothing_in [] h = refl
nothing_in (x ∷ xs) h = absurd (h x (0, omega arith, refl))

pub not_in_empty : {A : Type 0} (x : A) → Contains [] x → ⊥
not_in_empty x h = omega (arith, h.1)
