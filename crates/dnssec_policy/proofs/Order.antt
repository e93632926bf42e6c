-- What is said is no later than each thing that there is to say.
use Rattle.std.proofs.Common.{◌≡◌, ℕ, ◌≤◌, Bool, true, false, List, [], ◌∷◌, refl, sym, ap, subst}
use Rattle.std.proofs.Common.{◌∙◌, arith, inl, inr}
use Rattle.std.proofs.lemmas.Bool.{cases_Bool, or_parts, true≢false}
use Rattle.std.specs.Prelude.{if◌then◌else◌, ◌||◌, ◌&&◌, nat_lt, nat_eq}
use Rattle.std.specs.List.{fold, list_any}
use Rattle.dnssec_key.specs.declared.roll.RollType.{RollType}
use Rattle.std.proofs.{Common.Some, Common.cond, lemmas.Option.same_Some}
use Rattle.std.specs.{Cmp.Lexicographic.slice_cmp, Ordering.nat_cmp, Ordering.is_eq}
use Rattle.std.specs.FinMap.{entries, find}
use Rattle.dnssec_key.specs.Key.{KeyParts}
use Rattle.dnssec_zone.proofs.Quantified.{same_key}
use Rattle.dnssec_zone.specs.Rolls.{all_rolls, phase_of, same_roll}
use Rattle.dnssec_keyset.proofs.{Laws.same-is}
use Rattle.dnssec_key.specs.declared.roll.RollType.TheVariants.{CskRoll}
use Rattle.dnssec_policy.specs.declared.policy.{Policy.Policy, Scheme.Scheme}
use Rattle.dnssec_policy.specs.declared.policy.Scheme.TheVariants.{Split, SingleType}
use Rattle.dnssec_policy.specs.Keys.{ksk_roll, rolls_of, zsk_roll}
use Rattle.dnssec_policy.specs.Next.{change, deletion, deletions, next_of, phase_next, renewal}
use Rattle.dnssec_policy.specs.{Next.renewals, Next.rolls_next, Next.task_of, Stuck.stuck}
use Rattle.dnssec_policy.specs.Stuck.{stuck_of}
use Rattle.dnssec_policy.specs.Todo.{Todo, Rest, is_sooner, moment_of, rank, sooner}
use Rattle.dnssec_policy.specs.View.{View}

-- the second is not more urgent than the first
abbrev pub NotLater : Todo → Todo → Type 0
NotLater a b = is_sooner a b ≡ false

-- ---- by numbers

abbrev pub before : ℕ → ℕ → ℕ → ℕ → Bool
before r m s n = nat_lt s r || nat_eq s r && nat_lt n m

onward : (r m s n t o : ℕ) → before r m s n ≡ false → before s n t o ≡ false
    → before r m t o ≡ false
onward r m s n t o a b = grind (arith, or_parts)

itself : (r m : ℕ) → before r m r m ≡ false
itself r m = grind (arith, or_parts)

other-way : (r m s n : ℕ) → before r m s n ≡ true → before s n r m ≡ false
other-way r m s n t = grind (arith, or_parts)

no-less : (r m s n : ℕ) → before r m s n ≡ false → r ≤ s
no-less r m s n e = grind (arith, or_parts)

pub no-later : (r m n : ℕ) → before r m r n ≡ false → m ≤ n
no-later r m n e = grind (arith, or_parts)

-- ---- of things to do

pub follows : (a b c : Todo) → NotLater a b → NotLater b c → NotLater a c
follows a b c x y =
    onward (rank a) (moment_of a) (rank b) (moment_of b) (rank c) (moment_of c) x y

of-first : (a b : Todo) (t : Bool) → is_sooner a b ≡ t → NotLater (if t then b else a) a
of-first a b true is = other-way (rank a) (moment_of a) (rank b) (moment_of b) is
of-first a b false is = itself (rank a) (moment_of a)

of-second : (a b : Todo) (t : Bool) → is_sooner a b ≡ t → NotLater (if t then b else a) b
of-second a b true is = itself (rank b) (moment_of b)
of-second a b false is = is

reflexive : (a : Todo) → NotLater a a
reflexive a = itself (rank a) (moment_of a)

first : (a b : Todo) → NotLater (sooner a b) a
first a b = of-first a b (is_sooner a b) refl

second : (a b : Todo) → NotLater (sooner a b) b
second a b = of-second a b (is_sooner a b) refl

-- no later than what the first of two is no later than
left : (a b x : Todo) → NotLater a x → NotLater (sooner a b) x
left a b x le = follows (sooner a b) a x (first a b) le

-- what is the best of all is no later than what was the best before
kept : {A : Type 0} (says : A → Todo) (xs : List A) (t : Todo)
    → NotLater (fold (λ best x. sooner best (says x)) t xs) t
kept says [] t = reflexive t
kept says (x ∷ xs) t =
    let next = sooner t (says x) in
    follows (fold (λ best x. sooner best (says x)) next xs) next t (kept says xs next)
    (first t (says x))

-- ---- of the rolls

pub among : (roll : RollType) → list_any (same_roll roll) all_rolls ≡ true
among roll = grind arith

module _ (v : View) where
  abbrev says : RollType → Todo
  says roll = phase_next v roll (phase_of v.set.rolls roll)

  abbrev pub best_of : Todo → List RollType → Todo
  best_of best rs =
      fold (λ best roll. sooner best (phase_next v roll (phase_of v.set.rolls roll))) best rs

  best-said : (rs : List RollType) (t : Todo) (roll : RollType)
      → list_any (same_roll roll) rs ≡ true → NotLater (best_of t rs) (says roll)
  best-said [] t roll e = absurd (true≢false (sym e))
  best-said (r ∷ rs) t roll e = elim (cases_Bool (same_roll roll r)) [
    | inl same ↦ subst (λ x. NotLater (best_of (sooner t (says r)) rs) (says x))
        (sym (same-is roll r same))
        (follows (best_of (sooner t (says r)) rs) (sooner t (says r)) (says r)
        (kept says rs (sooner t (says r))) (second t (says r)))
    | inr apart ↦ best-said rs (sooner t (says r)) roll
        (sym (ap (λ b. b || list_any (same_roll roll) rs) apart) ∙ e)
  ]

  -- what each roll has to say
  rolls-said : (t : Todo) (roll : RollType) → NotLater (best_of t all_rolls) (says roll)
  rolls-said t roll = best-said all_rolls t roll (among roll)

-- ---- of all that there is to say

module _ (policy : Policy) (v : View) where
  abbrev rolls : Todo
  rolls = rolls_next v

  abbrev gone : Todo
  gone = deletions policy v

  abbrev other : Todo
  other = change policy v

  abbrev renewed : Todo
  renewed = renewals policy v policy.scheme

  abbrev cause : Todo
  cause = stuck (stuck_of policy v)

  task-said : (x : Todo) → NotLater (task_of policy v) x → NotLater (next_of policy v) x
  task-said x le = left (task_of policy v) cause x le

  pub cause-said : NotLater (next_of policy v) (stuck (stuck_of policy v))
  cause-said = second (task_of policy v) cause

  -- the rolls and the deletions
  early-said : (x : Todo) → NotLater (sooner rolls gone) x → NotLater (next_of policy v) x
  early-said x le = task-said x
      (left (sooner (sooner rolls gone) other) renewed x (left (sooner rolls gone) other x le))

  pub roll-said : (roll : RollType)
      → NotLater (next_of policy v) (phase_next v roll (phase_of v.set.rolls roll))
  roll-said roll =
      let x = phase_next v roll (phase_of v.set.rolls roll) in
      early-said x (left rolls gone x (rolls-said v Rest roll))

  deletions-said : NotLater (next_of policy v) gone
  deletions-said = early-said gone (second rolls gone)

  -- what each key has to say
  abbrev says-gone : List ℕ × KeyParts → Todo
  says-gone e = deletion policy v e.0 e.1

  abbrev best_key : Todo → List (List ℕ × KeyParts) → Todo
  best_key best es = fold (λ best e. sooner best (says-gone e)) best es

  keys-said : (es : List (List ℕ × KeyParts)) (t : Todo) (q : List ℕ) (k : KeyParts)
      → find (slice_cmp nat_cmp) q es ≡ Some k → NotLater (best_key t es) (deletion policy v q k)
  keys-said [] t q k f = absurd (cc)
  keys-said (e ∷ es) t q k f =
      let x = deletion policy v e.0 e.1 in
      let next = sooner t x in
      elim (cases_Bool (is_eq (slice_cmp nat_cmp q e.0))) [
        | inl same ↦
            let one : q ≡ e.0 = same_key q e.0 same in
            let key : e.1 ≡ k = same_Some e.1 k
            (sym (ap (λ b. cond b (Some e.1) (find (slice_cmp nat_cmp) q es)) same) ∙ f) in
            let le = follows (best_key next es) next x (kept says-gone es next) (second t x) in
            subst (λ q. NotLater (best_key next es) (deletion policy v q k)) (sym one)
            (subst (λ k. NotLater (best_key next es) (deletion policy v e.0 k)) key le)
        | inr apart ↦ keys-said es next q k
            (sym (ap (λ b. cond b (Some e.1) (find (slice_cmp nat_cmp) q es)) apart) ∙ f)
      ]

  pub entry-said : (q : List ℕ) (k : KeyParts)
      → find (slice_cmp nat_cmp) q (entries v.set.keys) ≡ Some k
      → NotLater (next_of policy v) (deletion policy v q k)
  entry-said q k f = follows (next_of policy v) gone (deletion policy v q k)
      deletions-said (keys-said (entries v.set.keys) Rest q k f)

  pub change-said : NotLater (next_of policy v) other
  change-said = task-said other
      (left (sooner (sooner rolls gone) other) renewed other (second (sooner rolls gone) other))

  pub renewals-said : NotLater (next_of policy v) renewed
  renewals-said = task-said renewed (second (sooner (sooner rolls gone) other) renewed)

  -- a roll by which the scheme renews keys
  among-scheme : (scheme : Scheme) (roll : RollType)
      → list_any (same_roll roll) (rolls_of scheme) ≡ true
      → NotLater (renewals policy v scheme) (renewal policy v roll)
  among-scheme (Split k z) roll e = elim (cases_Bool (same_roll roll (ksk_roll k))) [
    | inl t ↦ subst (λ r. NotLater (renewals policy v (Split k z)) (renewal policy v r))
        (sym (same-is roll (ksk_roll k) t))
        (first (renewal policy v (ksk_roll k)) (renewal policy v (zsk_roll z)))
    | inr f ↦
        let t : same_roll roll (zsk_roll z) ≡ true = grind (arith, or_parts) in
        subst (λ r. NotLater (renewals policy v (Split k z)) (renewal policy v r))
        (sym (same-is roll (zsk_roll z) t))
        (second (renewal policy v (ksk_roll k)) (renewal policy v (zsk_roll z)))
  ]
  among-scheme SingleType roll e =
      let t : same_roll roll CskRoll ≡ true = grind (arith, or_parts) in
      subst (λ r. NotLater (renewals policy v SingleType) (renewal policy v r))
      (sym (same-is roll CskRoll t)) (reflexive (renewal policy v CskRoll))

  pub renewal-said : (roll : RollType)
      → list_any (same_roll roll) (rolls_of policy.scheme) ≡ true
      → NotLater (next_of policy v) (renewal policy v roll)
  renewal-said roll e = follows (next_of policy v) renewed (renewal policy v roll) renewals-said
      (among-scheme policy.scheme roll e)

pub rank-le : (t x : Todo) → NotLater t x → rank t ≤ rank x
rank-le t x le = no-less (rank t) (moment_of t) (rank x) (moment_of x) le
