-- What is stuck is said.
use Rattle.std.proofs.Common.{◌≡◌, ℕ, ◌≤◌, inl, inr, Bool, true, false, List, [], ◌∷◌, Option}
use Rattle.std.proofs.Common.{None, Some, refl, sym, ap, subst, ◌∙◌, arith}
use Rattle.std.proofs.lemmas.Bool.{cases_Bool, or_parts, true≢false}
use Rattle.std.specs.Prelude.{◌&&◌, ◌||◌, not, if◌then◌else◌}
use Rattle.std.specs.{List.fold, List.list_any, Option.option_or, FinMap.get, FinMap.values}
use Rattle.dnssec_key.specs.declared.roll.{RollState.RollState, RollType.RollType}
use Rattle.dnssec_key.specs.declared.roll.RollType.TheVariants.{AlgorithmRoll, CskRoll}
use Rattle.dnssec_key.specs.Key.{KeyParts}
use Rattle.dnssec_zone.specs.{Keys.some_key, Rolls.all_rolls, Rolls.phase_of, Rolls.same_roll}
use Rattle.dnssec_zone.proofs.Quantified.{some_key-none}
use Rattle.dnssec_keyset.proofs.Laws.{same-is}
use Rattle.dnssec_policy.specs.declared.policy.{Policy.Policy, Scheme.Scheme}
use Rattle.dnssec_policy.specs.declared.policy.Scheme.TheVariants.{Split, SingleType}
use Rattle.dnssec_policy.specs.declared.why.Why.{Why, TheVariants.Barred, TheVariants.OldKeyInUse}
use Rattle.dnssec_policy.specs.InProgress.{roll_next}
use Rattle.dnssec_policy.specs.Keys.{first_over, is_left_over, is_unwanted, ksk_roll, new_keys}
use Rattle.dnssec_policy.specs.Keys.{renewal_of, role_of, roles_of, rolls_of, wants_others}
use Rattle.dnssec_policy.specs.{Keys.zsk_roll, Laws.IsStuck, Laws.IsUnderWay, Laws.NothingIsSilent}
use Rattle.dnssec_policy.specs.Next.{at_moment, change, next_of, renewal, start_with}
use Rattle.dnssec_policy.specs.Stuck.{barred_if, is_over, is_reached, keys_why, may_begin}
use Rattle.dnssec_policy.specs.Stuck.{phase_why, renewal_why, renewals_why, rolls_why, starts_why}
use Rattle.dnssec_policy.specs.{Stuck.why_of, Todo.NotBefore, Todo.Todo, Todo.rank}
use Rattle.dnssec_policy.specs.View.{View}
use Rattle.dnssec_policy.proofs.{Ahead.start-rank, InTime.change-is, InTime.renewal-is}
use Rattle.dnssec_policy.proofs.Order.{NotLater, among, change-said, rank-le, renewal-said}

-- this cause, or the first one of these rolls
abbrev pub first_why : View → Option Why → List RollType → Option Why
first_why v why rs =
    fold (λ why roll. option_or why (phase_why v roll (phase_of v.set.rolls roll))) why rs

-- ---- some cause

abbrev Has : Option Why → Type 0
Has o = (why : Why) × (o ≡ Some why)

of-first : (a b : Option Why) → Has a → Has (option_or a b)
of-first None b h = let none = h.1 in absurd (cc)
of-first (Some why) b h = (why, refl)

of-second : (a b : Option Why) → Has b → Has (option_or a b)
of-second None b h = h
of-second (Some why) b h = (why, refl)

module _ (policy : Policy) (v : View) where
  -- ---- rolls

  has-kept : (rs : List RollType) (o : Option Why) → Has o → Has (first_why v o rs)
  has-kept [] o h = h
  has-kept (r ∷ rs) o h = has-kept rs (option_or o (phase_why v r (phase_of v.set.rolls r)))
      (of-first o (phase_why v r (phase_of v.set.rolls r)) h)

  has-found : (rs : List RollType) (o : Option Why) (roll : RollType)
      → list_any (same_roll roll) rs ≡ true → Has (phase_why v roll (phase_of v.set.rolls roll))
      → Has (first_why v o rs)
  has-found [] o roll e h = absurd (true≢false (sym e))
  has-found (r ∷ rs) o roll e h =
      let here = phase_why v r (phase_of v.set.rolls r) in
      elim (cases_Bool (same_roll roll r)) [
        | inl same ↦ has-kept rs (option_or o here) (of-second o here
            (subst (λ r. Has (phase_why v r (phase_of v.set.rolls r))) (same-is roll r same) h))
        | inr apart ↦ has-found rs (option_or o here) roll
            (sym (ap (λ b. b || list_any (same_roll roll) rs) apart) ∙ e) h
      ]

  roll-stuck : (roll : RollType) (phase : RollState) (why : Why)
      → phase_of v.set.rolls roll ≡ Some phase
      → why_of roll phase (roll_next v roll phase) ≡ Some why → IsStuck policy v
  roll-stuck roll phase why is said = of-first (rolls_why v)
      (option_or (starts_why policy v) (keys_why v))
      (has-found all_rolls None roll (among roll) (why, ap (phase_why v roll) is ∙ said))

  -- ---- starts

  start-stuck : Has (starts_why policy v) → IsStuck policy v
  start-stuck h = of-second (rolls_why v) (option_or (starts_why policy v) (keys_why v))
      (of-first (starts_why policy v) (keys_why v) h)

  barred : (roll : RollType) (wanted : Bool) → wanted ≡ true → may_begin v roll ≡ false
      → barred_if wanted v roll ≡ Some (Barred roll)
  barred roll wanted wants may =
      ap (λ (b : Bool). if b && not (may_begin v roll) then Some (Barred roll) else None) wants
      ∙ ap (λ (b : Bool). if not b then Some (Barred roll) else None) may

  by-rank : (x : Todo) → NotLater (next_of policy v) x → rank x ≤ 2
      → rank (next_of policy v) ≤ 2
  by-rank x le less = omega (arith, rank-le (next_of policy v) x le, less)

  changed : wants_others policy v.set.keys ≡ true → IsUnderWay policy v
  changed wants = elim (cases_Bool (may_begin v AlgorithmRoll)) [
    | inl begins ↦
        let news = new_keys policy v.set.keys (roles_of policy.scheme) in
        inl (by-rank (change policy v) (change-said policy v)
        (subst (λ t. rank t ≤ 2) (sym (change-is policy v begins wants))
        (start-rank v AlgorithmRoll news)))
    | inr bars ↦ inr (start-stuck (of-first
        (barred_if (wants_others policy v.set.keys) v AlgorithmRoll)
        (renewals_why policy v policy.scheme)
        (Barred AlgorithmRoll, barred AlgorithmRoll (wants_others policy v.set.keys) wants bars)))
  ]

  -- a roll by which the scheme renews keys
  among-scheme : (scheme : Scheme) (roll : RollType)
      → list_any (same_roll roll) (rolls_of scheme) ≡ true → Has (renewal_why policy v roll)
      → Has (renewals_why policy v scheme)
  among-scheme (Split k z) roll e h =
      let one = renewal_why policy v (ksk_roll k) in
      let two = renewal_why policy v (zsk_roll z) in
      elim (cases_Bool (same_roll roll (ksk_roll k))) [
        | inl t ↦ of-first one two (subst (λ r. Has (renewal_why policy v r))
            (same-is roll (ksk_roll k) t) h)
        | inr f ↦
            let t : same_roll roll (zsk_roll z) ≡ true = grind (arith, or_parts) in
            of-second one two (subst (λ r. Has (renewal_why policy v r))
            (same-is roll (zsk_roll z) t) h)
      ]
  among-scheme SingleType roll e h =
      let t : same_roll roll CskRoll ≡ true = grind (arith, or_parts) in
      subst (λ r. Has (renewal_why policy v r)) (same-is roll CskRoll t) h

  -- its moment, if it is reached
  reached : (o : Option ℕ) → is_reached v.now o ≡ true → (todo : Todo)
      → at_moment v.now o todo ≡ todo
  reached None e todo = absurd (true≢false (sym e))
  reached (Some moment) e todo = ap (λ (t : Bool). if t then todo else NotBefore moment) e

  unwanted : some_key (is_unwanted policy) v.set.keys ≡ true
      → wants_others policy v.set.keys ≡ true
  unwanted some = grind (arith, some, or_parts)

  renewed : (roll : RollType) → list_any (same_roll roll) (rolls_of policy.scheme) ≡ true
      → is_over policy v roll ≡ true → IsUnderWay policy v
  renewed roll e over = elim (cases_Bool (some_key (is_unwanted policy) v.set.keys)) [
    | inl some ↦ changed (unwanted some)
    | inr none ↦ elim (cases_Bool (may_begin v roll)) [
      | inl begins ↦
          let role = role_of roll in
          let news = new_keys policy v.set.keys (role ∷ []) in
          let start = start_with v roll news in
          let o = first_over role (renewal_of policy role) (values v.set.keys) in
          let said : renewal policy v roll ≡ start =
          renewal-is policy v roll begins none ∙ reached o over start in
          inl (by-rank (renewal policy v roll) (renewal-said policy v roll e)
          (subst (λ t. rank t ≤ 2) (sym said) (start-rank v roll news)))
      | inr bars ↦ inr (start-stuck (of-second
          (barred_if (wants_others policy v.set.keys) v AlgorithmRoll)
          (renewals_why policy v policy.scheme)
          (among-scheme policy.scheme roll e
          (Barred roll, barred roll (is_over policy v roll) over bars))))
    ]
  ]

  -- ---- keys

  left-over : (q : List ℕ) (k : KeyParts) → get v.set.keys q ≡ Some k
      → is_left_over v.set.rolls k ≡ true → IsStuck policy v
  left-over q k at left = elim (cases_Bool (some_key (is_left_over v.set.rolls) v.set.keys)) [
    | inl some ↦ of-second (rolls_why v) (option_or (starts_why policy v) (keys_why v))
        (of-second (starts_why policy v) (keys_why v) (
          OldKeyInUse,
          ap (λ (t : Bool). if t then Some OldKeyInUse else None) some,
        ))
    | inr none ↦ absurd (true≢false (sym left ∙ some_key-none (is_left_over v.set.rolls)
        v.set.keys q k none at))
  ]

pub outspoken : NothingIsSilent
outspoken policy v = record {
  rolls = roll-stuck policy v;
  change = changed policy v;
  renewals = renewed policy v;
  keys = left-over policy v;
}
