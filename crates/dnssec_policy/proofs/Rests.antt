-- Nothing is said only if all parts have nothing to say.
use Rattle.std.proofs.Common.{◌≡◌, ℕ, ◌≤◌, Bool, true, false, List, [], ◌∷◌, Option, None, Some}
use Rattle.std.proofs.Common.{refl, sym, ap, subst, ◌∙◌, arith}
use Rattle.std.proofs.lemmas.Bool.{or_parts, true≢false}
use Rattle.std.specs.Prelude.{if◌then◌else◌, nat_le, is_none, is_some, not, ◌&&◌}
use Rattle.std.specs.{List.list_any, FinMap.get, FinMap.get-entries, FinMap.values}
use Rattle.dnssec_key.specs.declared.roll.RollState.{RollState}
use Rattle.dnssec_key.specs.declared.roll.RollType.{RollType, TheVariants.AlgorithmRoll}
use Rattle.dnssec_key.specs.{declared.kind.KeyType.KeyType, Key.KeyParts, Key.all_states}
use Rattle.dnssec_key.specs.State.{is_stale}
use Rattle.dnssec_zone.specs.Keys.{some_key}
use Rattle.dnssec_zone.specs.Rolls.{Rolls, all_rolls, phase_of, same_roll}
use Rattle.dnssec_zone.specs.Start.{conflict, has_conflict, lists_kind, side_of, together}
use Rattle.dnssec_keyset.specs.Step as keyset
use Rattle.dnssec_policy.specs.declared.policy.{Policy.Policy}
use Rattle.dnssec_policy.specs.declared.why.Why.{Why}
use Rattle.dnssec_policy.specs.Keys.{first_over, has_left, is_rolled, is_unwanted, leaves_from}
use Rattle.dnssec_policy.specs.Keys.{new_keys, renewal_of, role_of, roles_of, rolls_of}
use Rattle.dnssec_policy.specs.{Keys.wants_others, Laws.RestIsAsWanted}
use Rattle.dnssec_policy.specs.Next.{at_moment, change, deletion, may_begin, next_of}
use Rattle.dnssec_policy.specs.Next.{once_all_ended, phase_next, renewal, start_with}
use Rattle.dnssec_policy.specs.Stuck.{stuck, stuck_of}
use Rattle.dnssec_policy.specs.Todo.{Make, NotBefore, Rest, Todo, rank}
use Rattle.dnssec_policy.specs.View.{View}
use Rattle.dnssec_policy.proofs.Order.{NotLater, cause-said, change-said, rank-le}
use Rattle.dnssec_policy.proofs.Order.{entry-said, renewal-said, roll-said}
use Rattle.dnssec_policy.proofs.Ahead.{delete-says, roll-says, start-says}
use Rattle.dnssec_policy.proofs.InTime.{renewal-is}

-- ---- what a part doesn't say isn't so

not-guarded : (t : Bool) (a : Todo) → rank a ≤ 5 → 6 ≤ rank (if t then a else Rest) → t ≡ false
not-guarded true a le big = absurd (omega (arith, le, big))
not-guarded false a le big = refl

not-timed : (now : ℕ) (o : Option ℕ) (todo : Todo) → rank todo ≤ 5
    → 6 ≤ rank (at_moment now o todo) → o ≡ None
not-timed now None todo le big = refl
not-timed now (Some m) todo le big = absurd (by (nat_le m now) big)
  where
    by : (t : Bool) → 6 ≤ rank (if t then todo else NotBefore m) → ⊥
    by true big = absurd (omega (arith, le, big))
    by false big = absurd (omega (arith, big))

-- with no roll in progress any may begin
all-begin : (rolls : Rolls) → ((roll : RollType) → phase_of rolls roll ≡ None)
    → (roll : RollType) → is_none (conflict roll rolls) ≡ true
unfolding conflict
all-begin rolls none roll =
    let apart : has_conflict roll rolls ≡ false = conflict-none all_rolls in
    let here = none roll in
    grind arith
  where
    conflict-none : (rs : List RollType)
        → list_any (λ other. is_some (phase_of rolls other) && not (together roll other)) rs ≡ false
    conflict-none [] = refl
    conflict-none (r ∷ rs) = rw (none r, conflict-none rs) refl

none-rolled : (rolls : Rolls) → ((roll : RollType) → phase_of rolls roll ≡ None)
    → (k : KeyType) → is_rolled rolls k ≡ false
none-rolled rolls none k = on all_rolls
  where
    on : (rs : List RollType)
        → list_any (λ roll. is_some (phase_of rolls roll) && lists_kind (side_of roll) k) rs ≡ false
    on [] = refl
    on (r ∷ rs) = rw (none r, on rs) refl

module _ (policy : Policy) (v : View) (rests : next_of policy v ≡ Rest) where
  part : (x : Todo) → NotLater (next_of policy v) x → 6 ≤ rank x
  part x le =
      let s = ap rank rests in
      omega (arith, rank-le (next_of policy v) x le, s)

  none-rolls : (roll : RollType) → phase_of v.set.rolls roll ≡ None
  none-rolls roll = by (phase_of v.set.rolls roll) refl
    where
      by : (o : Option RollState) → phase_of v.set.rolls roll ≡ o → phase_of v.set.rolls roll ≡ None
      by None is = is
      by (Some p) is =
          let big = subst (λ o. 6 ≤ rank (phase_next v roll o)) is
          (part (phase_next v roll (phase_of v.set.rolls roll)) (roll-said policy v roll)) in
          absurd (omega (arith, (roll-says v roll p).1, big))

  begins : (roll : RollType) → may_begin v roll ≡ true
  begins roll = all-begin v.set.rolls none-rolls roll

  none-gone : (q : List ℕ) (k : KeyParts) → get v.set.keys q ≡ Some k
      → all_states is_stale k.keytype ≡ false
  none-gone q k at =
      let delete = Make (keyset.DeleteKey q) in
      let moment = leaves_from policy.delete_after k.timestamps.withdrawn in
      let left = not-guarded (has_left v.set.rolls k)
      (at_moment v.now (Some moment) (once_all_ended v delete)) (delete-says v q moment).1
      (part (deletion policy v q k)
      (entry-said policy v q k (sym (get-entries v.set.keys q) ∙ at))) in
      out (all_states is_stale k.keytype) (is_rolled v.set.rolls k.keytype)
      (none-rolled v.set.rolls none-rolls k.keytype) left
    where
      out : (a b : Bool) → b ≡ false → (a && not b) ≡ false → a ≡ false
      out true b is e = absurd (true≢false (sym (ap not is) ∙ e))
      out false b is e = refl

  none-wanted : wants_others policy v.set.keys ≡ false
  none-wanted =
      let start = start_with v AlgorithmRoll
      (new_keys policy v.set.keys (roles_of policy.scheme)) in
      let f = not-guarded (may_begin v AlgorithmRoll && wants_others policy v.set.keys) start
      (start-says v AlgorithmRoll (new_keys policy v.set.keys (roles_of policy.scheme))).1
      (part (change policy v) (change-said policy v)) in
      sym (ap (λ t. t && wants_others policy v.set.keys) (begins AlgorithmRoll)) ∙ f

  none-unwanted : some_key (is_unwanted policy) v.set.keys ≡ false
  none-unwanted = grind (arith, none-wanted, or_parts)

  none-over : (roll : RollType) → list_any (same_roll roll) (rolls_of policy.scheme) ≡ true
      → first_over (role_of roll) (renewal_of policy (role_of roll)) (values v.set.keys) ≡ None
  none-over roll e =
      let role = role_of roll in
      let start = start_with v roll (new_keys policy v.set.keys (role ∷ [])) in
      let o = first_over role (renewal_of policy role) (values v.set.keys) in
      not-timed v.now o start (start-says v roll (new_keys policy v.set.keys (role ∷ []))).1
      (subst (λ x. 6 ≤ rank x) (renewal-is policy v roll (begins roll) none-unwanted)
      (part (renewal policy v roll) (renewal-said policy v roll e)))

  none-stuck : stuck_of policy v ≡ None
  none-stuck = by (stuck_of policy v) refl
    where
      by : (o : Option Why) → stuck_of policy v ≡ o → stuck_of policy v ≡ None
      by None is = is
      by (Some why) is =
          let big = subst (λ o. 6 ≤ rank (stuck o)) is
          (part (stuck (stuck_of policy v)) (cause-said policy v)) in
          absurd (omega (arith, big))

pub as_wanted : RestIsAsWanted
as_wanted policy v rests = record {
  rolls = none-rolls policy v rests;
  gone = none-gone policy v rests;
  others = none-wanted policy v rests;
  renewals = none-over policy v rests;
  stuck = none-stuck policy v rests;
}
