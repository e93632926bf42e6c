-- A start that is due is said, or another call.
use Rattle.std.proofs.Common.{◌≡◌, ℕ, [], ◌∷◌, Option, Some, Bool, false, true, ap, refl}
use Rattle.std.proofs.Common.{◌∙◌, arith}
use Rattle.std.proofs.lemmas.Bool.{le-leb}
use Rattle.std.specs.Prelude.{if◌then◌else◌, nat_le, Ok, not, ◌&&◌}
use Rattle.std.specs.FinMap.{values}
use Rattle.dnssec_key.specs.declared.roll.RollType.{RollType, TheVariants.AlgorithmRoll}
use Rattle.dnssec_zone.specs.Keys.{some_key}
use Rattle.dnssec_policy.specs.Keys.{first_over, is_unwanted, new_keys, renewal_of, role_of}
use Rattle.dnssec_policy.specs.Keys.{roles_of, wants_others}
use Rattle.dnssec_policy.specs.Laws.{ChangesStartInTime, RenewalsStartInTime}
use Rattle.dnssec_policy.specs.Next.{at_moment, change, may_begin, next_of, renewal, start_with}
use Rattle.dnssec_policy.specs.Todo.{NotBefore, Rest, Todo, rank}
use Rattle.dnssec_policy.specs.{View.View, declared.policy.Policy.Policy}
use Rattle.dnssec_policy.proofs.Order.{NotLater, change-said, rank-le, renewal-said}

-- nothing is more urgent than a call
pub by-rank : (t x : Todo) → NotLater t x → rank x ≡ 0 → rank t ≡ 0
by-rank t x le zero = omega (arith, rank-le t x le, zero)

-- what is said of a key whose time is over at this moment
pub renewal-by : (policy : Policy) (v : View) (roll : RollType) (moment : ℕ) (t : Bool)
    → (may_begin v roll && not (some_key (is_unwanted policy) v.set.keys)) ≡ true
    → first_over (role_of roll) (renewal_of policy (role_of roll)) (values v.set.keys) ≡ Some moment
    → nat_le moment v.now ≡ t → renewal policy v roll
    ≡ (if t then start_with v roll (new_keys policy v.set.keys (role_of roll ∷ []))
    else NotBefore moment)
renewal-by policy v roll moment t begins over le =
    let start = start_with v roll (new_keys policy v.set.keys (role_of roll ∷ [])) in
    let o = first_over (role_of roll) (renewal_of policy (role_of roll)) (values v.set.keys) in
    ap (λ (t : Bool). if t then at_moment v.now o start else Rest) begins
    ∙ ap (λ (o : Option ℕ). at_moment v.now o start) over
    ∙ ap (λ (t : Bool). if t then start else NotBefore moment) le

-- with another moment, or none
pub renewal-is : (policy : Policy) (v : View) (roll : RollType) → may_begin v roll ≡ true
    → some_key (is_unwanted policy) v.set.keys ≡ false → renewal policy v roll
    ≡ at_moment v.now (first_over (role_of roll) (renewal_of policy (role_of roll))
    (values v.set.keys)) (start_with v roll (new_keys policy v.set.keys (role_of roll ∷ [])))
renewal-is policy v roll begins wanted = rw (begins, wanted) refl

pub change-is : (policy : Policy) (v : View) → may_begin v AlgorithmRoll ≡ true
    → wants_others policy v.set.keys ≡ true → change policy v
    ≡ start_with v AlgorithmRoll (new_keys policy v.set.keys (roles_of policy.scheme))
change-is policy v begins wants = rw (begins, wants) refl

pub renewals-in-time : RenewalsStartInTime
renewals-in-time policy v roll moment news is begins wanted over le keys =
    let said : renewal policy v roll ≡ start_with v roll (Ok news) =
    renewal-by policy v roll moment true (rw (begins, wanted) refl) over
    (le-leb moment v.now le) ∙ ap (start_with v roll) keys in
    by-rank (next_of policy v) (renewal policy v roll) (renewal-said policy v roll is)
    (ap rank said)

pub changes-in-time : ChangesStartInTime
changes-in-time policy v news begins wants keys =
    let said : change policy v ≡ start_with v AlgorithmRoll (Ok news) =
    change-is policy v begins wants ∙ ap (start_with v AlgorithmRoll) keys in
    by-rank (next_of policy v) (change policy v) (change-said policy v) (ap rank said)
