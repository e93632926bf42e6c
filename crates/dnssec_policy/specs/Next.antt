-- What a policy says to do next: rolls in progress go on, keys that have left are deleted, and
-- rolls start that the policy wants. The most urgent of all that is said; and if nothing can be
-- done, why.
use Rattle.std.specs.Prelude.{ℕ, ◌&&◌, not, List, ◌∷◌, [], nat_le, Option, None, Some}
use Rattle.std.specs.Prelude.{if◌then◌else◌, Result, Ok, Err}
use Rattle.std.specs.{List.fold, FinMap.entries, FinMap.values}
use Rattle.dnssec_key.specs.declared.roll.{RollState.RollState, RollType.RollType}
use Rattle.dnssec_key.specs.declared.roll.RollType.TheVariants.{AlgorithmRoll, CskRoll}
use Rattle.dnssec_key.specs.Key.{KeyParts}
use Rattle.dnssec_zone.specs.{Keys.some_key, Rolls.all_rolls, Rolls.phase_of}
use Rattle.dnssec_keyset.specs.Step.{DeleteKey, StartRoll}
use Rattle.dnssec_policy.specs.declared.policy.{KeyRole.KeyRole, Policy.Policy, Scheme.Scheme}
use Rattle.dnssec_policy.specs.declared.policy.Scheme.TheVariants.{Split, SingleType}
use Rattle.dnssec_policy.specs.declared.why.Why.{Why, TheVariants.ByHand}
use Rattle.dnssec_policy.specs.InProgress.{once_settled, roll_next}
use Rattle.dnssec_policy.specs.Keys.{first_over, goes, has_left, is_unwanted, ksk_roll, leaves_from}
use Rattle.dnssec_policy.specs.Keys.{new_keys, references_where, renewal_of, role_of, roles_of}
use Rattle.dnssec_policy.specs.Keys.{wants_others, zsk_roll}
pub use Rattle.dnssec_policy.specs.Stuck.{lasts, may_begin, stuck, stuck_of}
use Rattle.dnssec_policy.specs.Todo.{Todo, Make, NeedKey, NotBefore, Rest, Stuck, sooner}
use Rattle.dnssec_policy.specs.View.{View}

-- once the moment is reached, if there is one
abbrev pub at_moment : ℕ → Option ℕ → Todo → Todo
at_moment now None todo = Rest
at_moment now (Some moment) todo = if nat_le moment now then todo else NotBefore moment

-- ---- rolls in progress

abbrev pub phase_next : View → RollType → Option RollState → Todo
phase_next v roll None = Rest
phase_next v roll (Some phase) = roll_next v roll phase

abbrev pub rolls_next : View → Todo
rolls_next v =
    fold (λ best roll. sooner best (phase_next v roll (phase_of v.set.rolls roll))) Rest all_rolls

-- ---- keys that have left

-- once the last actions of a roll are followed, if it ever came so far
abbrev pub once_ended : View → RollType → Option ℕ → Todo → Todo
once_ended v roll None todo = todo
once_ended v roll (Some base) todo = once_settled v roll base todo

abbrev pub once_all_ended : View → Todo → Todo
once_all_ended v todo = fold (λ todo roll. once_ended v roll (v.last roll) todo) todo all_rolls

abbrev pub deletion : Policy → View → List ℕ → KeyParts → Todo
deletion policy v reference k =
    if has_left v.set.rolls k
    then at_moment v.now (Some (leaves_from policy.delete_after k.timestamps.withdrawn))
    (once_all_ended v (Make (DeleteKey reference)))
    else Rest

abbrev pub deletions : Policy → View → Todo
deletions policy v =
    fold (λ best (e : List ℕ × KeyParts). sooner best (deletion policy v e.0 e.1)) Rest
    (entries v.set.keys)

-- ---- starts

-- a start with these new keys, or the role for which there is none
abbrev pub start_with : View → RollType → Result (List (List ℕ)) KeyRole → Todo
start_with v roll (Err role) = NeedKey role
start_with v roll (Ok news) =
    Make (StartRoll roll (references_where (goes roll) (entries v.set.keys)) news v.now)

-- the first keys, another algorithm, or another scheme
abbrev pub change : Policy → View → Todo
change policy v =
    if may_begin v AlgorithmRoll && wants_others policy v.set.keys
    then start_with v AlgorithmRoll (new_keys policy v.set.keys (roles_of policy.scheme)) else Rest

-- a new key for those whose time is over, as long as no other change is wanted of keys in use
abbrev pub renewal : Policy → View → RollType → Todo
renewal policy v roll =
    if may_begin v roll && not (some_key (is_unwanted policy) v.set.keys)
    then at_moment v.now
    (first_over (role_of roll) (renewal_of policy (role_of roll)) (values v.set.keys))
    (start_with v roll (new_keys policy v.set.keys (role_of roll ∷ [])))
    else Rest

abbrev pub renewals : Policy → View → Scheme → Todo
renewals policy v (Split k z) =
    sooner (renewal policy v (ksk_roll k)) (renewal policy v (zsk_roll z))
renewals policy v SingleType = renewal policy v CskRoll

-- ---- all of it

-- what there is to do, or to wait for
abbrev pub task_of : Policy → View → Todo
task_of policy v =
    sooner (sooner (sooner (rolls_next v) (deletions policy v)) (change policy v))
    (renewals policy v policy.scheme)

-- or why nothing is done
abbrev pub next_of : Policy → View → Todo
next_of policy v = sooner (task_of policy v) (stuck (stuck_of policy v))

-- ---- what is answered

-- a cause that lasts is said in place of a moment to wait for
abbrev pub unless_lasting : Option Why → Todo → Todo
unless_lasting (Some why) (NotBefore moment) = if lasts why then Stuck why else NotBefore moment
unless_lasting why todo = todo

-- nothing is said after a call by hand, at this position
abbrev pub unless_by_hand : Option ℕ → Todo → Todo
unless_by_hand None todo = todo
unless_by_hand (Some at) todo = Stuck (ByHand at)

abbrev pub answer_of : Policy → Option ℕ → View → Todo
answer_of policy by_hand v =
    unless_by_hand by_hand (unless_lasting (stuck_of policy v) (next_of policy v))
