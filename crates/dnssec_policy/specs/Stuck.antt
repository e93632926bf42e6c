-- What a policy wants and doesn't get, and why.
use Rattle.std.specs.Prelude.{ℕ, ◌&&◌, not, Bool, true, false, nat_le, Option, None, Some}
use Rattle.std.specs.Prelude.{if◌then◌else◌, is_none}
use Rattle.std.specs.{Option.option_or, List.fold, FinMap.values}
use Rattle.dnssec_key.specs.declared.roll.RollState.{RollState}
use Rattle.dnssec_key.specs.declared.roll.RollState.TheVariants.{Propagation1, Propagation2}
use Rattle.dnssec_key.specs.declared.roll.RollType.{RollType}
use Rattle.dnssec_key.specs.declared.roll.RollType.TheVariants.{AlgorithmRoll, CskRoll}
use Rattle.dnssec_zone.specs.{Keys.some_key, Rolls.all_rolls, Rolls.phase_of, Start.conflict}
use Rattle.dnssec_policy.specs.declared.policy.{Policy.Policy, Scheme.Scheme}
use Rattle.dnssec_policy.specs.declared.policy.Scheme.TheVariants.{Split, SingleType}
use Rattle.dnssec_policy.specs.declared.why.Why.{Why}
use Rattle.dnssec_policy.specs.declared.why.Why.TheVariants.{Barred, OldKeyInUse, TtlTooLong}
use Rattle.dnssec_policy.specs.InProgress.{roll_next}
use Rattle.dnssec_policy.specs.Keys.{first_over, is_left_over, ksk_roll, renewal_of, role_of}
use Rattle.dnssec_policy.specs.Keys.{wants_others, zsk_roll}
use Rattle.dnssec_policy.specs.{Todo.Todo, Todo.NotBefore, Todo.Rest, Todo.Stuck, View.View}

-- the roll may begin beside the rolls in progress
abbrev pub may_begin : View → RollType → Bool
may_begin v roll = is_none (conflict roll v.set.rolls)

-- ---- rolls in progress

-- why a roll in this phase doesn't go on, given what is to be done for it: a report is put off to a
-- moment only for its TTL
abbrev pub why_of : RollType → RollState → Todo → Option Why
why_of roll phase (Stuck why) = Some why
why_of roll Propagation1 (NotBefore moment) = Some (TtlTooLong roll)
why_of roll Propagation2 (NotBefore moment) = Some (TtlTooLong roll)
why_of roll phase todo = None

abbrev pub phase_why : View → RollType → Option RollState → Option Why
phase_why v roll None = None
phase_why v roll (Some phase) = why_of roll phase (roll_next v roll phase)

abbrev pub rolls_why : View → Option Why
rolls_why v =
    fold (λ why roll. option_or why (phase_why v roll (phase_of v.set.rolls roll))) None all_rolls

-- ---- starts

-- a roll is wanted that may not begin
abbrev pub barred_if : Bool → View → RollType → Option Why
barred_if wanted v roll = if wanted && not (may_begin v roll) then Some (Barred roll) else None

-- a moment is reached, if there is one
abbrev pub is_reached : ℕ → Option ℕ → Bool
is_reached now None = false
is_reached now (Some moment) = nat_le moment now

-- a key's time is over that this roll renews
abbrev pub is_over : Policy → View → RollType → Bool
is_over policy v roll = is_reached v.now
    (first_over (role_of roll) (renewal_of policy (role_of roll)) (values v.set.keys))

abbrev pub renewal_why : Policy → View → RollType → Option Why
renewal_why policy v roll = barred_if (is_over policy v roll) v roll

abbrev pub renewals_why : Policy → View → Scheme → Option Why
renewals_why policy v (Split k z) =
    option_or (renewal_why policy v (ksk_roll k)) (renewal_why policy v (zsk_roll z))
renewals_why policy v SingleType = renewal_why policy v CskRoll

abbrev pub starts_why : Policy → View → Option Why
starts_why policy v =
    option_or (barred_if (wants_others policy v.set.keys) v AlgorithmRoll)
    (renewals_why policy v policy.scheme)

-- ---- keys

abbrev pub keys_why : View → Option Why
keys_why v =
    if some_key (is_left_over v.set.rolls) v.set.keys then Some OldKeyInUse else None

-- ---- all of it

-- the first cause for which something isn't done that the policy wants
abbrev pub stuck_of : Policy → View → Option Why
stuck_of policy v = option_or (rolls_why v) (option_or (starts_why policy v) (keys_why v))

-- it doesn't go away by itself
abbrev pub lasts : Why → Bool
lasts (TtlTooLong roll) = false
lasts (Barred roll) = false
lasts _ = true

-- nothing is done for it
abbrev pub stuck : Option Why → Todo
stuck None = Rest
stuck (Some why) = Stuck why
