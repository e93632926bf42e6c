-- Which keys a policy speaks of: those that are to come in, are at work, go, or have left.
use Rattle.std.specs.Prelude.{ℕ, ◌+◌, ◌*◌, ◌&&◌, ◌||◌, not, Bool, List, [], ◌∷◌, is_some}
use Rattle.std.specs.Prelude.{map, filter, nat_eq, nat_lt, Option, None, Some, unwrap_or}
use Rattle.std.specs.Prelude.{if◌then◌else◌, Result, Ok, Err}
use Rattle.std.specs.{List.fold, List.list_all, List.list_any, FinMap.entries}
use Rattle.dnssec_key.specs.declared.{kind.KeyType.KeyType, roll.RollType.RollType}
use Rattle.dnssec_key.specs.declared.roll.RollType.TheVariants.{KskRoll, KskDoubleDsRoll, ZskRoll}
use Rattle.dnssec_key.specs.declared.roll.RollType.TheVariants.{ZskDoubleSignatureRoll, CskRoll}
use Rattle.dnssec_key.specs.Key.{KeyParts, all_states, either, ksk, zsk, ksk_role, zsk_role}
use Rattle.dnssec_key.specs.State.{Flags, is_active_ksk, is_active_zsk, is_any, is_fresh, is_kept}
use Rattle.dnssec_key.specs.State.{is_leaving, is_stale, is_used}
use Rattle.dnssec_key.specs.{Sides.side_of, declared.roll.Side.Side}
use Rattle.dnssec_key.specs.declared.roll.Side.TheVariants.{KskSide, ZskSide, BothSides}
use Rattle.dnssec_zone.specs.Keys.{Keys, some_key}
use Rattle.dnssec_zone.specs.{Rolls.Rolls, Rolls.all_rolls, Rolls.phase_of, Start.lists_kind}
use Rattle.dnssec_policy.specs.declared.policy.KeyRole.{KeyRole}
use Rattle.dnssec_policy.specs.declared.policy.KeyRole.TheVariants.{Ksk, Zsk, Csk}
use Rattle.dnssec_policy.specs.declared.policy.{KskMethod.KskMethod, ZskMethod.ZskMethod}
use Rattle.dnssec_policy.specs.declared.policy.Scheme.{Scheme}
use Rattle.dnssec_policy.specs.declared.policy.Scheme.TheVariants.{Split, SingleType}
use Rattle.dnssec_policy.specs.declared.policy.{Term.Term, Policy.Policy}
use Rattle.dnssec_policy.specs.declared.policy.KskMethod.TheVariants as ksks
use Rattle.dnssec_policy.specs.declared.policy.ZskMethod.TheVariants as zsks

-- the references of the entries whose keys pass, in their order
abbrev pub references_where : (KeyParts → Bool) → List (List ℕ × KeyParts) → List (List ℕ)
references_where p es =
    map (λ (e : List ℕ × KeyParts). e.0) (filter (λ (e : List ℕ × KeyParts). p e.1) es)

-- ---- roles

-- the key is of this role
abbrev pub has_role : KeyRole → KeyType → Bool
has_role Ksk = ksk is_any
has_role Zsk = zsk is_any
has_role Csk = λ k. ksk_role is_any k && zsk_role is_any k

-- it is of this role, and at work: it signs, and a KSK role has its DS
abbrev pub serves : KeyRole → KeyType → Bool
serves Ksk = ksk is_active_ksk
serves Zsk = zsk is_active_zsk
serves Csk = λ k. ksk_role is_active_ksk k && zsk_role is_active_zsk k

-- the roles of a zone's keys
abbrev pub roles_of : Scheme → List KeyRole
roles_of (Split k z) = Ksk ∷ Zsk ∷ []
roles_of SingleType = Csk ∷ []

-- ---- keys in use

-- a role that is in some set, or signs one, and isn't on its way out
abbrev pub kept_in_use : Flags → Bool
kept_in_use s = is_kept s && is_used s

abbrev pub is_in_use : KeyType → Bool
is_in_use = either (ksk_role kept_in_use) (zsk_role kept_in_use)

-- a key that a roll takes out: it is of the roll's side, and in use
abbrev pub goes : RollType → KeyParts → Bool
goes roll k = lists_kind (side_of roll) k.keytype && is_in_use k.keytype

-- the policy wants such keys: of its algorithm, and of a role of its scheme
abbrev pub is_wanted : Policy → KeyParts → Bool
is_wanted policy k =
    nat_eq k.algorithm policy.algorithm
    && list_any (λ role. has_role role k.keytype) (roles_of policy.scheme)

abbrev pub is_unwanted : Policy → KeyParts → Bool
is_unwanted policy k = is_in_use k.keytype && not (is_wanted policy k)

-- Some role has no key at work, or a key is in use that the policy doesn't want: so it is before
-- the first keys, and once the policy has another algorithm or another scheme.
abbrev pub wants_others : Policy → Keys → Bool
wants_others policy keys =
    not (list_all (λ role. some_key (λ k. serves role k.keytype) keys) (roles_of policy.scheme))
    || some_key (is_unwanted policy) keys

-- ---- new keys

-- a key that may come in by this policy
abbrev pub is_new : Policy → KeyRole → KeyParts → Bool
is_new policy role k =
    has_role role k.keytype && all_states is_fresh k.keytype && nat_eq k.algorithm policy.algorithm

abbrev pub first_of : KeyRole → List (List ℕ) → Result (List ℕ) KeyRole
first_of role [] = Err role
first_of role (q ∷ qs) = Ok q

abbrev pub with_key : Result (List ℕ) KeyRole → Result (List (List ℕ)) KeyRole
    → Result (List (List ℕ)) KeyRole
with_key (Err role) others = Err role
with_key (Ok q) (Err role) = Err role
with_key (Ok q) (Ok qs) = Ok (q ∷ qs)

-- a new key for each of these roles, or the first role that has none
abbrev pub new_keys : Policy → Keys → List KeyRole → Result (List (List ℕ)) KeyRole
new_keys policy keys [] = Ok []
new_keys policy keys (role ∷ roles) =
    with_key (first_of role (references_where (is_new policy role) (entries keys)))
    (new_keys policy keys roles)

-- ---- rolls that renew keys

abbrev pub ksk_roll : KskMethod → RollType
ksk_roll ksks.DoubleSignature = KskRoll
ksk_roll ksks.DoubleDs = KskDoubleDsRoll

abbrev pub zsk_roll : ZskMethod → RollType
zsk_roll zsks.PrePublish = ZskRoll
zsk_roll zsks.DoubleSignature = ZskDoubleSignatureRoll

-- the rolls by which a scheme renews its keys
abbrev pub rolls_of : Scheme → List RollType
rolls_of (Split k z) = ksk_roll k ∷ zsk_roll z ∷ []
rolls_of SingleType = CskRoll ∷ []

-- the role of the keys that a roll of this side renews
abbrev pub role_on : Side → KeyRole
role_on KskSide = Ksk
role_on ZskSide = Zsk
role_on BothSides = Csk

abbrev pub role_of : RollType → KeyRole
role_of roll = role_on (side_of roll)

-- when keys of a role are renewed
abbrev pub renewal_of : Policy → KeyRole → Term
renewal_of policy Zsk = policy.zsk
renewal_of policy _ = policy.ksk

-- ---- keys whose time is over

-- the earlier of two moments
abbrev pub earlier : Option ℕ → Option ℕ → Option ℕ
earlier None n = n
earlier (Some m) None = Some m
earlier (Some m) (Some n) = if nat_lt n m then Some n else Some m

-- by its lifetime
abbrev pub over_by_age : Option ℕ → ℕ → Option ℕ
over_by_age None published = None
over_by_age (Some lifetime) published = Some (published + lifetime * 1_000_000_000)

-- on demand
abbrev pub over_on_demand : Option ℕ → ℕ → Option ℕ
over_on_demand None published = None
over_on_demand (Some moment) published = if nat_lt published moment then Some moment else None

-- The moment from which a key's time is over, if ever. One without the stamp of its publication
-- counts as old.
abbrev pub over_from : Term → Option ℕ → Option ℕ
over_from renewal published =
    earlier (over_by_age renewal.lifetime (unwrap_or published 0))
    (over_on_demand renewal.once (unwrap_or published 0))

-- the first such moment of the keys at work
abbrev pub first_over : KeyRole → Term → List KeyParts → Option ℕ
first_over role renewal keys =
    fold (λ best (k : KeyParts). if serves role k.keytype
    then earlier best (over_from renewal k.timestamps.published) else best) None keys

-- ---- keys that have left

-- a roll is in progress that may change such a key
abbrev pub is_rolled : Rolls → KeyType → Bool
is_rolled rolls k =
    list_any (λ roll. is_some (phase_of rolls roll) && lists_kind (side_of roll) k) all_rolls

-- it has left, and no roll of its side is in progress
abbrev pub has_left : Rolls → KeyParts → Bool
has_left rolls k = all_states is_stale k.keytype && not (is_rolled rolls k.keytype)

-- it is on its way out and in use, and no roll of its side is in progress
abbrev pub is_left_over : Rolls → KeyParts → Bool
is_left_over rolls k =
    either (ksk_role is_leaving) (zsk_role is_leaving) k.keytype && not (is_rolled rolls k.keytype)

-- the moment from which it may be deleted
abbrev pub leaves_from : ℕ → Option ℕ → ℕ
leaves_from after None = 0
leaves_from after (Some withdrawn) = withdrawn + after * 1_000_000_000
