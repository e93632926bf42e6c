-- What a call that is said says of the set and the notes by which it is said.
use Rattle.std.proofs.Common.{◌≡◌, ℕ, ◌≤◌, ◌⊎◌, Bool, true, false, List, [], ◌∷◌, Some}
use Rattle.std.specs.{Prelude.Ok, FinMap.entries, FinMap.get}
use Rattle.dnssec_key.specs.declared.roll.{RollState.TheVariants.Done, RollType.RollType}
use Rattle.dnssec_key.specs.{declared.roll.RollType.TheVariants.AlgorithmRoll, Key.KeyParts}
use Rattle.dnssec_key.specs.RollTable.{cache_expire, is_second}
use Rattle.dnssec_zone.specs.{Keys.some_key, Rolls.phase_of}
use Rattle.dnssec_keyset.specs.Step as keyset
use Rattle.dnssec_keyset.specs.declared.wait.WaitEnd.TheVariants.{At}
use Rattle.dnssec_run.specs.declared.{caches.SetKind.SetKind, running.LastStep.LastStep}
use Rattle.dnssec_run.specs.{Steps.origin_in, WholeRolls.propagation}
use Rattle.dnssec_network.specs.{declared.spread.Reach.TheVariants.Everywhere, Reports.due}
use Rattle.dnssec_policy.specs.{declared.policy.Policy.Policy, InProgress.ends_with}
use Rattle.dnssec_policy.specs.Keys.{goes, has_left, is_unwanted, new_keys, references_where}
use Rattle.dnssec_policy.specs.Keys.{role_of, roles_of, serves}
use Rattle.dnssec_policy.specs.{Next.may_begin, Ttls.lasting, View.View, View.reach_in}

-- a roll that renews keys
abbrev pub is_renewal : RollType → Bool
is_renewal AlgorithmRoll = false
is_renewal _ = true

-- all that the last actions of a roll wait for is on all servers
abbrev pub IsSettled : View → RollType → ℕ → Type 0
IsSettled v roll base = (kind : SetKind) → ends_with roll kind ≡ true
    → reach_in v kind base ≡ Everywhere

pub record IsChange (policy : Policy) (v : View) (roll : RollType) (news : List (List ℕ))
    : Type 0 where
  pub roll_is : roll ≡ AlgorithmRoll
  pub news_are : new_keys policy v.set.keys (roles_of policy.scheme) ≡ Ok news

pub record IsRenewal (policy : Policy) (v : View) (roll : RollType) (news : List (List ℕ))
    : Type 0 where
  pub renews : is_renewal roll ≡ true
  pub wanted : some_key (is_unwanted policy) v.set.keys ≡ false
  pub news_are : new_keys policy v.set.keys (role_of roll ∷ []) ≡ Ok news
  -- a key at work, whose time is over
  pub old : List ℕ
  pub key : KeyParts
  pub there : get v.set.keys old ≡ Some key
  pub works : serves (role_of roll) key.keytype ≡ true

pub record IsStart (policy : Policy) (v : View) (roll : RollType) (olds news : List (List ℕ))
    : Type 0 where
  pub begins : may_begin v roll ≡ true
  pub olds_are : olds ≡ references_where (goes roll) (entries v.set.keys)
  pub by : IsChange policy v roll news ⊎ IsRenewal policy v roll news

abbrev pub May : Policy → View → keyset.Call → Type 0
May policy v (keyset.AddKey reference key) = ⊥
May policy v (keyset.Set reference setting) = ⊥
May policy v (keyset.DeleteKey q) = (k : KeyParts) × (get v.set.keys q ≡ Some k)
    × (has_left v.set.rolls k ≡ true)
    × ((roll : RollType) (base : ℕ) → v.last roll ≡ Some base → IsSettled v roll base)
May policy v (keyset.StartRoll roll olds news now) = (now ≡ v.now)
    × IsStart policy v roll olds news
May policy v (keyset.Report roll half ttl now) = (now ≡ v.now)
    × (phase_of v.set.rolls roll ≡ Some (propagation half))
    × (step : LastStep) × (v.step roll ≡ Some step)
    × (least : ℕ)
    × (due v.before v.facts roll (is_second half) (origin_in step.origins) v.now ≡ Ok least)
    × (ttl ≡ lasting v.highest roll (is_second half) least) × (ttl ≤ 4_294_967_295)
May policy v (keyset.Wait roll half now) = (now ≡ v.now)
    × (ttl : ℕ) × (phase_of v.set.rolls roll ≡ Some (cache_expire half ttl))
    × (end : ℕ) × (v.end roll ≡ Some (At end)) × (end ≤ v.now)
May policy v (keyset.RollDone roll) = (phase_of v.set.rolls roll ≡ Some Done)
    × (base : ℕ) × (v.last roll ≡ Some base) × IsSettled v roll base
May policy v (keyset.AbortRoll roll) = ⊥
