-- A set is whole if the algorithm of each KSK that stays is that of a ZSK that stays; and what a
-- start or a wait does to the flags of one key.
use Rattle.std.proofs.Common.{◌≡◌, ◌≢◌, ℕ, Bool, true, false, List, Some, refl, sym, arith}
use Rattle.std.proofs.lemmas.Bool.{and_parts, or_parts, true≢false}
use Rattle.std.specs.{Prelude.if◌then◌else◌, Prelude.not, FinMap.get}
use Rattle.dnssec_key.specs.declared.{kind.KeyType.KeyType, roll.RollType.RollType}
use Rattle.dnssec_key.specs.declared.roll.RollType.TheVariants.{AlgorithmRoll, KskRoll}
use Rattle.dnssec_key.specs.declared.roll.RollType.TheVariants.{KskDoubleDsRoll}
use Rattle.dnssec_key.specs.{Key.KeyParts, Key.all_states, State.is_fresh, declared.roll.Half.Half}
use Rattle.dnssec_key.specs.RollTable.{after_start, column, half_of}
use Rattle.dnssec_key.specs.declared.kind.KeyType.TheVariants as kind
use Rattle.dnssec_zone.proofs.Flags.{is_stale, started}
use Rattle.dnssec_keyset.specs.KeySet.{KeySetParts}
use Rattle.dnssec_keyset.specs.Step as keyset
use Rattle.dnssec_run.specs.ByAlgorithm.{keeps_ksk, keeps_zsk}
use Rattle.dnssec_run.proofs.{Chain.Trust.adds_blank, Effects.key_added}
use Rattle.dnssec_policy.specs.declared.policy.KeyRole.{KeyRole}
use Rattle.dnssec_policy.specs.declared.policy.KeyRole.TheVariants.{Ksk, Zsk, Csk}
use Rattle.dnssec_policy.specs.Keys.{goes, has_role, role_of, serves}

-- ---- a set

-- some key of the algorithm passes
abbrev pub HasOf : (KeyType → Bool) → ℕ → KeySetParts → Type 0
HasOf p a set = (q : List ℕ) × (k : KeyParts) × (get set.keys q ≡ Some k)
    × (p k.keytype ≡ true) × (k.algorithm ≡ a)

-- both roles of a CSK are old, or neither is
abbrev pub is_alike : KeyType → Bool
is_alike (kind.Csk s t) = if s.old then t.old else not t.old
is_alike _ = true

pub record IsWhole (set : KeySetParts) : Type 0 where
  pub zone : (a : ℕ) → HasOf keeps_ksk a set → HasOf keeps_zsk a set
  pub alike : (q : List ℕ) (k : KeyParts) → get set.keys q ≡ Some k → is_alike k.keytype ≡ true

-- ---- one key

pub started-alike : (r : RollType) (o i : Bool) (k : KeyType) → is_alike k ≡ true
    → is_alike (started r o i k) ≡ true
unfolding column
started-alike r o i k e = grind arith

pub waited-alike : (r : RollType) (half : Half) (k : KeyType) → is_alike k ≡ true
    → is_alike ((half_of r half).moves k) ≡ true
unfolding column
waited-alike r half k e = grind arith

pub waited-ksk : (r : RollType) (half : Half) (k : KeyType)
    → keeps_ksk ((half_of r half).moves k) ≡ true → keeps_ksk k ≡ true
unfolding column
waited-ksk r half k e = grind (arith, and_parts, or_parts)

pub waited-zsk : (r : RollType) (half : Half) (k : KeyType) → is_alike k ≡ true
    → keeps_zsk k ≡ true → keeps_zsk ((half_of r half).moves k) ≡ true
unfolding column
waited-zsk r half k a e = grind (arith, and_parts, or_parts)

-- a key that isn't new and is kept after a start was kept before, and isn't old
pub started-ksk : (r : RollType) (o : Bool) (k : KeyType) → keeps_ksk (started r o false k) ≡ true
    → (o ≡ false) × (keeps_ksk k ≡ true)
started-ksk r o k e = grind (arith, and_parts, or_parts)

pub started-zsk : (r : RollType) (i : Bool) (k : KeyType) → keeps_zsk k ≡ true
    → keeps_zsk (started r false i k) ≡ true
unfolding column
started-zsk r i k e = grind (arith, and_parts, or_parts)

pub stale-zsk : (k : KeyType) → is_stale k ≡ true → keeps_zsk k ≡ true → ⊥
stale-zsk k s e = grind (arith, and_parts, or_parts)

-- a roll of KSKs, but of no CSKs
abbrev pub is_of_ksks : RollType → Bool
is_of_ksks KskRoll = true
is_of_ksks KskDoubleDsRoll = true
is_of_ksks _ = false

pub ksks-go : (r : RollType) (k : KeyParts) → is_of_ksks r ≡ true → goes r k ≡ true
    → keeps_zsk k.keytype ≡ true → ⊥
ksks-go r k own g e = grind (arith, and_parts, or_parts)

-- what another roll brings in is a zone key
pub brings : (r : RollType) (k : KeyType) → is_of_ksks r ≡ false → has_role (role_of r) k ≡ true
    → all_states is_fresh k ≡ true → keeps_zsk (started r false true k) ≡ true
unfolding column
brings r k own h f = grind (arith, and_parts, or_parts)

pub brings-zsk : (k : KeyType) → has_role Zsk k ≡ true → all_states is_fresh k ≡ true
    → keeps_zsk (started AlgorithmRoll false true k) ≡ true
unfolding column
brings-zsk k h f = grind (arith, and_parts, or_parts)

-- a ZSK is no KSK, even after a start
pub no-ksk : (r : RollType) (o i : Bool) (k : KeyType) → has_role Zsk k ≡ true
    → keeps_ksk (started r o i k) ≡ true → ⊥
unfolding column
no-ksk r o i k h e = grind arith

pub works-ksk : (r : RollType) (k : KeyType) → serves (role_of r) k ≡ true → role_of r ≢ Zsk
    → keeps_ksk k ≡ true
works-ksk r k w other = by (role_of r) w other
  where
    by : (role : KeyRole) → serves role k ≡ true → role ≢ Zsk → keeps_ksk k ≡ true
    by Ksk w other = grind (arith, and_parts, or_parts)
    by Zsk w other = absurd (other refl)
    by Csk w other = grind (arith, and_parts, or_parts)

pub kept-goes : (k : KeyParts) → keeps_ksk k.keytype ≡ true → goes AlgorithmRoll k ≡ true
kept-goes k e = grind (arith, and_parts, or_parts)

pub ksks-role : (r : RollType) → is_of_ksks r ≡ true → role_of r ≢ Zsk
ksks-role KskRoll own = λ e. absurd (cc)
ksks-role KskDoubleDsRoll own = λ e. absurd (cc)
ksks-role _ own = absurd (true≢false (sym own))

pub blank-kept : (c : keyset.Call) (j : KeyParts) → adds_blank c ≡ true → key_added c ≡ Some j
    → (keeps_ksk j.keytype ≡ false) × (is_alike j.keytype ≡ true)
blank-kept c j blank added = grind arith

pub start-algorithm : (r : RollType) (now : ℕ) (o i : Bool) (k : KeyParts)
    → (after_start r now o i k).algorithm ≡ k.algorithm
start-algorithm r now o i k = grind arith
