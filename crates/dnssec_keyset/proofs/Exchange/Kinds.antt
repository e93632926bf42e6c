-- No call on a roll changes the kind of a key, here a number, or its algorithm; and which kinds
-- rolls that go together have to themselves.
use Rattle.std.proofs.Common.{arith, ◌≡◌, ℕ, Bool, true, false, sym, ap, ◌∙◌, List}
use Rattle.std.specs.Prelude.{nat_eq, nat_lt}
use Rattle.dnssec_key.specs.declared.kind.KeyType.TheVariants.{Ksk, Zsk, Csk, Include}
use Rattle.dnssec_key.specs.declared.roll.Half.{Half}
use Rattle.dnssec_key.specs.RollTable.{column, half_of, at_roles}
use Rattle.dnssec_key.specs.declared.{kind.KeyType.KeyType, roll.RollType.RollType}
use Rattle.dnssec_key.specs.{State.Flags, Key.KeyParts}
use Rattle.dnssec_zone.specs.Start.{Side, KskSide, ZskSide, BothSides, are_apart, lists_kind}
use Rattle.dnssec_zone.specs.Start.{together}
use Rattle.dnssec_zone.specs.{Rolls.same_roll, Lists.Lists}
use Rattle.dnssec_keyset.{specs.Step.Call, proofs.Moves.key_after}

-- ---- kinds

unfoldable pub kind_number : KeyType → ℕ
kind_number (Ksk s) = 0
kind_number (Zsk s) = 1
kind_number (Csk s t) = 2
kind_number (Include s) = 3

unfoldable pub lists_by : Side → ℕ → Bool
lists_by KskSide n = nat_eq n 0
lists_by ZskSide n = nat_eq n 1
lists_by BothSides n = nat_lt n 3

pub lists-number : (sd : Side) (t : KeyType) → lists_kind sd t ≡ lists_by sd (kind_number t)
unfolding kind_number lists_by
lists-number sd t = grind arith

pub number-at_roles : (f g : Flags → Flags) (t : KeyType) → kind_number (at_roles f g t)
    ≡ kind_number t
unfolding kind_number
number-at_roles f g t = grind arith

pub number-comes : (roll : RollType) (t : KeyType) → kind_number ((column roll).comes t)
    ≡ kind_number t
unfolding column kind_number
number-comes roll t = grind arith

pub number-goes : (roll : RollType) (t : KeyType) → kind_number ((column roll).goes t)
    ≡ kind_number t
unfolding column kind_number
number-goes roll t = grind arith

pub number-returns : (roll : RollType) (t : KeyType)
    → kind_number ((column roll).returns t) ≡ kind_number t
unfolding column kind_number
number-returns roll t = grind arith

pub number-moves : (roll : RollType) (half : Half) (t : KeyType)
    → kind_number ((half_of roll half).moves t) ≡ kind_number t
unfolding column kind_number
number-moves roll half t = grind arith

-- ---- what no call on a roll changes in a key: its kind and its algorithm

number-after : (lists : Lists) (call : Call) (q : List ℕ) (k : KeyParts)
    → kind_number (key_after lists call q k).keytype ≡ kind_number k.keytype
unfolding key_after
number-after lists call q k =
    grind (arith, number-at_roles, number-comes, number-goes, number-returns, number-moves)

pub kind-after : (sd : Side) (lists : Lists) (call : Call) (q : List ℕ) (k : KeyParts)
    → lists_kind sd (key_after lists call q k).keytype ≡ lists_kind sd k.keytype
kind-after sd lists call q k = lists-number sd _ ∙ ap (lists_by sd) (number-after lists call q k)
    ∙ sym (lists-number sd k.keytype)

pub algorithm-after : (lists : Lists) (call : Call) (q : List ℕ) (k : KeyParts)
    → (key_after lists call q k).algorithm ≡ k.algorithm
unfolding key_after
algorithm-after lists call q k = grind arith

-- ---- rolls that go together

-- two rolls that go together change no kind of key in common
pub apart-kinds : (a b : Side) (t : KeyType) → are_apart a b ≡ true → lists_kind b t ≡ true
    → lists_kind a t ≡ false
apart-kinds a b t e h = grind arith

pub apart-rolls : (a b : RollType) → together a b ≡ true → same_roll a b ≡ false
apart-rolls a b e = grind arith
