-- No step of a roll changes the kind of a key, so none changes its roles or which rolls list it.
use Rattle.std.proofs.Common.{◌≡◌, Bool, arith}
use Rattle.dnssec_key.specs.declared.{roll.RollType.RollType, kind.KeyType.KeyType}
use Rattle.dnssec_zone.specs.Start.{side_of, lists_kind}
use Rattle.dnssec_zone.proofs.Flags.{SideOf, started, ended, has_role}
use Rattle.dnssec_keyset.proofs.Exchange.Kinds.{kind_number, number-comes, number-at_roles}
use Rattle.dnssec_keyset.proofs.Exchange.Kinds.{number-goes, number-returns}

pub number_started : (r : RollType) (o i : Bool) (k : KeyType)
    → kind_number (started r o i k) ≡ kind_number k
number_started r o i k = grind (arith, number-comes, number-at_roles)

pub number_ended : (r : RollType) (o i : Bool) (k : KeyType)
    → kind_number (ended r o i k) ≡ kind_number k
number_ended r o i k = grind (arith, number-goes, number-returns)

pub same_list : (q : RollType) (j k : KeyType) → kind_number j ≡ kind_number k
    → lists_kind (side_of q) j ≡ lists_kind (side_of q) k
unfolding kind_number
same_list q j k e = grind arith

pub same_role : (sd : SideOf) (j k : KeyType) → kind_number j ≡ kind_number k
    → has_role sd j ≡ has_role sd k
unfolding kind_number
same_role sd j k e = grind arith
