-- What there is to do, and what of it comes first.
use Rattle.std.specs.Prelude.{ℕ, Bool, ◌&&◌, ◌||◌, nat_eq, nat_lt, if◌then◌else◌}
use Rattle.std.specs.Prelude.{Option, None, Some}
use Rattle.dnssec_keyset.specs.Step.{Call}
use Rattle.dnssec_run.specs.declared.caches.SetKind.{SetKind, TheVariants.Ds}
use Rattle.dnssec_policy.specs.declared.{policy.KeyRole.KeyRole, todo.Cds.Cds}
use Rattle.dnssec_policy.specs.declared.todo.Cds.TheVariants.{In, Out}
use Rattle.dnssec_policy.specs.declared.why.Why.{Why}

-- what to do next
pub data Todo : Type 0 where
  -- make this call
  Make : Call → Todo
  -- publish what is due of this kind, and note it
  Publish : SetKind → Todo
  -- make a key of this role that the policy wants, and add it
  NeedKey : KeyRole → Todo
  -- see whether all servers give what was published of this kind, and note it
  Watch : SetKind → Todo
  -- nothing before this moment
  NotBefore : ℕ → Todo
  -- nothing, though the policy wants something: why
  Stuck : Why → Todo
  -- nothing
  Rest : Todo

-- What is asked of CDS and CDNSKEY beside it. They are in the zone while the DS set changes. They
-- leave once all servers of the parent give it, and that is noted only once no server gives them.
abbrev pub cds_with : Todo → Option Cds
cds_with (Publish Ds) = Some In
cds_with (Watch Ds) = Some Out
cds_with _ = None

-- the smaller, the more urgent: a call, then what the operator has to do, then what to wait for
abbrev pub rank : Todo → ℕ
rank (Make call) = 0
rank (Publish kind) = 1
rank (NeedKey role) = 2
rank (Watch kind) = 3
rank (NotBefore moment) = 4
rank (Stuck why) = 5
rank Rest = 6

-- the moment before which there is nothing to do
abbrev pub moment_of : Todo → ℕ
moment_of (NotBefore moment) = moment
moment_of _ = 0

-- the second is more urgent than the first: of two moments the earlier
abbrev pub is_sooner : Todo → Todo → Bool
is_sooner a b = nat_lt (rank b) (rank a)
    || nat_eq (rank b) (rank a) && nat_lt (moment_of b) (moment_of a)

-- the more urgent of two, or the first
abbrev pub sooner : Todo → Todo → Todo
sooner a b = if is_sooner a b then b else a
