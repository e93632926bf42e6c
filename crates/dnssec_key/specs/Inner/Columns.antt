-- What the columns of the code mean: the words of a column are those of the table of rolls.
use Rattle.std.specs.{Prelude.Bool, Prelude.◌||◌, Prelude.List, Prelude.if◌then◌else◌, List.fold}
use Rattle.dnssec_key.specs.State.{Flags, kept_present, kept_at_parent, old_present, is_old}
use Rattle.dnssec_key.specs.State.{is_leaving, old_at_parent, kept_signing, old_silent}
use Rattle.dnssec_key.specs.Key.{ksk, zsk, every_key, ksk_role, zsk_role, any_key, either}
use Rattle.dnssec_key.specs.Key.{zone_key}
use Rattle.dnssec_key.specs.RollTable.{comes_in, comes_in_signing, ds_comes_in, ds_follows}
use Rattle.dnssec_key.specs.RollTable.{signatures_follow, leaves_dnskey, leaves_parent}
use Rattle.dnssec_key.specs.RollTable.{leaves_silently, keys_change_places, turns_back, stays}
use Rattle.dnssec_key.specs.RollTable.{turns_old, writes_nothing}
use Rattle.dnssec_key.specs.RollTable.{only, at_roles, at_each_role, at_ksk, at_zsk}
use Rattle.dnssec_key.specs.RollTable.{Writes as WritesOfRoll, HalfRoll as HalfOfRoll}
use Rattle.dnssec_key.specs.RollTable.{Column as ColumnOfRoll}
use Rattle.dnssec_key.specs.Setters.{at_each_state, with_present, with_signer, with_at_parent}
use Rattle.dnssec_key.specs.Setters.{stale_by_hand}
use Rattle.dnssec_key.specs.declared.kind.KeyType.{KeyType}
use Rattle.dnssec_key.specs.declared.column.RoleTest.{RoleTest}
use Rattle.dnssec_key.specs.declared.column.RoleTest.TheVariants as test
use Rattle.dnssec_key.specs.declared.column.KeyTest.{KeyTest}
use Rattle.dnssec_key.specs.declared.column.KeyTest.TheVariants as keys
use Rattle.dnssec_key.specs.declared.column.RoleMove.{RoleMove}
use Rattle.dnssec_key.specs.declared.column.RoleMove.TheVariants as does
use Rattle.dnssec_key.specs.declared.column.KeyMove.{KeyMove}
use Rattle.dnssec_key.specs.declared.column.KeyMove.TheVariants as change
use Rattle.dnssec_base.specs.declared.time.Stamp.{Stamp}
use Rattle.dnssec_base.specs.declared.time.Stamp.TheVariants.{Published, Visible, DsVisible}
use Rattle.dnssec_base.specs.declared.time.Stamp.TheVariants.{RrsigVisible, Withdrawn}
use Rattle.dnssec_key.specs.declared.column.HalfRoll.{HalfRoll}
use Rattle.dnssec_key.specs.declared.column.Column.{Column}

-- a test of one role
abbrev pub test_of : RoleTest → Flags → Bool
test_of test.Old = is_old
test_of test.KeptPresent = kept_present
test_of test.KeptSigning = kept_signing
test_of test.KeptAtParent = kept_at_parent
test_of test.LeavingOrKeptPresent = λ s. is_leaving s || kept_present s
test_of test.LeavingOrKeptAtParent = λ s. is_leaving s || kept_at_parent s
test_of test.OldPresent = old_present
test_of test.OldAtParent = old_at_parent
test_of test.OldSilent = old_silent

-- the keys of which a role passes
abbrev pub keys_of : KeyTest → KeyType → Bool
keys_of (keys.Ksk t) = ksk (test_of t)
keys_of (keys.Zsk t) = zsk (test_of t)
keys_of (keys.KskRole t) = ksk_role (test_of t)
keys_of (keys.ZskRole t) = zsk_role (test_of t)
keys_of (keys.AnyKey t) = any_key (test_of t)
keys_of (keys.ZoneKey t) = zone_key (test_of t)
keys_of (keys.EitherRole t u) = either (ksk_role (test_of t)) (zsk_role (test_of u))

-- what happens to one role
abbrev pub move_of : RoleMove → Flags → Flags
move_of does.Stays = stays
move_of does.TurnsOld = turns_old
move_of does.TurnsBack = turns_back
move_of does.ComesIn = comes_in
move_of does.ComesInSigning = comes_in_signing
move_of does.DsComesIn = ds_comes_in
move_of does.DsFollows = ds_follows
move_of does.SignaturesFollow = signatures_follow
move_of does.LeavesDnskey = leaves_dnskey
move_of does.LeavesParent = leaves_parent
move_of does.LeavesSilently = leaves_silently
move_of does.KeysChangePlaces = keys_change_places
move_of (does.LeavesDnskeyIf t) = only (test_of t) leaves_dnskey
move_of (does.LeavesParentIf t) = only (test_of t) leaves_parent
move_of (does.LeavesSilentlyIf t) = only (test_of t) leaves_silently
move_of (does.SetPresent value) = with_present value
move_of (does.SetSigner value) = with_signer value
move_of (does.SetAtParent value) = with_at_parent value
move_of does.SetStale = stale_by_hand

-- at which roles of a key
abbrev pub change_of : KeyMove → KeyType → KeyType
change_of change.NoRole = stays
change_of (change.AtKsk m) = at_ksk (move_of m)
change_of (change.AtZsk m) = at_zsk (move_of m)
change_of (change.AtRoles m n) = at_roles (move_of m) (move_of n)
change_of (change.AtEachRole m) = at_each_role (move_of m)
change_of (change.AtEachRoleIf t m) = only (any_key (test_of t)) (at_each_role (move_of m))
change_of (change.AtEachState m) = at_each_state (move_of m)

-- these keys get this stamp too
abbrev pub put : Stamp → (KeyType → Bool) → WritesOfRoll → WritesOfRoll
put Published t w = record w { published = either w.published t }
put Visible t w = record w { visible = either w.visible t }
put DsVisible t w = record w { ds_visible = either w.ds_visible t }
put RrsigVisible t w = record w { rrsig_visible = either w.rrsig_visible t }
put Withdrawn t w = record w { withdrawn = either w.withdrawn t }

-- which stamps an event writes
abbrev pub writes_of : List (Stamp × KeyTest) → WritesOfRoll
writes_of = fold (λ w (s : Stamp × KeyTest). put s.0 (keys_of s.1) w) writes_nothing

-- half of a roll
abbrev pub half_roll_of : HalfRoll → HalfOfRoll
half_roll_of h = record {
  report = writes_of h.report.now;
  checks = keys_of h.checks;
  reads = h.reads;
  moves = change_of h.moves;
  writes = writes_of h.writes.now;
}

-- a roll
abbrev pub column_of : Column → ColumnOfRoll
column_of c = record {
  comes = change_of c.comes;
  writes = if c.publishes then record writes_nothing { published = every_key } else writes_nothing;
  asks = c.asks.now;
  goes = change_of c.goes;
  returns = change_of c.returns;
  asks_early = c.asks_early.now;
  first = half_roll_of c.first;
  asks_between = c.asks_between.now;
  second = half_roll_of c.second;
  asks_last = c.asks_last.now;
}
