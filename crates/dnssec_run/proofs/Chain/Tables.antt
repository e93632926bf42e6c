-- The tables of the key set, for the proof of the chain: by halves of a roll and by sides.
use Rattle.dnssec_zone.proofs.Flags.{SideOf, Keys, Zone}
use Rattle.dnssec_zone.specs.Start.{Want, PresentKskRole, PresentZskRole, wants}
use Rattle.std.proofs.Common.{◌≡◌, Bool, true, ℕ, ◌-◌, Option, arith, get_or, length}
use Rattle.std.{proofs.lemmas.Bool.and_parts, specs.List.list_all}
use Rattle.dnssec_key.specs.declared.{roll.RollType.RollType, kind.KeyType.KeyType}
use Rattle.dnssec_key.specs.declared.roll.Half.{Half}
use Rattle.dnssec_key.specs.RollTable.{half_of, column, Writes}
use Rattle.dnssec_base.specs.Stamps.{Stamps, stamp_named}
use Rattle.dnssec_base.specs.declared.time.Stamp.{Stamp as StampOfCode}
use Rattle.dnssec_base.specs.declared.time.Stamp.TheVariants as code

-- ---- the stamps that a wait reads

pub data Stamp : Type 0 where
  Visible : Stamp
  DsVisible : Stamp
  RrsigVisible : Stamp

abbrev pub stamp_in : Stamp → Stamps → Option ℕ
stamp_in Visible t = t.visible
stamp_in DsVisible t = t.ds_visible
stamp_in RrsigVisible t = t.rrsig_visible

abbrev pub writes : Stamp → Writes → KeyType → Bool
writes Visible w k = w.visible k
writes DsVisible w k = w.ds_visible k
writes RrsigVisible w k = w.rrsig_visible k

abbrev pub written : Stamp → RollType → Half → KeyType → Bool
written s r half k = writes s (half_of r half).report k

-- the one that the code means; no wait reads another
abbrev pub of_code : StampOfCode → Stamp
of_code code.DsVisible = DsVisible
of_code code.RrsigVisible = RrsigVisible
of_code _ = Visible

-- the one that a wait reads
abbrev pub read : RollType → Half → Stamp
read r half = of_code (half_of r half).reads

pub reads-stamp : (r : RollType) (half : Half) (t : Stamps)
    → stamp_named (half_of r half).reads t ≡ stamp_in (read r half) t
unfolding column
reads-stamp r half t = grind arith

abbrev pub checked : RollType → Half → KeyType → Bool
checked r half k = (half_of r half).checks k

-- ---- sides

pub by_side : (P : SideOf → Type 0) → P Keys → P Zone → (sd : SideOf) → P sd
by_side P keys zone Keys = keys
by_side P keys zone Zone = zone

-- what a start of the roll has to leave on a side: of two wants, the first is on the side of keys
abbrev pub want_on : SideOf → RollType → Want
want_on Keys r = get_or (wants r) 0 PresentKskRole
want_on Zone r = get_or (wants r) (length (wants r) - 1) PresentZskRole

-- what a roll wants, it wants on each side
pub met : (p : Want → Bool) (r : RollType) → list_all p (wants r) ≡ true → (sd : SideOf)
    → p (want_on sd r) ≡ true
met p r e sd = grind (arith, and_parts)
