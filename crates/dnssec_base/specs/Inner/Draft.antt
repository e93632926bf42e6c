-- A name while its text is read, for the contracts of the reader's steps. No public clause uses it.
use Rattle.std.specs.Prelude.{◌≡◌, ◌⊎◌, ℕ, ◌+◌, ◌-◌, ◌<◌, ◌≤◌}
use Rattle.std.specs.Prelude.{List, [], ◌++◌, take, drop, slice_index, length}
use Rattle.dnssec_base.specs.Inner.DraftName.{DraftName}
use Rattle.dnssec_base.specs.NameText.{Place, HasNoFault, wire_end}
use Rattle.dnssec_base.specs.WireName.{IsWireName, wire_label}
use Rattle.dnssec_base.specs.declared.name.draft.Draft.TheInside.{Inside}
use Rattle.dnssec_base.specs.declared.name.error.NameError.{NameError}
use Rattle.dnssec_base.specs.declared.name.error.NameError.TheVariants.{LongLabel, LongName}

-- the labels that have ended, and the label that has not, which stands after the byte for its
-- length
abbrev pub draft_of : Inside → DraftName
draft_of d = record {
  labels = take d.head d.octets;
  label = take (d.len - (d.head + 1)) (drop (d.head + 1) d.octets);
}

-- The last label's length is still to be written, and a zero stands there. If the label stays
-- empty, that zero is the root. A label that has bytes leaves room for the root.
pub record IsDraft (d : Inside) : Type 0 where
  pub begun : d.head < d.len
  pub zero_length : slice_index d.octets d.head ≡ 0
  pub label_fits : d.len ≤ d.head + 64
  pub name_fits : d.len ≤ 255
  pub room_for_root : d.head + 1 < d.len → d.len < 255

-- one more byte fits into the label and, with the root, into the name
pub record HasRoom (d : DraftName) : Type 0 where
  pub in_label : length d.label < 63
  pub in_name : length (d.labels ++ wire_label d.label) + 2 ≤ 255

-- the limit that one more byte would pass: first that of the label, then that of the name
abbrev pub IsLimit : NameError → DraftName → Type 0
IsLimit error d =
    ((error ≡ LongLabel) × (length d.label ≡ 63))
    ⊎ ((error ≡ LongName) × (length d.label < 63)
    × (255 < length (d.labels ++ wire_label d.label) + 2))

-- the whole text is read into this draft, and no fault stands in it
pub record IsRead (text : List ℕ) (d : DraftName) : Type 0 where
  pub end : Place text d.labels d.label []
  pub wire : IsWireName (d.labels ++ wire_end d.label)
  pub faultless : HasNoFault text
