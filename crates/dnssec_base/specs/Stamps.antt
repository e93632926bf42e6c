-- The stamps of a key: when it passed the stages of its life (RFC 7583, section 3: the events of a
-- key).
use Rattle.std.specs.Prelude.{ℕ, Option, None, Bool, true, Some}
use Rattle.dnssec_base.specs.declared.time.Stamp.{Stamp}
use Rattle.dnssec_base.specs.declared.time.Stamp.TheVariants.{Visible, DsVisible, RrsigVisible}
use Rattle.dnssec_base.specs.declared.time.Stamp.TheVariants.{Published, Withdrawn}

-- when a key passed each stage of its life, if it did (RFC 7583, section 3: the events of a key)
pub record Stamps : Type 0 where
  pub creation : Option ℕ  -- made
  pub published : Option ℕ  -- put into the DNSKEY set
  pub visible : Option ℕ  -- all servers have it there
  pub ds_visible : Option ℕ  -- all servers of the parent have its DS
  pub rrsig_visible : Option ℕ  -- all servers have its signatures
  pub withdrawn : Option ℕ  -- taken out

-- no stage passed
abbrev pub no_stamps : Stamps
no_stamps = record {
  creation = None;
  published = None;
  visible = None;
  ds_visible = None;
  rrsig_visible = None;
  withdrawn = None;
}

-- the stamp of this name, if it was written
abbrev pub stamp_named : Stamp → Stamps → Option ℕ
stamp_named Published t = t.published
stamp_named Visible t = t.visible
stamp_named DsVisible t = t.ds_visible
stamp_named RrsigVisible t = t.rrsig_visible
stamp_named Withdrawn t = t.withdrawn

-- a key that is put into the DNSKEY set was published then, unless it was before
abbrev pub first_published : Bool → ℕ → Option ℕ → Option ℕ
first_published true now None = Some now
first_published value now before = before

-- the stamps of a key after this one is written
abbrev pub with_stamp : Stamp → ℕ → Stamps → Stamps
with_stamp Published moment t = record t { published = Some moment }
with_stamp Visible moment t = record t { visible = Some moment }
with_stamp DsVisible moment t = record t { ds_visible = Some moment }
with_stamp RrsigVisible moment t = record t { rrsig_visible = Some moment }
with_stamp Withdrawn moment t = record t { withdrawn = Some moment }
