-- What two entries of a record say of a key, and what changes between them.
use Rattle.std.specs.Prelude.{◌≡◌, ℕ}
use Rattle.std.specs.{BTreeSet.contains, Ordering.nat_cmp}
use Rattle.dnssec_run.specs.{ByList.ByList, Changes.has_added, Safe.Position}
use Rattle.dnssec_run.specs.declared.lists.Change.{Change}
use Rattle.dnssec_run.specs.declared.between.AddLists.{AddLists}

-- the lists that have the key of an add
abbrev pub in_lists : AddLists → ℕ → ByList
in_lists l a = record {
  ds = contains nat_cmp l.ds a;
  dnskey = contains nat_cmp l.dnskey a;
  dnskey_signers = contains nat_cmp l.signers a;
  zone_signers = contains nat_cmp l.zone a;
}

-- and those of a position
abbrev pub lists_at : Position → ℕ → ByList
lists_at p a = record {
  ds = has_added p.ds a;
  dnskey = has_added p.dnskey a;
  dnskey_signers = has_added p.signers a;
  zone_signers = has_added p.zone a;
}

-- what a change of a key between lists says
pub record IsBetween (before now : AddLists) (c : Change) : Type 0 where
  pub was : c.was ≡ in_lists before c.added
  pub shown : c.shown ≡ in_lists now c.added
