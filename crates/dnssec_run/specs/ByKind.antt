-- One value for each kind of sets.
use Rattle.dnssec_run.specs.declared.caches.ByKind.{ByKind}
use Rattle.dnssec_run.specs.Safe.{SetKind, Ds, Dnskey, ZoneSigners}

-- that of a kind
abbrev pub at_kind : {A : Type 0} → ByKind A → SetKind → A
at_kind values Ds = values.ds
at_kind values Dnskey = values.dnskey
at_kind values ZoneSigners = values.zone
