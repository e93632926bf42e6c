-- The kinds of sets that the actions so far ask to publish.
use Rattle.std.proofs.Common.{◌≡◌, take}
use Rattle.std.specs.{List.list_any}
use Rattle.dnssec_run.specs.Asked.{updates}
use Rattle.dnssec_run.specs.Safe.{Ds, Dnskey, ZoneSigners}
use Rattle.dnssec_run.proofs.record.Reply.touched.Given as goal

abbrev pub invariant-loop-action : goal.invariant-loop-action
invariant-loop-action l = record {
  ds : l.ds ≡ list_any (updates Ds) (take l.action-index l.action-items);
  dnskey : l.dnskey ≡ list_any (updates Dnskey) (take l.action-index l.action-items);
  zone : l.zone ≡ list_any (updates ZoneSigners) (take l.action-index l.action-items);
}
