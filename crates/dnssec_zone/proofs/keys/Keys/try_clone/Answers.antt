-- A copy of the map shows the same keys, and what is derived of them is the same.
use Rattle.std.proofs.Common.{◌≡◌, ap, ◌∙◌}
use Rattle.std.specs.FinMap.{from_entries}
use Rattle.dnssec_zone.specs.Keys.{keys_in_map}
use Rattle.dnssec_zone.proofs.Walks.{entries_by_bytes-clones}
use Rattle.dnssec_zone.proofs.keys.Keys.try_clone.Goals as goal

pub returns-clause-same : goal.returns-clause-same
returns-clause-same c = ap from_entries (entries_by_bytes-clones c.self.inside.map.entries
    c.in_ok-clone.field-0.entries c.in_ok-clone.ensures.cases) ∙ c.self.view_is

pub invariant_of-result : goal.invariant_of-result
invariant_of-result c =
    let i = c.self.inside in
    let copy = c.in_ok-try_clone in
    let same : keys_in_map c.in_ok-clone.field-0 ≡ keys_in_map i.map =
    ap from_entries (entries_by_bytes-clones i.map.entries c.in_ok-clone.field-0.entries
    c.in_ok-clone.ensures.cases) in
    rw (same, copy.ensures.counts) (
      record {
        says = λ t. rw (copy.ensures.tags t) (c.self.invariant.0.says t);
        apart = c.self.invariant.0.apart;
      },
      c.self.invariant.1,
      copy.ensures.waits _ c.self.invariant.2,
      c.self.invariant.3,
    )
