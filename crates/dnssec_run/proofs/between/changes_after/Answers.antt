-- The changes lead on, by the tests of the lists and the kinds.
use Rattle.std.proofs.Common.{◌≡◌, ◌+◌, ℕ, ap, false, nat_cmp}
use Rattle.std.specs.BTreeSet.{contains}
use Rattle.dnssec_run.specs.{Lists.at_list, Safe.position_at, ByList.ByList}
use Rattle.dnssec_run.specs.declared.lists.Shown.TheVariants.{Ds, Dnskey, DnskeySigners}
use Rattle.dnssec_run.specs.declared.lists.Shown.TheVariants.{ZoneSigners}
use Rattle.dnssec_run.{specs.Between.in_lists, proofs.Leads.leads-on, proofs.Leads.of-each}
use Rattle.dnssec_run.proofs.between.changes_after.Goals as goal

pub returns : goal.returns
returns c =
    let es = c.args.entries.now in let n = c.args.n in let changed = c.in_ok-changed.changed in
    let before = c.in_ok-before.before in let now = c.in_ok-now.now in
    let was = c.in_ok-before.ensures in let is = c.in_ok-now.ensures in
    let slice = c.as_slice-slice.ensures.value in
    rw (← slice) (leads-on (position_at es n) (position_at es (n + 1)) before now changed
    c.as_slice-slice.result.now was is (rw slice c.in_ok-changes.ensures) c.in_ok-changed.ensures
    (λ list. elim list as (λ list. (a : ℕ) → contains nat_cmp changed a ≡ false
    → at_list (in_lists now a) list ≡ at_list (in_lists before a) list) [
      | Ds ↦ λ a. c.lead.ensures c.if-not-lead.false a (ap (λ (l : ByList). l.ds) (was a))
          (ap (λ (l : ByList). l.ds) (is a))
      | Dnskey ↦ λ a. c.lead-else-not-lead.ensures c.if-not-lead-2.false a
          (ap (λ (l : ByList). l.dnskey) (was a)) (ap (λ (l : ByList). l.dnskey) (is a))
      | DnskeySigners ↦ λ a. c.lead-else-not-lead-2.ensures c.if-not-lead-3.false a
          (ap (λ (l : ByList). l.dnskey_signers) (was a))
          (ap (λ (l : ByList). l.dnskey_signers) (is a))
      | ZoneSigners ↦ λ a. c.lead-else-not-lead-3.ensures c.if-not-lead-4.false a
          (ap (λ (l : ByList). l.zone_signers) (was a)) (ap (λ (l : ByList). l.zone_signers) (is a))
    ]) (of-each _ (c.tell.ensures c.if-not-tell.false)
    (c.tell-else-not-tell.ensures c.if-not-tell-2.false)
    (c.tell-else-not-tell-2.ensures c.if-not-tell-3.false)))
