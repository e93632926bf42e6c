-- Validators that keep algorithms find keys of each in what they hold.
use Rattle.std.proofs.Common.{◌≡◌, ℕ, ◌+◌, ◌<◌, ◌≤◌, inl, inr, Bool, true, false, List}
use Rattle.std.proofs.Common.{Some, map, max, refl, ap, ◌∙◌, arith}
use Rattle.std.specs.Prelude.{if◌then◌else◌}
use Rattle.dnssec_key.specs.declared.roll.RollType.{RollType}
use Rattle.dnssec_keyset.specs.Step as keyset
use Rattle.dnssec_run.specs.declared.{call.Call.Call, record.Entry.Entry}
use Rattle.dnssec_run.specs.declared.{record.Mark.TheVariants.Report, running.LastStep.LastStep}
use Rattle.dnssec_run.specs.{Steps.origin_in, Record.call_of}
use Rattle.dnssec_run.specs.Safe.{SetKind, Ds, Dnskey, ZoneSigners, retires}
use Rattle.dnssec_run.proofs.Chain.Trust.{mark, moment}
use Rattle.dnssec_network.specs.{Facts.AreTrue, Network.MayBeHeld, Network.Network}
use Rattle.dnssec_network.specs.Reports.{IsByNotes, NoneGoesBack}
use Rattle.dnssec_network.proofs.Held.{past_report, resolvers_find_each_chain}
use Rattle.dnssec_network.proofs.Noted.{noted_reports}
use Rattle.dnssec_policy.specs.{declared.policy.Policy.Policy, Automatic.IsAutomatic}
use Rattle.dnssec_policy.specs.Kept.{AutomaticRunsServeKeepers, IsAutomaticKeeping, IsHeldBy}
use Rattle.dnssec_policy.specs.Kept.{KeptAlgorithmsSign, keeping}
use Rattle.dnssec_policy.specs.{Ttls.keeps, Ttls.lasting, View.View}
use Rattle.dnssec_policy.proofs.{PlainCalls.automatic-plain, May.May, Said.may}
use Rattle.dnssec_policy.proofs.Whole.{automatic-whole}
use Rattle.dnssec_policy.proofs.Kept.{kept_before, kept_fact, still-due, still-true}
use Rattle.dnssec_policy.proofs.Notes.{all-by-notes, as-said, none-ahead}

-- ---- one call

module _ (s : ℕ) where
  -- a report that speaks of DS sets counts as long as algorithms are kept
  counts : (h : SetKind → ℕ) (roll : RollType) (second : Bool) (least ttl : ℕ) → s ≤ keeps h
      → ttl ≡ lasting h roll second least → (t : Bool) → retires roll second Ds ≡ t
      → (if t then least + s else least) ≤ ttl
  counts h roll second least ttl le is true e =
      let long : ttl ≡ max (least + keeps h) (h ZoneSigners + 1) =
      is ∙ ap (λ (b : Bool). if b then max (least + keeps h) (h ZoneSigners + 1) else least) e in
      omega (arith, le, long)
  counts h roll second least ttl le is false e =
      let same : ttl ≡ least =
      is ∙ ap (λ (b : Bool). if b then max (least + keeps h) (h ZoneSigners + 1) else least) e in
      omega (arith, same)

  by-view : (policy : Policy) (v : View) (network : Network) (time : ℕ)
      → AreTrue v.before v.facts network time → s ≤ keeps v.highest
      → (c : keyset.Call) → May policy v c → (roll : RollType) (second : Bool) (step : LastStep)
      → (at ttl : ℕ) → v.step roll ≡ Some step → mark c ≡ Report roll second ttl
      → moment c ≡ Some at
      → IsByNotes (keeping s network) roll second (origin_in step.origins) at ttl time
  by-view policy v network time are le c m roll second step at ttl there mk mo =
      let x = as-said policy v c m roll second step at ttl there mk mo in
      let enough = counts v.highest roll second x.0 ttl le x.2 (retires roll second Ds) refl in
      let found = still-due s v.before v.facts at roll second (origin_in step.origins) x.0
      (λ speaks. let less = counts v.highest roll second x.0 ttl le x.2 true speaks in
      omega (arith, less, x.3)) x.1 in
      record {
        before = kept_before s v.before;
        facts = map (kept_fact s) v.facts;
        are_true = still-true s network time v.before v.facts are;
        least = found.0;
        is_due = found.1;
        enough = omega (arith, enough, found.2);
      }

-- ---- the run

pub automatic-of : {seconds : ℕ} {name : List ℕ} {calls : List Call} {entries : List Entry}
    {network : Network} {time : ℕ} → IsAutomaticKeeping seconds name calls entries network time
    → IsAutomatic name calls entries network time
automatic-of auto n call is = elim (auto n call is) [ inl a ↦ inl a | inr s ↦ inr s.0 ]

still-back : (seconds : ℕ) (entries : List Entry) (network : Network) (time : ℕ)
    → NoneGoesBack entries network time → NoneGoesBack entries (keeping seconds network) time
still-back seconds entries network time back r kind speaks =
    let was = back (past_report r.mark r.moment_is r.base_is r.after r.made) kind speaks in
    record { servers = was.servers; versions = was.versions }

pub serves-keepers : AutomaticRunsServeKeepers
serves-keepers name calls entries network time seconds run auto is back =
    let auto' = automatic-of auto in
    let kept = keeping seconds network in
    resolvers_find_each_chain name calls entries kept time run (automatic-plain run auto') is
    (automatic-whole run auto')
    (noted_reports entries kept time (still-back seconds entries network time back)
    (all-by-notes run (λ n c ci. elim (auto n c ci) [
      | inl a ↦ inl a
      | inr s ↦ inr (λ roll second step at ttl there. by-view seconds s.0.policy s.0.view network
          time s.0.at.are_true s.1 (call_of c) (may s.0.policy s.0.view (call_of c) s.0.said) roll
          second step at ttl (s.0.at.step roll ∙ there))
    ]))) (none-ahead run auto')

-- a DNSKEY set in a cache was checked by a DS set that is held, as if for so much longer
longer-held : (seconds : ℕ) (network : Network) (p q time : ℕ) → network.ttl Dnskey q < seconds
    → IsHeldBy network p q time → MayBeHeld (keeping seconds network) Ds p time
longer-held seconds network p q time less h =
    record {
      since = h.by.since;
      given = (h.by.given.0, h.by.given.1, h.by.given.2);
      got = omega (arith, h.by.got, h.past);
      lasts = omega (arith, h.by.lasts, h.lasts, h.got, less);
    }

pub kept-sign : KeptAlgorithmsSign
kept-sign name calls entries network time seconds p q z k run auto is back less h zone has =
    let got = h.got in
    let keys : MayBeHeld (keeping seconds network) Dnskey q time = record {
      since = h.since;
      given = (h.given.0, h.given.1, h.given.2);
      got = omega (arith, got, h.past);
      lasts = h.lasts;
    } in
    let signed : MayBeHeld (keeping seconds network) ZoneSigners z time = record {
      since = zone.since;
      given = (zone.given.0, zone.given.1, zone.given.2);
      got = zone.got;
      lasts = zone.lasts;
    } in
    (serves-keepers name calls entries network time seconds run auto is back p q z
    (longer-held seconds network p q time less h) keys signed k has).1
