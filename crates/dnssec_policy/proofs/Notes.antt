-- Reports that are said are by notes, and no moment that is said lies ahead of the clock.
use Rattle.std.proofs.Common.{◌≡◌, ℕ, zero, suc, inl, inr, Bool, true, List}
use Rattle.std.proofs.Common.{None, Some, length, refl, sym, ap, subst, ◌∙◌, arith}
use Rattle.std.proofs.lemmas.{Bool.cases_lt, Option.none-some, Option.slice_get_past}
use Rattle.std.specs.Option.{option_map}
use Rattle.std.specs.Prelude.{◌+◌, ◌≤◌, ◌⊎◌, Ok, false, if◌then◌else◌, max, slice_get}
use Rattle.dnssec_key.specs.declared.roll.RollType.{RollType}
use Rattle.dnssec_key.specs.declared.roll.Half.TheVariants.{First, Second}
use Rattle.dnssec_key.specs.RollTable.{is_second}
use Rattle.dnssec_keyset.specs.Step as keyset
use Rattle.dnssec_run.specs.declared.{call.Call.Call, record.Entry.Entry}
use Rattle.dnssec_run.specs.declared.record.Mark.TheVariants.{Other, Report}
use Rattle.dnssec_run.specs.declared.running.LastStep.{LastStep}
use Rattle.dnssec_run.specs.{Origins.origin, Steps.last_step, Steps.origin_in, Steps.step_at}
use Rattle.dnssec_run.specs.Record.{IsRun, call_moment, call_of}
use Rattle.dnssec_run.specs.Safe.{SetKind, Ds, ZoneSigners, base_below, position_at, retires}
use Rattle.dnssec_run.proofs.Chain.Trust.{mark, moment, plainly}
use Rattle.dnssec_run.proofs.{Laws.made-at, Since.origin-of}
use Rattle.dnssec_run.proofs.WholeRolls.Replies.{outcome, position-is}
use Rattle.dnssec_network.specs.{Facts.AreTrue, Network.Network, Network.NoneLiesAhead}
use Rattle.dnssec_network.specs.Reports.{IsByNotes, ReportsAreByNotes, due}
use Rattle.dnssec_policy.specs.declared.policy.Policy.{Policy}
use Rattle.dnssec_policy.specs.{Automatic.IsAutomatic, Automatic.is_add, Ttls.keeps, Ttls.lasting}
use Rattle.dnssec_policy.{specs.View.View, proofs.PlainCalls.said, proofs.May.May}

-- ---- one call

-- a report lasts no less than what is due
pub longer : (h : SetKind → ℕ) (roll : RollType) (second : Bool) (least : ℕ)
    → least ≤ lasting h roll second least
longer h roll second least = by (retires roll second Ds)
  where
    by : (t : Bool)
        → least ≤ (if t then max (least + keeps h) (h ZoneSigners + 1) else least)
    by true = omega arith
    by false = omega arith

-- a report is made with the TTL that is due at its moment, and lasts as long as it has to
pub as-said : (policy : Policy) (v : View) (c : keyset.Call) → May policy v c → (roll : RollType)
    (second : Bool) (step : LastStep) (at ttl : ℕ) → v.step roll ≡ Some step
    → mark c ≡ Report roll second ttl → moment c ≡ Some at → (least : ℕ)
    × (due v.before v.facts roll second (origin_in step.origins) at ≡ Ok least)
    × (ttl ≡ lasting v.highest roll second least) × (ttl ≤ 4_294_967_295)
as-said policy v (keyset.Report r half t now) m roll second step at ttl there mk mo =
    let there' = sym m.3 ∙ ap v.step {x = r} {y = roll} (cc) ∙ there in
    let step-is : m.2 ≡ step = cc in
    let roll-is : r ≡ roll = cc in
    let half-is : is_second half ≡ second = cc in
    let at-is : v.now ≡ at = sym m.0 ∙ cc in
    let ttl-is : t ≡ ttl = cc in (
      m.4,
      rw (sym roll-is, sym half-is, sym step-is, sym at-is) m.5,
      rw (sym roll-is, sym half-is, sym ttl-is) m.6,
      rw (sym ttl-is) m.7,
    )
as-said policy v (keyset.Wait r First now) m roll second step at ttl there mk mo = absurd (cc)
as-said policy v (keyset.Wait r Second now) m roll second step at ttl there mk mo = absurd (cc)
as-said policy v _ m roll second step at ttl there mk mo = absurd (cc)

-- a report is by the notes by which it was said
by-view : (policy : Policy) (v : View) (network : Network) (time : ℕ)
    → AreTrue v.before v.facts network time
    → (c : keyset.Call) → May policy v c → (roll : RollType) (second : Bool) (step : LastStep)
    → (at ttl : ℕ) → v.step roll ≡ Some step → mark c ≡ Report roll second ttl
    → moment c ≡ Some at → IsByNotes network roll second (origin_in step.origins) at ttl time
by-view policy v network time are c m roll second step at ttl there mk mo =
    let s = as-said policy v c m roll second step at ttl there mk mo in
    record {
      before = v.before;
      facts = v.facts;
      are_true = are;
      least = s.0;
      is_due = s.1;
      enough = (let long = longer v.highest roll second s.0 in let is = s.2 in
          omega (arith, long, is));
    }

-- its moment is that at which it was said
pub at-now : (policy : Policy) (v : View) (c : keyset.Call) → May policy v c → (at : ℕ)
    → moment c ≡ Some at → at ≡ v.now
at-now policy v (keyset.StartRoll r olds news now) m at mo = (cc) ∙ m.0
at-now policy v (keyset.Report r half ttl now) m at mo = (cc) ∙ m.0
at-now policy v (keyset.Wait r half now) m at mo = (cc) ∙ m.0
at-now policy v (keyset.Set r s) m at mo = absurd m
at-now policy v _ m at mo = absurd (none-some at mo)

-- an add has no moment and is no report
pub add-moment : (c : Call) → is_add c ≡ true → call_moment c ≡ None
add-moment c h = grind arith

add-mark : (c : Call) → is_add c ≡ true → mark (call_of c) ≡ Other
add-mark c h = grind arith

-- ---- the run

-- a report after position n is by notes of this network
abbrev pub IsReported : List Entry → Network → ℕ → ℕ → keyset.Call → Type 0
IsReported entries network time n c = (roll : RollType) (second : Bool) (step : LastStep)
    (at ttl : ℕ) → last_step entries roll (suc n) ≡ Some step → mark c ≡ Report roll second ttl
    → moment c ≡ Some at → IsByNotes network roll second (origin_in step.origins) at ttl time

module _ {name : List ℕ} {calls : List Call} {entries : List Entry} {network : Network} {time : ℕ}
    (run : IsRun name calls entries)
    (each : (n : ℕ) (c : Call) → slice_get calls n ≡ Some c
    → (is_add c ≡ true) ⊎ IsReported entries network time n (call_of c)) where
  -- a position that is marked or timed is that of a call
  marked : (at moment ttl base : ℕ) (roll : RollType) (second : Bool)
      → (position_at entries at).mark ≡ Report roll second ttl
      → (position_at entries at).moment ≡ Some moment
      → base_below entries roll at ≡ Some base
      → IsByNotes network roll second (λ kind. origin entries kind base) moment ttl time
  unfolding position_at
  marked zero at ttl base roll second mk mo b = absurd (none-some at mo)
  marked (suc n) at ttl base roll second mk mo b = elim (cases_lt n (length entries)) [
    | inl lt ↦
        let x = made-at run n (omega (arith, lt)) in
        elim (outcome run n x.0 x.1 x.2 x.3) [
          | inl y ↦ let nope : Other ≡ Report roll second ttl = sym y.2 ∙ mk in absurd (cc)
          | inr d ↦ elim (each n x.0 x.2) [
            | inl a ↦ let nope : Other ≡ Report roll second ttl =
                sym (add-mark x.0 a) ∙ sym d.5 ∙ mk in absurd (cc)
            | inr s ↦ subst (λ from. IsByNotes network roll second from at ttl time)
                (λ i kind. origin-of entries base kind i)
                (s roll second (step_at entries base) at ttl (ap (option_map (step_at entries)) b)
                (sym d.5 ∙ mk)
                (sym (plainly x.0).moment_is ∙ sym (position-is run n x.0 x.1 x.2 x.3).1 ∙ mo))
          ]
        ]
    | inr out ↦ let none : None ≡ Some at =
        sym (rw (slice_get_past entries n out) refl) ∙ mo in absurd (none-some at none)
  ]

  pub all-by-notes : ReportsAreByNotes entries network time
  all-by-notes r =
      marked r.at r.moment r.ttl r.base r.roll r.second r.mark r.moment_is r.base_is

module _ {name : List ℕ} {calls : List Call} {entries : List Entry} {network : Network} {time : ℕ}
    (run : IsRun name calls entries) (auto : IsAutomatic name calls entries network time) where
  pub by-notes : ReportsAreByNotes entries network time
  by-notes = all-by-notes run (λ n c ci. elim (said run auto n c ci) [
    | inl a ↦ inl a
    | inr s ↦ inr (λ roll second step at ttl there. by-view s.0.policy s.0.view network time
        s.0.at.are_true (call_of c) s.1 roll second step at ttl (s.0.at.step roll ∙ there))
  ])

  pub none-ahead : NoneLiesAhead entries network time
  unfolding position_at
  none-ahead zero at past mo = absurd (none-some at mo)
  none-ahead (suc n) at past mo = elim (cases_lt n (length entries)) [
    | inl lt ↦
        let x = made-at run n (omega (arith, lt)) in
        let is : call_moment x.0 ≡ Some at = sym (position-is run n x.0 x.1 x.2 x.3).1 ∙ mo in
        elim (said run auto n x.0 x.2) [
          | inl a ↦ absurd (none-some at (sym (add-moment x.0 a) ∙ is))
          | inr s ↦
              let now = at-now s.0.policy s.0.view (call_of x.0) s.1 at
              (sym (plainly x.0).moment_is ∙ is) in
              omega (arith, now, s.0.clock)
        ]
    | inr out ↦ let none : None ≡ Some at =
        sym (rw (slice_get_past entries n out) refl) ∙ mo in absurd (none-some at none)
  ]
