-- A report counts from a start or a first wait, and retires what that asked: for `retires`.
use Rattle.dnssec_run.proofs.Effects.{Own, by-phase, is_on}
use Rattle.dnssec_run.proofs.Asked.Actions.{asks, asks_report, report_asked, retires-asked}
use Rattle.dnssec_run.proofs.{Laws.made-at, Chain.Rolls.same-same, Chain.Rolls.same-sym}
use Rattle.dnssec_run.proofs.Chain.{Allowed.waits_in_phase, Allowed.spreads, History.base_same}
use Rattle.dnssec_run.proofs.{Chain.History.base_here, Chain.Trust.mark, WholeRolls.Replies.outcome}
use Rattle.dnssec_run.proofs.WholeRolls.{Replies.world_of, Keys.roll_now}
use Rattle.dnssec_run.proofs.Asked.Changes.{due, due_by}
use Rattle.dnssec_run.specs.WholeRolls.{propagation}
use Rattle.dnssec_run.specs.declared.{call.Call.Call, record.Entry.Entry, record.Mark.Mark}
use Rattle.dnssec_run.specs.declared.record.Mark.TheVariants.{Other, Report}
use Rattle.dnssec_run.specs.Asked.{asked_by, asked_at, report_of, RetiresAsAsked}
use Rattle.dnssec_run.specs.Record.{IsRun, call_of, world_at}
use Rattle.dnssec_run.specs.Safe.{SetKind, position_at, base_below, is_step, retires}
use Rattle.std.proofs.Common.{[], ◌≡◌, ℕ, zero, suc, ◌≤◌, ◌↔◌, inl, inr, Bool, true, false, refl}
use Rattle.std.proofs.Common.{sym, ◌∙◌, ap, subst, arith, List, length, Some}
use Rattle.std.proofs.lemmas.{Bool.cases_lt, Option.none-some, Option.slice_get_past}
use Rattle.std.specs.{List.Contains, List.list_any, Option.option_map_or}
use Rattle.dnssec_key.specs.declared.roll.RollState.TheVariants.{Propagation1, CacheExpire1}
use Rattle.dnssec_key.specs.declared.roll.RollState.TheVariants.{Propagation2, CacheExpire2, Done}
use Rattle.dnssec_key.specs.declared.roll.{RollType.RollType, RollState.RollState}
use Rattle.dnssec_key.specs.declared.roll.Half.{Half}
use Rattle.dnssec_key.specs.declared.roll.Half.TheVariants.{First, Second}
use Rattle.dnssec_key.specs.RollTable.{actions_of, cache_expire, is_second}
use Rattle.dnssec_keyset.{specs.KeySet.KeySetParts, proofs.Laws.no_cause}
use Rattle.dnssec_keyset.specs.Step as keyset
use Rattle.dnssec_zone.specs.Wait as waits

-- the phase in which a roll last asked for something but its last actions
abbrev pub opening : RollState → RollState
opening Propagation1 = Propagation1
opening (CacheExpire1 ttl) = Propagation1
opening Propagation2 = Propagation2
opening (CacheExpire2 ttl) = Propagation2
opening Done = Propagation2

-- a call that begins or moves no roll r
pub unstepped : (c : keyset.Call) (r : RollType) → is_on c r ≡ false → is_step r (mark c) ≡ false
unstepped (keyset.StartRoll q olds news now) r d = same-sym r q ∙ d
unstepped (keyset.Wait q First now) r d = same-sym r q ∙ d
unstepped _ r d = refl

module _ {name : List ℕ} {calls : List Call} {entries : List Entry}
    (run : IsRun name calls entries) where
  abbrev pub set_at : ℕ → KeySetParts
  set_at n = (world_at name calls entries n).set

  abbrev marked : ℕ → Mark
  marked n = (position_at entries n).mark

  -- after position n the next report of the roll would count from this position, and this was
  -- asked there
  abbrev pub Based : ℕ → RollType → RollState → Type 0
  Based n r p = (base : ℕ) × (base_below entries r (suc n) ≡ Some base)
      × (asked_at entries base ≡ actions_of r (opening p))

  -- one more position, from which no report of the roll counts
  based-on : (n : ℕ) (r : RollType) (p x : RollState) → opening x ≡ opening p
      → is_step r (marked (suc n)) ≡ false → Based n r p → Based (suc n) r x
  based-on n r p x same no_step h =
      (h.0, base_same entries r (suc n) no_step ∙ h.1, h.2 ∙ ap (actions_of r) (sym same))

  abbrev pub All : ℕ → Type 0
  All n = (r : RollType) (p : RollState) → roll_now (set_at n) r ≡ Some p → Based n r p

  -- ---- one call

  -- its roll
  own : (n : ℕ) (c : keyset.Call) → keyset.clearance (set_at n) c ≡ waits.Clear
      → marked (suc n) ≡ mark c → asked_at entries (suc n) ≡ due (keyset.accepted_reply c)
      → All n → Own (Based (suc n)) c
  own n (keyset.StartRoll q olds news now) v mk asked h =
      (suc n, base_here entries q (suc n) (ap (is_step q) mk ∙ same-same q), asked)
  own n (keyset.Report q half ttl now) v mk asked h =
      based-on n q (propagation half) (cache_expire half ttl) (grind arith)
      (ap (is_step q) mk) (h q (propagation half) (spreads half _ (no_cause _ v)))
  own n (keyset.Wait q First now) v mk asked h =
      (suc n, base_here entries q (suc n) (ap (is_step q) mk ∙ same-same q), asked)
  own n (keyset.Wait q Second now) v mk asked h =
      let w = waits_in_phase q Second now (world_of (set_at n)) v in
      based-on n q (CacheExpire2 w.0) Done refl (ap (is_step q) mk) (h q (CacheExpire2 w.0) w.1)
  own n _ v mk asked h = tt

  pub based : (n : ℕ) → n ≤ length entries → All n
  unfolding world_at
  based zero le = λ r p e. absurd (none-some p e)
  based (suc n) le =
      let h = based n (omega arith) in
      let x = made-at run n le in
      let c = call_of x.0 in
      elim (outcome run n x.0 x.1 x.2 x.3) [
        | inl y ↦ λ r p now. based-on n r p p refl (ap (is_step r) y.2) (h r p (rw y.1 at now))
        | inr d ↦
            let asked = ap (λ o. option_map_or (λ (x : Entry). asked_by x.reply) o []) x.3
            ∙ due_by x.1.reply ∙ ap due d.4 in
            by-phase (set_at n) (set_at (suc n)) (Based (suc n)) c d.2
            (own n c d.1 d.5 asked h) (λ r p aside was. based-on n r p p refl
            (ap (is_step r) d.5 ∙ unstepped c r aside) (h r p was))
      ]

  -- ---- a report

  -- what the law says of it
  abbrev Retires : ℕ → RollType → Bool → Type 0
  Retires n roll second = (base : ℕ) × (base_below entries roll n ≡ Some base)
      × ((kind : SetKind) →
      (retires roll second kind ≡ true) ↔ Contains (asked_at entries base) (report_of kind))

  retires-by : (n : ℕ) (r : RollType) (half : Half) → Based n r (propagation half)
      → Retires (suc n) r (is_second half)
  retires-by n r half b = (
    b.0,
    b.1,
    λ kind.
        let opens : opening (propagation half) ≡ propagation half = grind arith in
        let asked : list_any (asks kind) (asked_at entries b.0)
        ≡ retires r (is_second half) kind =
        ap (list_any (asks kind)) (b.2 ∙ ap (actions_of r) opens)
        ∙ retires-asked r half kind in (
          λ t. asks_report kind (asked_at entries b.0) (asked ∙ t),
          λ c. sym asked ∙ report_asked kind (asked_at entries b.0) c,
        ),
  )

  -- that of a call
  reported : (n : ℕ) → n ≤ length entries → (c : keyset.Call)
      → keyset.clearance (set_at n) c ≡ waits.Clear → (roll : RollType) (second : Bool) (ttl : ℕ)
      → mark c ≡ Report roll second ttl → Retires (suc n) roll second
  reported n le (keyset.Report r half t now) v roll second ttl e =
      let so = based n le r (propagation half) (spreads half _ (no_cause _ v)) in
      subst (λ r. Retires (suc n) r second) {x = r} {y = roll} (cc)
      (subst (Retires (suc n) r) {x = is_second half} {y = second} (cc) (retires-by n r half so))
  reported n le (keyset.Wait a First b) v roll second ttl e = absurd (cc)
  reported n le _ v roll second ttl e = absurd (cc)

  -- a report retires what the reply that it counts from asked to report
  pub retires-as-asked : RetiresAsAsked entries
  unfolding position_at
  retires-as-asked zero roll second ttl e = absurd (cc)
  retires-as-asked (suc n) roll second ttl e = elim (cases_lt n (length entries)) [
    | inl lt ↦ let x = made-at run n (omega arith) in elim (outcome run n x.0 x.1 x.2 x.3) [
      | inl y ↦ let no : Other ≡ Report roll second ttl = sym y.2 ∙ e in absurd (cc)
      | inr d ↦ reported n (omega arith) (call_of x.0) d.1 roll second ttl (sym d.5 ∙ e)
    ]
    | inr past ↦ let none : Other ≡ Report roll second ttl =
        sym (rw (slice_get_past entries n past) refl) ∙ e in absurd (cc)
  ]
