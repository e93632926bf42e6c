-- A roll is done after its delays and its waits, and a lag for each call made meanwhile.
use Rattle.std.proofs.Common.{◌≡◌, ℕ, suc, ◌+◌, ◌*◌, ◌^◌, ◌<◌, ◌≤◌, ◌⊎◌, inl, inr, Bool, true}
use Rattle.std.proofs.Common.{false, List, Option, None, Some, length, refl, sym, ap, subst}
use Rattle.std.proofs.{Common.◌∙◌, Common.arith, lemmas.Bool.cases_lt, lemmas.Bool.true≢false}
use Rattle.std.proofs.lemmas.Option.{none-some, same_Some, slice_get_within}
use Rattle.std.specs.{Prelude.if◌then◌else◌, Prelude.slice_get, Prelude.◌&&◌, Option.option_map}
use Rattle.dnssec_key.specs.declared.roll.RollState.{RollState, TheVariants.Done}
use Rattle.dnssec_key.specs.declared.roll.{RollType.RollType, Half.Half}
use Rattle.dnssec_key.specs.declared.roll.Half.TheVariants.{First, Second}
use Rattle.dnssec_key.specs.RollTable.{cache_expire, is_second}
use Rattle.dnssec_zone.specs.Rolls.{phase_of, same_roll}
use Rattle.dnssec_zone.specs.{Start.together, Wait.wait_in_phase}
use Rattle.dnssec_zone.specs.Wait as waits
use Rattle.dnssec_keyset.specs.{KeySet.KeySetParts, WaitEnd.EndsAt, WaitEnd.SaysEnd}
use Rattle.dnssec_keyset.specs.declared.wait.WaitEnd.{WaitEnd, TheVariants.At, TheVariants.PastTime}
use Rattle.dnssec_keyset.specs.Step as keyset
use Rattle.dnssec_run.specs.declared.{call.Call.Call, record.Entry.Entry}
use Rattle.dnssec_run.specs.{declared.record.Mark.TheVariants.Report, Plain.DoesAt}
use Rattle.dnssec_run.specs.Record.{IsRun, call_moment, call_of, is_accepted, world_at}
use Rattle.dnssec_run.specs.Safe.{SetKind, Ds, Dnskey, ZoneSigners, base_below}
use Rattle.dnssec_run.specs.{Safe.position_at, Safe.retires, Steps.step_at}
use Rattle.dnssec_run.specs.WholeRolls.{LastReport, NeverFalls, counts_from, propagation}
use Rattle.dnssec_run.proofs.Chain.{Rolls.same-same, Rolls.same-sym, Trust.mark, Trust.plainly}
use Rattle.dnssec_run.proofs.Effects.{is_on}
use Rattle.dnssec_run.proofs.Premise.{SetsNothing, end_of, same-rolls, sets-nothing}
use Rattle.dnssec_run.proofs.WholeRolls.Waits.{clear-from}
use Rattle.dnssec_run.specs.WholeRolls as rolls
use Rattle.dnssec_network.specs.Network.{Network}
use Rattle.dnssec_policy.specs.Automatic.{IsAutomatic, last_below}
use Rattle.dnssec_policy.specs.Delays.{AreMade, Delays, HasTtls, IsAfter}
use Rattle.dnssec_policy.specs.Delays.{SpreadWithin, Watch, delay_of, said}
use Rattle.dnssec_policy.specs.Laws.{IsPrompt, UntilOver}
use Rattle.dnssec_policy.specs.{Todo.Make, Todo.Todo, Todo.rank, View.View}
use Rattle.dnssec_policy.specs.Ttls.{at_most_due, if_retired, report_takes}
use Rattle.dnssec_policy.proofs.PlainCalls.{add-is, automatic-plain}
use Rattle.dnssec_policy.proofs.Bound.{ends-in-time, in-time, lasts-longer, no-longer}
use Rattle.dnssec_policy.proofs.{Clear.half-is, Lags.climbs, May.May}
use Rattle.dnssec_policy.proofs.Notes.{add-moment, at-now, none-ahead}
use Rattle.dnssec_policy.proofs.{Prompt.prompt, Said.may-next, Said.task-said, Steps.second_of}

-- ---- higher TTLs

takes-more : (h ttl : SetKind → ℕ) → ((kind : SetKind) → h kind ≤ ttl kind)
    → (roll : RollType) (second : Bool) → report_takes h roll second ≤ report_takes ttl roll second
takes-more h ttl le roll second =
    let ds = one Ds in let dnskey = one Dnskey in let zone = one ZoneSigners in
    lasts-longer h ttl le roll second (at_most_due h roll second) (at_most_due ttl roll second)
    (omega (arith, ds, dnskey, zone))
  where
    by : (t : Bool) (m n : ℕ) → m ≤ n → (if t then m else 0) ≤ (if t then n else 0)
    by true m n le = le
    by false m n le = omega arith

    one : (kind : SetKind) → if_retired h roll second kind ≤ if_retired ttl roll second kind
    one kind = by (retires roll second kind) (h kind) (ttl kind) (le kind)

-- ---- waits

-- a wait that nothing bars at a moment is over by then
over-by : (set : KeySetParts) (roll : RollType) (half : Half) (ttl latest end : ℕ)
    → phase_of set.rolls roll ≡ Some (cache_expire half ttl)
    → keyset.wait_clearance roll half latest set ≡ waits.Clear → EndsAt roll set end
    → end ≤ latest
over-by set roll half ttl latest end phase clear e = elim (cases_lt latest end) [
  | inl lt ↦
      let same = (half-is (phase_of set.rolls roll) half e.0 ttl e.1 phase e.2).0 in
      let is : keyset.wait_clearance roll e.0 latest set ≡ waits.Clear =
      subst (λ h. keyset.wait_clearance roll h latest set ≡ waits.Clear) (sym same) clear in
      let early : wait_in_phase roll e.0 (Some e.1) latest set.keys ≡ waits.Clear =
      ap (λ o. wait_in_phase roll e.0 o latest set.keys) (sym e.2) ∙ is in
      let not = sym early ∙ e.3.early latest lt in absurd (cc)
  | inr ge ↦ ge
]

-- so a call is said from then on
over-said : (v : View) (todo : Todo) (roll : RollType) (latest : ℕ) → latest ≤ v.now
    → latest < 2 ^ 64 * 1_000_000_000 → ((end : ℕ) → EndsAt roll v.set end → end ≤ latest)
    → (o : Option WaitEnd) → SaysEnd roll v.set o → UntilOver v.now todo o → rank todo ≡ 0
over-said v todo roll latest le small within None says until = absurd until
over-said v todo roll latest le small within (Some PastTime) says until =
    let past = says.1 in absurd (omega (arith, within says.0 says.2, past, small))
over-said v todo roll latest le small within (Some (At end)) says until =
    let by = within end says in until.0 (omega (arith, by, le))

until : (v : View) (todo : Todo) (roll : RollType) (half : Half) (ttl : ℕ)
    → IsPrompt v todo roll (cache_expire half ttl) → UntilOver v.now todo (v.end roll)
until v todo roll First ttl p = p
until v todo roll Second ttl p = p

-- ---- one call

-- what a call that is not on a roll leaves of it
pub second-off : (c : keyset.Call) (r : RollType) → is_on c r ≡ false → second_of c r ≡ false
second-off (keyset.Wait q Second now) r d = same-sym r q ∙ d
second-off _ r d = refl

pub unreported : (c : keyset.Call) (r : RollType) → is_on c r ≡ false → (second : Bool) (ttl : ℕ)
    → mark c ≡ Report r second ttl → ⊥
unreported (keyset.Report q half t now) r d second ttl e =
    let it : q ≡ r = cc in
    true≢false (sym (same-same r) ∙ subst (λ q. same_roll q r ≡ false) it d)
unreported (keyset.StartRoll q olds news now) r d second ttl e = absurd (cc)
unreported (keyset.Wait q First now) r d second ttl e = absurd (cc)
unreported (keyset.Wait q Second now) r d second ttl e = absurd (cc)
unreported _ r d second ttl e = absurd (cc)

pub ends-on : (c : keyset.Call) (r : RollType) → end_of c ≡ Some r → is_on c r ≡ true
ends-on (keyset.RollDone q) r e = ap (λ q. same_roll q r) (same_Some q r e) ∙ same-same r
ends-on (keyset.AbortRoll q) r e = ap (λ q. same_roll q r) (same_Some q r e) ∙ same-same r
ends-on _ r e = absurd (none-some r e)

pub not-beside-itself : (r : RollType) → together r r ≡ true → ⊥
not-beside-itself r e = grind arith

pub and-no : (a b : Bool) → (a ≡ false) ⊎ (b ≡ false) → (a && b) ≡ false
and-no false b h = refl
and-no true false h = refl
and-no true true h = elim h [ inl e ↦ absurd (true≢false e) | inr e ↦ absurd (true≢false e) ]

-- the call of an entry ends a roll
pub ends-by : (calls : List Call) (entries : List Entry) (n : ℕ) (roll : RollType) (c : Call)
    (e : Entry) → slice_get calls n ≡ Some c → slice_get entries n ≡ Some e
    → DoesAt rolls.end_of calls entries n roll
    → (end_of (call_of c) ≡ Some roll) × (is_accepted e.reply ≡ true)
ends-by calls entries n roll c e ci ei d =
    let it : d.call ≡ c = same_Some d.call c (sym d.call_is ∙ ci) in
    let its : d.entry ≡ e = same_Some d.entry e (sym d.entry_is ∙ ei) in (
      ap (λ (c : Call). end_of (call_of c)) (sym it) ∙ sym (same-rolls d.call).3 ∙ d.roll_is,
      ap (λ (e : Entry). is_accepted e.reply) (sym its) ∙ d.accepted,
    )

-- ---- calls that are made once they are said

module _ {name : List ℕ} {calls : List Call} {entries : List Entry} {network : Network}
    {watch : Watch} {lag time : ℕ} (run : IsRun name calls entries)
    (all : AreMade name calls entries network watch lag time) where
  abbrev pub set_at : ℕ → KeySetParts
  set_at n = (world_at name calls entries n).set

  pub within-calls : (n : ℕ) (c : Call) → slice_get calls n ≡ Some c → n < length entries
  within-calls n c ci = omega (arith, slice_get_within calls n c ci, run.count)

  pub auto : IsAutomatic name calls entries network time
  auto n c ci = elim (all.are_said n c ci) [
    | inl a ↦ inl a
    | inr s ↦ inr (record {
      policy = watch.policy s.0;
      view = watch.view n s.0;
      at = (all.known n s.0 s.1 s.2).0;
      clock = (let is = (all.known n s.0 s.1 s.2).1 in
          omega (arith, is, s.1.2 (within-calls n c ci)));
      said = task-said (watch.policy s.0) (watch.view n s.0) (call_of c) s.3;
    })
  ]

  pub never-aborts : (n : ℕ) (c : Call) → slice_get calls n ≡ Some c → (roll : RollType)
      → call_of c ≡ keyset.AbortRoll roll → ⊥
  never-aborts n c ci roll is = elim (all.are_said n c ci) [
    | inl a ↦ let other = sym (add-is c a).2 ∙ is in cc
    | inr s ↦ subst (May (watch.policy s.0) (watch.view n s.0)) is
        (may-next (watch.policy s.0) (watch.view n s.0) (call_of c) s.3)
  ]

  pub in-turn : (m n : ℕ) → m ≤ n → n ≤ length entries → network.made m ≤ network.made n
  in-turn m n le within =
      climbs network.made m n (λ k low high. all.in_order k (omega (arith, high, within))) le

  -- the moment of a call lies between the call before it and its own time
  moment-is : (n : ℕ) (c : Call) (m : ℕ) → slice_get calls n ≡ Some c → call_moment c ≡ Some m
      → (network.made n ≤ m) × (m ≤ network.made (suc n))
  moment-is n c m ci mo = elim (all.are_said n c ci) [
    | inl a ↦ absurd (none-some m (sym (add-moment c a) ∙ mo))
    | inr s ↦
        let v = watch.view n s.0 in
        let at = at-now (watch.policy s.0) v (call_of c)
        (may-next (watch.policy s.0) v (call_of c) s.3) m (sym (plainly c).moment_is ∙ mo) in
        let now = (all.known n s.0 s.1 s.2).1 in
        (omega (arith, at, now, s.1.1), omega (arith, at, now, s.1.2 (within-calls n c ci)))
  ]

  never-falls : NeverFalls calls
  never-falls i j c d a b le ci dj mc md = elim (cases_lt i j) [
    | inl lt ↦
        let x = moment-is i c a ci mc in
        let y = moment-is j d b dj md in
        let between = in-turn (suc i) j (omega (arith, lt)) (omega (arith, within-calls j d dj)) in
        omega (arith, x.1, y.0, between)
    | inr ge ↦
        let here : i ≡ j = omega (arith, le, ge) in
        let it : c ≡ d = same_Some c d (sym ci ∙ ap (slice_get calls) here ∙ dj) in
        let same : a ≡ b = same_Some a b (sym mc ∙ ap call_moment it ∙ md) in omega (arith, same)
  ]

  sets-none : SetsNothing name calls entries
  sets-none = sets-nothing run (automatic-plain run auto).setters

  -- no report of the roll was made since a position
  abbrev pub NoneReported : RollType → ℕ → ℕ → Type 0
  NoneReported roll at n = (m : ℕ) (second : Bool) (ttl : ℕ) → at < m → m ≤ n
      → (position_at entries m).mark ≡ Report roll second ttl → ⊥

  pub none-yet : (roll : RollType) (at : ℕ) → NoneReported roll at at
  none-yet roll at m second ttl lo hi mk = absurd (omega (arith, lo, hi))

  pub none-more : (roll : RollType) (at n : ℕ) → ((second : Bool) (ttl : ℕ)
      → (position_at entries (suc n)).mark ≡ Report roll second ttl → ⊥)
      → NoneReported roll at n → NoneReported roll at (suc n)
  none-more roll at n report none m second ttl lo hi mk = elim (cases_lt m (suc n)) [
    | inl lt ↦ none m second ttl lo (omega (arith, lt)) mk
    | inr ge ↦
        let same : m ≡ suc n = omega (arith, hi, ge) in
        report second ttl
        (subst (λ m. (position_at entries m).mark ≡ Report roll second ttl) same mk)
  ]

  wait-clear : (n : ℕ) → n ≤ length entries → network.made n ≤ time → (roll : RollType)
      (half : Half) (ttl at : ℕ) → at ≤ n
      → phase_of (set_at n).rolls roll ≡ Some (cache_expire half ttl) → NoneReported roll at n
      → keyset.wait_clearance roll half (network.made at + ttl * 1_000_000_000) (set_at n)
      ≡ waits.Clear
  wait-clear n within past roll half ttl at below phase none =
      let c = clear-from run sets-none never-falls n within roll half ttl phase in
      let from : LastReport entries roll (counts_from roll half) n = c.0 in
      let f = from.within in
      let early : from.at ≤ at = elim (cases_lt at from.at) [
        | inl lt ↦ absurd (none from.at (is_second (counts_from roll half)) from.ttl lt f from.mark)
        | inr ge ↦ ge
      ] in
      let made = in-turn from.at at early (omega (arith, below, within)) in
      let now = in-turn at n below within in
      let ahead = none-ahead run auto from.at from.moment (omega (arith, made, now, past))
      from.moment_is in
      c.1 (network.made at + ttl * 1_000_000_000) (omega (arith, made, ahead))

  -- ---- what is said of a roll

  module _ {roll : RollType} {delays : Delays} {ttl : SetKind → ℕ}
      (spread : SpreadWithin entries network watch time roll delays)
      (ttls : HasTtls entries network watch time roll ttl) where
    abbrev pub takes : Half → ℕ
    takes half = report_takes ttl roll (is_second half)

    takes-all : (n now : ℕ) → IsAfter entries network n now → now ≤ time → (half : Half)
        → report_takes (watch.view n now).highest roll (is_second half) ≤ takes half
    takes-all n now after le half = takes-more (watch.view n now).highest ttl
        (λ kind. ttls.highest n now kind after le) roll (is_second half)

    module _ (n now : ℕ) (after : IsAfter entries network n now) (le : now ≤ time) where
      abbrev v : View
      v = watch.view n now

      seen : (p : RollState) → phase_of (set_at n).rolls roll ≡ Some p
          → phase_of v.set.rolls roll ≡ Some p
      seen p is = ap (λ (set : KeySetParts). phase_of set.rolls roll)
          (all.known n now after le).0.set ∙ is

      pub report-said : (half : Half) (base : ℕ)
          → phase_of (set_at n).rolls roll ≡ Some (propagation half)
          → base_below entries roll (suc n) ≡ Some base
          → network.made base + delay_of delays half ≤ now → rank (said watch n now) ≡ 0
      report-said half base phase is past =
          let k = all.known n now after le in
          let step : v.step roll ≡ Some (step_at entries base) =
          k.0.step roll ∙ ap (option_map (step_at entries)) is in
          let here = seen (propagation half) phase in
          in-time (watch.policy now) v roll half (step_at entries base) k.2 k.0.highest here step
          (spread.reports n now half (step_at entries base) after le here step past)
          (omega (arith, takes-all n now after le half, ttls.small half))

      pub end-said : (base : ℕ) → phase_of (set_at n).rolls roll ≡ Some Done
          → last_below calls entries roll n ≡ Some base
          → network.made base + delays.second ≤ now → rank (said watch n now) ≡ 0
      end-said base phase is past =
          let last : v.last roll ≡ Some base = (all.known n now after le).0.last roll ∙ is in
          let here = seen Done phase in
          ends-in-time (watch.policy now) v roll base here last
          (spread.ends n now base after le here last past)

      pub wait-said : (half : Half) (ttl at : ℕ) → at ≤ n
          → phase_of (set_at n).rolls roll ≡ Some (cache_expire half ttl)
          → NoneReported roll at n → network.made at + ttl * 1_000_000_000 ≤ now
          → rank (said watch n now) ≡ 0
      wait-said half ttl at below phase none past =
          let k = all.known n now after le in
          let latest = network.made at + ttl * 1_000_000_000 in
          let clear = wait-clear n after.0 (omega (arith, after.1, le)) roll half ttl at below phase
          none in
          over-said v (said watch n now) roll latest (omega (arith, past, k.1))
          (omega (arith, past, le, all.clock))
          (λ end ends. over-by (set_at n) roll half ttl latest end phase clear
          (subst (λ (set : KeySetParts). EndsAt roll set end) k.0.set ends))
          (v.end roll) (k.0.end roll) (until v (said watch n now) roll half ttl
          (prompt run auto n after.0 v k.0 (watch.policy now) roll (cache_expire half ttl)
          (seen (cache_expire half ttl) phase)))

    -- a report that is said counts no longer
    pub counts : (n : ℕ) (c : Call) → slice_get calls n ≡ Some c → (half : Half) (t now : ℕ)
        → call_of c ≡ keyset.Report roll half t now → t ≤ takes half
    counts n c ci half t now is = elim (all.are_said n c ci) [
      | inl a ↦ let other = sym (add-is c a).2 ∙ is in absurd (cc)
      | inr s ↦
          let k = all.known n s.0 s.1 s.2 in
          let one = no-longer (watch.policy s.0) (watch.view n s.0) roll half t now k.2 k.0.highest
          (s.3 ∙ ap Make is) in
          omega (arith, one, takes-all n s.0 s.1 s.2 half)
    ]
