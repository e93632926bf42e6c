-- A started roll goes on, and its listed keys have left or are at work: `goes_on`, `finishes`.
use Rattle.std.proofs.Common.{◌≡◌, ℕ, zero, suc, ◌<◌, ◌≤◌, inl, inr, Bool, true, false, refl, sym}
use Rattle.std.proofs.Common.{◌∙◌, ap, subst, arith, List, length, Some}
use Rattle.std.proofs.lemmas.{Option.slice_get_within, Iterator.Adapters.option_map_id}
use Rattle.std.specs.{Prelude.slice_get, Prelude.if◌then◌else◌, Option.option_map, FinMap.get}
use Rattle.dnssec_key.specs.declared.roll.{RollType.RollType, RollState.RollState}
use Rattle.dnssec_key.specs.declared.roll.RollState.TheVariants.{Propagation1, Done}
use Rattle.dnssec_key.specs.{Key.KeyParts, RollTable.after_start}
use Rattle.dnssec_zone.{specs.Start.is_listed, proofs.Tags.mapped}
use Rattle.dnssec_keyset.{specs.KeySet.KeySetParts, proofs.Accepted.finishes, proofs.Laws.no_cause}
use Rattle.dnssec_run.specs.WholeRolls.{GoesOn, IsAccepted, HasLeft, IsAtWork, RollsFinish}
use Rattle.dnssec_run.specs.declared.{call.Call.Call, record.Entry.Entry, record.Reply.Reply}
use Rattle.dnssec_run.specs.Published.{World}
use Rattle.dnssec_run.specs.Record.{IsRun, call_of, reply_of, is_accepted, world_at}
use Rattle.dnssec_run.proofs.Effects.{added-at, adds, not-added}
use Rattle.dnssec_run.proofs.Premise.{DoesAt, SetsNothing, end-made, end_of, sets-nothing}
use Rattle.dnssec_run.proofs.WholeRolls.Going.{old-step, new-step, still, began, marked, newly}
use Rattle.dnssec_run.proofs.WholeRolls.Going.{oldly, over_facts}
use Rattle.dnssec_run.proofs.WholeRolls.Keys.{Idle, dates, roll_now}
use Rattle.dnssec_run.proofs.WholeRolls.Replies.{outcome, world_of, step-made, added-next, did}
use Rattle.dnssec_run.proofs.WholeRolls.Replies.{did-made, does, since}
use Rattle.dnssec_run.proofs.{Laws.made-at, Laws.stays-sound, Chain.Allowed.can_start}
use Rattle.dnssec_run.proofs.Chain.{OneKey.may_there, Rolls.same-same, Tale.start-parts}
use Rattle.dnssec_run.proofs.WholeRolls.{Order.in-order, Order.nothing_set, OrderedKeys.in-order-at}
use Rattle.dnssec_zone.specs.Wait as waits
use Rattle.dnssec_keyset.specs.Step as keyset

-- ---- the run

-- a clear call that takes no memory is accepted
accepts : (old new : KeySetParts) (c : keyset.Call) (r : Reply) → keyset.clearance old c
    ≡ waits.Clear → (keyset.TakesMemory c → ⊥) → keyset.Step old c (reply_of r) new
    → is_accepted r ≡ true
accepts old new c r clear free step = grind (arith, clear, free, step)

pub goes-on : {name : List ℕ} {calls : List Call} {entries : List Entry} → IsRun name calls entries
    → GoesOn name calls entries
goes-on {name} {calls} {entries} run = record {
  reports = λ n roll half ttl now report phase.
      accepts (world_at name calls entries n).set (world_at name calls entries (suc n)).set
      (keyset.Report roll half ttl now) report.entry.reply (grind arith) (λ t. t)
      (step-made run n (keyset.Report roll half ttl now) report);
  ends = λ n roll end phase.
      accepts (world_at name calls entries n).set (world_at name calls entries (suc n)).set
      (keyset.RollDone roll) end.entry.reply (grind arith) (λ t. t)
      (step-made run n (keyset.RollDone roll) end);
}

module _ {name : List ℕ} {calls : List Call} {entries : List Entry} (run : IsRun name calls entries)
    (plain : SetsNothing name calls entries) where
  abbrev at : ℕ → World
  at n = world_at name calls entries n

  added-bound : (n : ℕ) → n ≤ length entries → (q : List ℕ) → (at n).added q ≤ n
  unfolding world_at
  added-bound zero le q = omega arith
  added-bound (suc n) le q =
      let x = made-at run n le in
      let is = ap (λ f. f q) (added-next run n x.0 x.1 x.2 x.3) in
      let was = added-bound n (omega arith) q in
      grind (arith, is, was)

  -- an accepted call changes only the position of the key that it adds
  module _ (n : ℕ) (c : Call) (e : Entry) (ci : slice_get calls n ≡ Some c)
      (ei : slice_get entries n ≡ Some e) (ok : is_accepted e.reply ≡ true) (q : List ℕ) where
    added : (b : Bool) → adds (call_of c) q ≡ b
        → (at (suc n)).added q ≡ (if b then suc n else (at n).added q)
    added b t = rw (added-next run n c e ci ei, ok, added-at, t) refl

    -- a key that is there isn't added
    there_added : (k : KeyParts) → get (at n).set.keys q ≡ Some k
        → (at (suc n)).added q ≡ (at n).added q
    there_added k there =
        added false (not-added (at n).set (call_of c) (did run n c e ci ei ok).0 q k there)

    -- nor is one that was added before
    before_added : (s : ℕ) → s < n → n ≤ length entries
        → (at (suc n)).added q ≡ (at (suc s)).added q
        → ((at n).added q ≡ (at (suc s)).added q) × (adds (call_of c) q ≡ false)
    before_added s later within same =
        let bound = added-bound (suc s) (omega arith) q in
        let here = added true in
        let t : adds (call_of c) q ≡ false = grind (arith, here, bound, same) in
        (sym (added false t) ∙ same, t)

  module _ (s : ℕ) (roll : RollType) (olds news : List (List ℕ)) (now : ℕ) where
    -- what holds from the start on, until the roll ends
    record Lasting (w : World) : Type 0 where
      phase : RollState
      going : roll_now w.set roll ≡ Some phase
      left : (q : List ℕ) → is_listed olds q ≡ true → w.added q ≡ (at (suc s)).added q
          → (k : KeyParts) → get w.set.keys q ≡ Some k → marked oldly roll k.keytype ≡ true
      come : (q : List ℕ) → is_listed news q ≡ true → (w.added q ≡ (at (suc s)).added q)
          × (k : KeyParts) × (get w.set.keys q ≡ Some k) × (marked newly roll k.keytype ≡ true)

    lasting-next : (n : ℕ) (c : Call) (e : Entry) → s < n → n ≤ length entries
        → slice_get calls n ≡ Some c → slice_get entries n ≡ Some e
        → (DoesAt end_of calls entries n roll → ⊥) → Lasting (at n) → Lasting (at (suc n))
    lasting-next n c e later within ci ei not_end h = elim (outcome run n c e ci ei) [
      | inl y ↦
          let same : (at (suc n)).added ≡ (at n).added =
          rw (added-next run n c e ci ei, y.0) refl in
          subst Lasting (λ i. record { set = sym y.1 i; added = sym same i }) h
      | inr d ↦
          let old = (at n).set in
          let new = (at (suc n)).set in
          let clean = nothing_set old c (plain n c ci) in
          let all = (stays-sound run n within).rolls in
          let not_now : end_of (call_of c) ≡ Some roll → ⊥ =
          λ x. not_end (does run end_of roll n c e ci ei d.0 x) in
          let on = still roll old new all h.phase h.going (call_of c) d.2 not_now in
          record {
            phase = on.0;
            going = on.1;
            left = λ q l a. let x = before_added n c e ci ei d.0 q s later within a in
                old-step roll old new all h.phase h.going (call_of c) clean d.1 d.2 d.3 not_now q
                x.1 (h.left q l x.0);
            come = λ q l. let x = h.come q l in
                let y = new-step roll old new all h.phase h.going (call_of c) clean d.1 d.2 d.3
                not_now q x.1 x.2 x.3 in
                (there_added n c e ci ei d.0 q x.1 x.2 ∙ x.0, y.0, y.1, y.2);
          }
    ]

    -- the start
    lasting-first : IsAccepted calls entries s (keyset.StartRoll roll olds news now)
        → Lasting (at (suc s))
    lasting-first st =
        let old = (at s).set in
        let ok = did-made run s (keyset.StartRoll roll olds news now) st.0 st.1 in
        let can = can_start (world_of old) roll olds news (no_cause _ ok.0) in
        let started = λ (q : List ℕ) (k : KeyParts) (e : get old.keys q ≡ Some k).
        began roll (is_listed olds q) (is_listed news q) k.keytype
        (may_there roll _ olds news can q k e) in
        let parts = λ (q : List ℕ) (k : KeyParts).
        start-parts roll now (is_listed olds q) (is_listed news q) k in
        record {
          phase = Propagation1;
          going = rw (ok.1.rolls, same-same roll) refl;
          left = λ q l a j g.
              let b = mapped _ _ j (sym (ok.1.keys q) ∙ g) in
              ap (λ (k : KeyParts). marked oldly roll k.keytype) (sym b.2 ∙ parts q b.0)
              ∙ (started q b.0 b.1).0 l;
          come = λ q l.
              let x = can.new_is q l in (
                refl,
                after_start roll now (is_listed olds q) (is_listed news q) x.0,
                ok.1.keys q ∙ ap (option_map
                    (after_start roll now (is_listed olds q) (is_listed news q))) x.1,
                ap (λ (k : KeyParts). marked newly roll k.keytype) (parts q x.0)
                    ∙ (started q x.0 x.1).1 l,
              );
        }

    -- the end
    finish : IsAccepted calls entries s (keyset.StartRoll roll olds news now) → (n : ℕ) → s < n
        → (ends : IsAccepted calls entries n (keyset.RollDone roll))
        → ((m : ℕ) → s < m → m < n → DoesAt end_of calls entries m roll → ⊥)
        → ((q : List ℕ) → is_listed olds q ≡ true → HasLeft (at (suc s)) (at (suc n)) q)
        × ((q : List ℕ) → is_listed news q ≡ true → IsAtWork (at (suc s)) (at (suc n)) q)
    finish st n later ends none =
        let old = (at n).set in
        let m = ends.0 in
        let ok = did-made run n (keyset.RollDone roll) m ends.1 in
        let within : n ≤ length entries =
        let lt = slice_get_within entries n m.entry m.entry_is in omega arith in
        let h = since run (λ i. i ≤ n → Lasting (at i)) (suc s) (λ le. lasting-first st)
        (λ i c e after most ci ei h le. lasting-next i c e after (omega arith) ci ei
        (none i after le) (h (omega arith))) n later within (omega arith) in
        let keys = λ (q : List ℕ). ok.1.keys q ∙ option_map_id (get old.keys q) in
        let facts = λ (q : List ℕ) (k : KeyParts) (at_q : get old.keys q ≡ Some k).
        over_facts roll k.keytype (dates k) (λ sd own. in-order-at sd old (in-order run plain n sd)
        q k at_q roll Done Idle refl own (finishes _ (no_cause _ ok.0))) in (
          λ q l same k g.
              let a = before_added n m.made m.entry m.made_is m.entry_is ends.1 q s later within
              same in
              let there = sym (keys q) ∙ g in
              (facts q k there).0 (h.left q l a.0 k there),
          λ q l.
              let x = h.come q l in (
                there_added n m.made m.entry m.made_is m.entry_is ends.1 q x.1 x.2 ∙ x.0,
                x.1,
                keys q ∙ x.2,
                (facts q x.1 x.2).1 x.3,
              ),
        )

pub rolls-finish : {name : List ℕ} {calls : List Call} {entries : List Entry}
    → IsRun name calls entries → RollsFinish name calls entries
rolls-finish {name} {calls} {entries} run only s n roll olds news now later st ends none =
    finish run (sets-nothing run only) s roll olds news now st
    n later ends (λ m after before d. none m after before (end-made calls entries m roll d))
