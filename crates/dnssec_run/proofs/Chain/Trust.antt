-- Each call of a run keeps the invariant of the chain. So each position of a plain run is safe, and
-- safe by each algorithm if its starts keep the sets whole.
use Rattle.dnssec_keyset.proofs.Accepted.{gone_key, finishes, ends_early}
use Rattle.dnssec_keyset.proofs.{Changes.MovesOn, Changes.Changes, Moves.is-on, Moves.moves-on}
use Rattle.dnssec_keyset.proofs.{Sides.leaves-others, Exchange.Kinds.kind_number, Laws.no_add}
use Rattle.dnssec_keyset.proofs.Laws.{no_cause}
use Rattle.dnssec_keyset.specs.{Laws.LeavesOthers, Laws.roll_of, KeySet.KeySetParts}
use Rattle.dnssec_run.proofs.Effects.{accepted_step, refused_step, moved_key, same-number}
use Rattle.dnssec_run.proofs.Chain.Lists.{keeps-cut, keeps-on, listed-same, is_listed-filter}
use Rattle.dnssec_run.proofs.Chain.Tale.{Passes, Tale, Key, world_at, start_key, if_some}
use Rattle.dnssec_run.proofs.Chain.Tale.{early-end-parts, start-parts}
use Rattle.dnssec_run.proofs.Chain.Setters.{harmless, harmless-same, set_role}
use Rattle.dnssec_run.proofs.Chain.OneKey.{Mapped, Waits, wait_mark}
use Rattle.dnssec_run.proofs.Chain.Places.{place_at, real, all_ok, same_call, none_at_start}
use Rattle.dnssec_run.proofs.Chain.BothSides.{Inv, mapped, calm, report, done}
use Rattle.dnssec_run.proofs.Chain.Family.{algorithm-law, of_algorithm, whole-law}
use Rattle.dnssec_run.proofs.Chain.Allowed.{can_start, waits_in_phase, spreads}
use Rattle.dnssec_run.proofs.Chain.{Flags.is_in, Returns.KeepsLists, Returns.early_end_key}
use Rattle.dnssec_run.proofs.Chain.{Invariant.At, KeyCalls.kept_put, KeyCalls.kept_changed}
use Rattle.dnssec_run.proofs.Chain.{FirstCalls.start, Waits.wait1, Waits.wait2}
use Rattle.dnssec_run.proofs.Chain.{SideBySide.end_early, SideBySide.family-safe, Keeping.engaged}
use Rattle.dnssec_run.proofs.Chain.{History.nothing_in, History.not_in_empty, Life.Law}
use Rattle.dnssec_run.proofs.Chain.Life.{PassesAt}
use Rattle.dnssec_run.proofs.{Next.mark-accepted, Next.mark-refused}
use Rattle.dnssec_run.proofs.Premise.{DoesAt, start_of, first_wait_of, plain-by-sets, sets_nothing}
use Rattle.dnssec_run.specs.declared.record.Mark.TheVariants.{Other, Step, Report}
use Rattle.dnssec_run.specs.declared.{call.Call.Call, record.Entry.Entry}
use Rattle.dnssec_run.specs.{declared.record.Mark.Mark, Safe.position_at, Plain.IsPlain}
use Rattle.dnssec_run.specs.{Plain.StaysSafe, ByAlgorithm.StaysSafeByEach, ByAlgorithm.algorithm_of}
use Rattle.dnssec_run.specs.{Published.Id}
use Rattle.std.proofs.Common.{◌≡◌, ℕ, zero, suc, ◌≤◌, inl, inr, Bool, true, false, refl, sym, ◌∙◌}
use Rattle.std.proofs.Common.{ap, subst, arith, List, [], length, Option, None, Some}
use Rattle.std.proofs.lemmas.Bool.{true≢false, cases_Bool, eqb-true, eq-eqb}
use Rattle.std.proofs.lemmas.{Iterator.Adapters.option_map_id, Option.same_Some, Option.none-some}
use Rattle.std.specs.{Prelude.if◌then◌else◌, Option.option_map, FinMap.get}
use Rattle.std.specs.{Cmp.Lexicographic.bytes_decides, List.Contains}
use Rattle.dnssec_key.specs.declared.roll.Half.{Half}
use Rattle.dnssec_key.specs.declared.roll.Half.TheVariants.{First, Second}
use Rattle.dnssec_key.specs.RollTable.{after_wait, after_report, is_second}
use Rattle.dnssec_key.specs.declared.roll.RollType.{RollType, TheVariants.AlgorithmRoll}
use Rattle.dnssec_key.specs.declared.roll.RollState.{RollState, TheVariants.Propagation1}
use Rattle.dnssec_key.specs.{declared.kind.KeyType.KeyType, Setters.Present}
use Rattle.dnssec_key.specs.{Setters.is_flag_setting, State.is_future, Key.all_states}
use Rattle.dnssec_zone.specs.Lists.{Listed, listed_by, Lists}
use Rattle.dnssec_zone.specs.{Rolls.phase_of, Start.is_listed}
use Rattle.dnssec_zone.proofs.Flags.{SideOf, Keys, Zone, Quiet, affects, flags_fit, is_idle}
use Rattle.dnssec_zone.proofs.Flags.{stale-idle, blank-idle}
use Rattle.dnssec_keyset.specs.Step as keyset
use Rattle.dnssec_zone.specs.Wait as waits
use Rattle.dnssec_zone.specs.Lists as lists
use Rattle.dnssec_run.specs.Record as rec

-- ---- marks, moments and new keys, from the key set's calls

abbrev pub mark : keyset.Call → Mark
mark (keyset.StartRoll r o n t) = Step r
mark (keyset.Wait r First t) = Step r
mark (keyset.Report r half ttl t) = Report r (is_second half) ttl
mark _ = Other

abbrev pub moment : keyset.Call → Option ℕ
moment (keyset.Set r (Present value now)) = Some now
moment (keyset.StartRoll r o n now) = Some now
moment (keyset.Report r h ttl now) = Some now
moment (keyset.Wait r h now) = Some now
moment _ = None

abbrev pub adds_blank : keyset.Call → Bool
adds_blank (keyset.AddKey r k) = all_states is_future k.keytype
adds_blank _ = true

pub record Plainly (c : Call) : Type 0 where
  pub mark_is : rec.mark_of c ≡ mark (rec.call_of c)
  pub moment_is : rec.call_moment c ≡ moment (rec.call_of c)
  pub blank : adds_blank (rec.call_of c) ≡ true

pub plainly : (c : Call) → Plainly c
plainly c = grind arith

-- ---- one call

module _ (tale : Tale) (law : Law tale) (n : ℕ) (here : suc n ≤ length tale.es) where
  abbrev before : KeySetParts
  before = (real tale n).set

  abbrev after : KeySetParts
  after = (real tale (suc n)).set

  record Accepted (c : keyset.Call) : Type 0 where
    clear : keyset.clearance before c ≡ waits.Clear
    changes : Changes before c after
    leaves : LeavesOthers before c after
    plain : sets_nothing before c ≡ true
    blank : adds_blank c ≡ true
    added : (q : List ℕ) → (world_at tale (suc n)).added q
        ≡ rec.with_added (suc n) (rec.reference_added c) (world_at tale n).added q
    mark_is : (position_at tale.es (suc n)).mark ≡ mark c
    moment_is : (position_at tale.es (suc n)).moment ≡ moment c
    passes : PassesAt tale n → first_wait_of c ≡ Some AlgorithmRoll
    starts : (q : RollType) → start_of c ≡ Some q → DoesAt start_of tale.calls tale.es n q

  -- a call on a roll maps the keys, puts the roll's state, and leaves the lists of other rolls
  on_roll : {c : keyset.Call} {r : RollType} {o : Option RollState} {kept : Lists} → Accepted c
      → (g : List ℕ → Key → Key) → roll_of c ≡ Some r
      → MovesOn before after r o kept (moved_key before c)
      → ((q : List ℕ) (k : Key) → moved_key before c q k ≡ g q k)
      → ((q : List ℕ) → (world_at tale (suc n)).added q ≡ (world_at tale n).added q)
      → Mapped tale n g r o × ((sd : SideOf)
      → (o ≡ Some Propagation1 → affects sd r ≡ true → ⊥) → KeepsLists tale sd n)
  on_roll {c} {r} {o} a g on h same added =
      let keys = λ (q : List ℕ). h.keys q ∙ (λ i. option_map (λ k. same q k i) (get before.keys q))
      in
      let m = mapped tale n g r o keys added (λ q. ap (λ rolls. phase_of rolls q) h.rolls)
      (λ q k. ap (λ (k : Key). kind_number k.keytype) (sym (same q k)) ∙ same-number before c q k)
      (λ q k e other. same_Some (g q k) k
      (sym (keys q ∙ ap (option_map (g q)) e) ∙ a.leaves r q k on e other)) in
      (m, keeps-on tale n r o _ (moves-on before after c r (is-on c r on) a.changes).lists m.rolls)

  waits_on : (half : Half) (r : RollType) (now : ℕ) → Accepted (keyset.Wait r half now)
      → (position_at tale.es (suc n)).mark ≡ wait_mark half r → Waits tale n half r
  waits_on half r now a m =
      let w = waits_in_phase r half now (real tale n) a.clear in
      let on = on_roll a (λ q. after_wait r half now) refl a.changes (λ q k. refl) a.added in
      record {
        ttl = w.0;
        now = now;
        mapped = on.0;
        phase = w.1;
        over = w.2;
        mark = m;
        moment = a.moment_is;
        lists = λ sd. on.1 sd (λ e own. grind arith);
      }

  accepted : (c : keyset.Call) → Accepted c → Inv tale n → Inv tale (suc n)
  accepted (keyset.AddKey r k) a inv =
      let h = a.changes in
      let kept = kept_put tale n h (
        ap (all_ok is_idle) (no_add before.keys r k.key_tag (no_cause _ a.clear)).1,
        blank-idle k.keytype a.blank,
      ) (λ q t. a.added q ∙ ap (λ b. if b then suc n else (world_at tale n).added q) t) in
      calm tale n here kept a.mark_is (λ s. none-some AlgorithmRoll (a.passes s))
      (keeps-cut tale n false r kept.rolls h.lists (λ sd cut j f role. cc)) inv
  accepted (keyset.Set r s) a inv =
      let h = a.changes in
      let kept = kept_changed tale n (λ q. ap (λ rolls. phase_of rolls q) h.rolls)
      (harmless before r s a.plain) h.keys a.added in
      calm tale n here kept a.mark_is (λ s. none-some AlgorithmRoll (a.passes s))
      (keeps-cut tale n (is_flag_setting s) r kept.rolls h.lists (λ sd flag j f role. true≢false
      (sym role ∙ set_role _ sd s (get before.keys r) j ((bytes_decides r r).1 refl) a.plain flag
      (sym (h.keys r) ∙ f)))) inv
  accepted (keyset.DeleteKey r) a inv =
      let h = a.changes in
      let gone = gone_key (get before.keys r) (no_cause _ a.clear) in
      let kept = kept_put tale n h
      (ap (all_ok is_idle) gone.1 ∙ stale-idle gone.0.keytype gone.2, refl) (λ q t. a.added q) in
      calm tale n here kept a.mark_is (λ s. none-some AlgorithmRoll (a.passes s))
      (keeps-cut tale n true r kept.rolls h.lists (λ sd cut j f role. none-some j (sym (h.keys r
      ∙ ap (λ b. if b then None else get before.keys r) ((bytes_decides r r).1 refl)) ∙ f))) inv
  accepted (keyset.StartRoll r old new now) a inv =
      let on = on_roll a (start_key r now old new) refl a.changes
      (λ q. start-parts r now (is_listed old q) (is_listed new q)) a.added in
      let listed : listed_by after.lists r ≡ lists.listed_at_start before.keys old new =
      ap (λ l. listed_by l r) a.changes.lists
      ∙ listed-same before.lists r (lists.listed_at_start before.keys old new) in
      start tale n here r (record {
        now = now;
        old = old;
        new = new;
        mapped = on.0;
        can = can_start (real tale n) r old new (no_cause _ a.clear);
        mark = a.mark_is;
        olds = λ q. ap (λ (l : Listed). is_listed l.olds q) listed
            ∙ is_listed-filter (lists.has_kept_key before.keys) old q;
        news = λ q. ap (λ (l : Listed). is_listed l.news q) listed;
        lists = λ sd out. on.1 sd (λ e own. true≢false (sym own ∙ out));
      }) law (a.starts r refl) (λ s. none-some AlgorithmRoll (a.passes s)) inv
  accepted (keyset.Report r half ttl now) a inv =
      let on = on_roll a (λ q. after_report r half now) refl a.changes (λ q k. refl) a.added in
      report tale n here r half ttl now on.0 (spreads half _ (no_cause _ a.clear)) a.mark_is
      a.moment_is (λ s. none-some AlgorithmRoll (a.passes s))
      (λ sd. on.1 sd (λ e own. grind arith)) inv
  accepted (keyset.Wait r First now) a inv =
      wait1 tale n here r (waits_on First r now a a.mark_is) inv
      (λ s. same_Some r AlgorithmRoll (a.passes s))
  accepted (keyset.Wait r Second now) a inv =
      wait2 tale n here r (waits_on Second r now a a.mark_is) inv
      (λ s. none-some AlgorithmRoll (a.passes s))
  accepted (keyset.AbortRoll r) a inv =
      let on = on_roll a (early_end_key tale r n) refl a.changes (λ q. early-end-parts r _ _)
      a.added in
      end_early tale n here r on.0 (ends_early _ (no_cause _ a.clear)) a.mark_is
      (λ sd. on.1 sd (λ e own. none-some Propagation1 e))
      (λ s. none-some AlgorithmRoll (a.passes s)) inv
  accepted (keyset.RollDone r) a inv =
      let on = on_roll a (λ q k. k) refl a.changes (λ q k. refl) a.added in
      done tale n here r on.0 (finishes _ (no_cause _ a.clear)) a.mark_is
      (λ s. none-some AlgorithmRoll (a.passes s))
      (λ sd. on.1 sd (λ e own. none-some Propagation1 e)) inv

  next : Inv tale n → Inv tale (suc n)
  next inv =
      let p = place_at tale n here in
      let c = rec.call_of p.call in
      let r = p.entry.reply in
      let was = (world_at tale n).added in
      let added = λ (b : Bool) (t : rec.is_accepted r ≡ b) (q : List ℕ). ap (λ f. f q) p.added_is
      ∙ ap (λ b. (if b then rec.with_added (suc n) (rec.reference_added c) was else was) q) t in
      let mark_is = ap (λ q. q.mark) p.position_is ∙ p.ok.mark in
      let passes = same_call first_wait_of tale n p AlgorithmRoll in
      elim (cases_Bool (rec.is_accepted r)) [
        | inl t ↦ let step = accepted_step before after c r t p.ok.step in accepted c (record {
          clear = step.0;
          changes = step.1;
          leaves = leaves-others before after c (rec.reply_of r) p.ok.step;
          plain = p.plain;
          blank = (plainly p.call).blank;
          added = added true t;
          mark_is = mark_is ∙ sym (mark-accepted p.call r t) ∙ (plainly p.call).mark_is;
          moment_is = ap (λ q. q.moment) p.position_is ∙ p.ok.moment ∙ (plainly p.call).moment_is;
          passes = λ s. (passes s).1;
          starts = λ q e. record {
            call = p.call;
            entry = p.entry;
            call_is = p.call_is;
            entry_is = p.entry_is;
            accepted = t;
            roll_is = e;
          };
        }) inv
        | inr t ↦
            let same = refused_step before after c r t p.ok.step in
            let kept = kept_changed tale n
            (λ q. ap (λ (s : KeySetParts). phase_of s.rolls q) same) (λ q k e. harmless-same k)
            (λ q. ap (λ (s : KeySetParts). get s.keys q) same
            ∙ sym (option_map_id (get before.keys q))) (added false t) in
            calm tale n here kept (mark_is ∙ sym (mark-refused p.call r t))
            (λ s. true≢false (sym (passes s).0 ∙ t)) (keeps-cut tale n false [] kept.rolls
            (ap (λ (s : KeySetParts). s.lists) same) (λ sd cut j f role. cc)) inv
      ]

-- ---- the whole run

nothing : (tale : Tale) (p : KeyType → Bool) (id : Id) → Passes tale p zero id → ⊥
nothing tale p id e = true≢false (sym e ∙ ap (if_some p) (none_at_start tale id))

first_at : (tale : Tale) (sd : SideOf) → At tale sd Quiet zero
unfolding rec.world_at
first_at tale sd = record {
  own = refl;
  rolls = λ q e. refl;
  flags = λ id. ap (all_ok (flags_fit sd Quiet)) (none_at_start tale id);
  holds = λ set q le un id e. absurd (nothing tale (is_in sd set) id e);
  back = tt;
}

first : (tale : Tale) → Inv tale zero
unfolding rec.world_at position_at
first tale = record {
  ks = Quiet;
  zs = Quiet;
  keys = first_at tale Keys;
  zone = first_at tale Zone;
  pairs = λ r q o p e f d. absurd (none-some o e);
  phases = λ r p e. absurd (none-some p e);
  life = inr (inr (
    (λ q le un id o c. not_in_empty id
        (let e : q ≡ zero = omega arith in
        subst (λ q. Contains (position_at tale.es q).ds id) e c)),
    (λ w m lt s. omega (arith, lt)),
    inl (λ id o e. nothing tale engaged id e),
  ));
}

pub always : (tale : Tale) → Law tale → (n : ℕ) → n ≤ length tale.es → Inv tale n
always tale law zero le = first tale
always tale law (suc n) le = next tale law n le (always tale law n (omega arith))

module _ (name : List ℕ) (calls : List Call) (entries : List Entry)
    (run : rec.IsRun name calls entries) where
  -- the run, with the family of all keys
  abbrev pub whole : IsPlain name calls entries → Tale
  whole plain = record {
    name = name;
    calls = calls;
    es = entries;
    run = run;
    plain = plain-by-sets run plain;
    of = λ id. true;
    whole = true;
    all = λ w id. refl;
  }

  -- if the list is plain, every position of its record is safe
  pub chain-holds : StaysSafe name calls entries
  chain-holds plain n le p q z up uq uz =
      let tale = whole plain in
      elim (family-safe tale n (always tale (whole-law tale refl) n le) p q z up uq uz) [
        | inl none ↦ inl (nothing_in _ (λ id c. none id refl c))
        | inr c ↦ inr ((c.0.0, c.0.1, c.0.2.0, c.0.2.1), (c.1.0, c.1.1, c.1.2))
      ]

  -- if it also keeps the sets whole, every position is safe by each algorithm
  pub each-holds : StaysSafeByEach name calls entries
  each-holds plain keeps n le p q z up uq uz d in_ds =
      let a = algorithm_of calls d in
      let tale = of_algorithm (whole plain) a in
      elim (family-safe tale n (always tale (algorithm-law (whole plain) a keeps) n le) p q z
      up uq uz) [
        | inl none ↦ absurd (none d (eq-eqb a a refl) in_ds)
        | inr c ↦ (
          (c.0.0, eqb-true _ a c.0.3, c.0.1, c.0.2.0, c.0.2.1),
          (c.1.0, eqb-true _ a c.1.3, c.1.1, c.1.2),
        )
      ]
