-- Each window follows, and so do the time and the steps.
use Rattle.dnssec_judge.proofs.Base.{ℕ, ◌<◌, ◌∙◌, ◌≡◌, ap, AreStepsOf, arith, Bool, CachedSet}
use Rattle.dnssec_judge.proofs.Base.{count, Dnskey, Ds, false, if◌then◌else◌, is_step, Keys, length}
use Rattle.dnssec_judge.proofs.Base.{max, more, NoneBefore, over_all, refl, rules, Some, step_of}
use Rattle.dnssec_judge.proofs.Base.{subst, suc, sym, tests, time-new, time_at, unwrap_or, Window}
use Rattle.dnssec_judge.proofs.Base.{Windows, ZoneSigners}
use Rattle.dnssec_base.specs.contracts.time.UnixTimePartialOrd.TheImpl.{partial_cmp-value}
use Rattle.dnssec_judge.proofs.OneByOne.Followed.{goes-on, stays-low, steps-follow}
use Rattle.dnssec_judge.proofs.judging.Windows.follow.Goals.{else-is_report+else-le}
use Rattle.dnssec_judge.proofs.judging.Windows.follow.Goals.{then-is_report+in_ok-lift}
use Rattle.dnssec_judge.specs.{Inner.Window.IsTaken, Inner.Windows.AreLifted}
use Rattle.std.specs.Ordering.{ord_max, partial_le}
use Rattle.dnssec_base.specs.contracts.time.UnixTimeOrd.TheImpl.{cmp-value}
use Rattle.dnssec_judge.proofs.Base.{None, Option, true≢false}
use Rattle.dnssec_judge.specs.Inner.Reports.{most}
use Rattle.dnssec_judge.specs.Inner.Floor.{over_by}
use Rattle.dnssec_judge.proofs.Base.{SetKind}
use Rattle.dnssec_key.specs.declared.roll.RollType.{RollType}
use Rattle.dnssec_run.specs.declared.record.Mark.{Mark}
use Rattle.dnssec_run.specs.declared.record.Mark.TheVariants.{Other, Report, Step}
use Rattle.dnssec_judge.proofs.judging.Windows.follow.Goals as goal

greatest : (r t u : ℕ) (moment : Option ℕ) → r ≡ ord_max cmp-value.it t u
    → u ≡ unwrap_or moment t → r ≡ max t (unwrap_or moment 0)
greatest r t u None is at = search (rules, tests)
greatest r t u (Some m) is at = search (rules, tests)

sooner : (next time : ℕ) (b : Bool) → b ≡ partial_le partial_cmp-value.it next time → b ≡ false
    → time < next
sooner next time b is e = search (rules, tests)

no-report : (mark : Mark)
    → ((roll : RollType) (second : Bool) (ttl : ℕ) → mark ≡ Report roll second ttl → ⊥)
    → (kind : SetKind) (base : RollType → Option ℕ) (moment : Option ℕ) (time : ℕ)
    → over_by kind base mark moment time ≡ 0
no-report Other isnt kind base moment time = refl
no-report (Step roll) isnt kind base moment time = refl
no-report (Report roll second ttl) isnt kind base moment time = absurd (isnt roll second ttl refl)

pub returns-clause-found : goal.returns-clause-found
returns-clause-found c = elim c.if-is_report.branch [
  | then-is_report+in_ok-lift b ↦
      rw b.self-is (ap (λ (w : Windows). w.found) b.in_ok-lift.ensures.kept)
  | else-is_report+else-le b ↦ rw b.self-is refl
]

-- the reports that a window keeps are those of before it took a set
none-still : (key : Keys) (before next : CachedSet) (at : ℕ) (old new : Window) (a b : ℕ)
    → IsTaken key before next at old new → b ≡ a → NoneBefore a old → NoneBefore b new
none-still key before next at old new a b taken same none t lt =
    ap (λ (w : Window). over_all w.dues.list.items t) taken.kept ∙ none t (omega (arith, lt, same))

pub returns-clause-follows : goal.returns-clause-follows
returns-clause-follows c es e key old comes taken f =
    let self = c.args.self.now in let w = c.if-is_report.self in let n = length es in
    let time = c.max-self.result in let mark = c.args.mark.now in
    let moment = c.args.moment.now in let k = taken.kept in
    let was : Windows = record self { at = c.args.at; time = time } in
    let fits : time < most = search rules in
    let now : time ≡ time_at (more es e) (suc n) =
    greatest time self.time _ moment c.max-self.ensures c.unwrap_or.ensures
    ∙ (λ i. max ((ap (λ (w : Windows). w.time) k ∙ f.time) i)
    (unwrap_or (sym comes.has_moment i) 0)) ∙ sym (time-new es e) in
    let l : AreLifted was w mark moment = elim c.if-is_report.branch [
      | then-is_report+in_ok-lift b ↦ rw b.self-is b.in_ok-lift.ensures
      | else-is_report+else-le b ↦
          let early = sooner self.next time b.le.result b.le.ensures b.if-le.false in
          let isnt = no-report mark (elim c.match-matches.branch [
            | goal.in-Report m ↦ absurd (true≢false (sym m.matches-is ∙ b.if-is_report.false))
            | goal.in_default m ↦ m.in_default.not-Report
          ]) in
          let next = ap (λ (w : Windows). w.next) k in
          let ds = none-still key _ _ _ old.ds self.ds _ self.next taken.ds next f.next.0 in
          let keys = none-still key _ _ _ old.dnskey self.dnskey _ self.next taken.dnskey next
          f.next.1 in
          let zone = none-still key _ _ _ old.zone self.zone _ self.next taken.zone next f.next.2 in
          rw b.self-is record {
            kept = refl;
            ds = stays-low self.ds self.next time _ ds early (isnt Ds _ moment);
            dnskey = stays-low self.dnskey self.next time _ keys early (isnt Dnskey _ moment);
            zone = stays-low self.zone self.next time _ zone early (isnt ZoneSigners _ moment);
            next = (ds, keys, zone);
          }
    ] in
    let steps : w.steps ≡ old.steps = ap (λ (w : Windows). w.steps) (l.kept)
    ∙ ap (λ (w : Windows). w.steps) k in
    let tested : w.tested ≡ old.tested = ap (λ (w : Windows). w.tested) (l.kept)
    ∙ ap (λ (w : Windows). w.tested) k in
    let base : AreStepsOf es self.steps =
    subst (AreStepsOf es) (sym (ap (λ (w : Windows). w.steps) k)) f.steps in
    let goes = goes-on es e mark moment c.args.at comes self.steps base time now
    fits in
    let ds = goes Ds key old.ds self.ds w.ds taken.ds l.ds f.ds in
    let keys = goes Dnskey key old.dnskey self.dnskey w.dnskey taken.dnskey l.dnskey f.dnskey in
    let zone = goes ZoneSigners key old.zone self.zone w.zone taken.zone l.zone f.zone in
    record {
      at = ap (λ (w : Windows). w.at) l.kept ∙ comes.here ∙ sym (count es e);
      steps = steps-follow es e old.steps _ mark c.args.at _ f.steps comes.here comes.has_mark
          (λ i. record {
            ds = (w.ds.spans.newest_is ∙ ds.watches.came_at) i;
            dnskey = (w.dnskey.spans.newest_is ∙ keys.watches.came_at) i;
            zone = (w.zone.spans.newest_is ∙ zone.watches.came_at) i;
          })
          (λ roll. c.note.ensures roll ∙ (λ i. if is_step roll mark then Some (record {
            at = c.args.at;
            origins = record {
              ds = w.ds.spans.newest;
              dnskey = w.dnskey.spans.newest;
              zone = w.zone.spans.newest;
            };
          }) else step_of (steps i) roll));
      time = ap (λ (w : Windows). w.time) l.kept ∙ now
          ∙ ap (time_at (more es e)) (sym (count es e));
      fits = omega (arith, ap (λ (w : Windows). w.time) l.kept, fits);
      ds = ds.watches;
      dnskey = keys.watches;
      zone = zone.watches;
      next = l.next;
      within = omega (arith, f.within, count es e, tested);
      tested = record {
        keys = λ p q x y lt less. f.tested.keys p q
            (ds.was p (omega (arith, lt, tested, f.within)) x)
            (keys.was q (omega (arith, less, tested, f.within)) y) (omega (arith, lt, tested))
            (omega (arith, less, tested));
        zones = λ p q x y lt less. f.tested.zones p q
            (keys.was p (omega (arith, lt, tested, f.within)) x)
            (zone.was q (omega (arith, less, tested, f.within)) y) (omega (arith, lt, tested))
            (omega (arith, less, tested));
      };
    }
