-- One key more has a number.
use Rattle.dnssec_judge.proofs.Base.{ℕ, ◌<◌, ◌∙◌, ◌≡◌, add_at, AreNumbered, arith, Change, Contains}
use Rattle.dnssec_judge.proofs.Base.{get_or, inl, inr, IsTable, refl, subst, take, take_all}
use Rattle.dnssec_judge.proofs.Base.{take_more}
use Rattle.dnssec_judge.specs.Adds.{Grows}
use Rattle.dnssec_judge.specs.declared.sets.adds.Table.{Table}
use Rattle.std.proofs.lemmas.List.Elements.{Contains-push_cases}
use Rattle.dnssec_judge.proofs.sets.adds.Table.give_all.Goals as goal

pub loop-change-preserved : goal.loop-change-preserved
loop-change-preserved c t =
    let so = c.loop-change.invariant t in
    let i = c.loop-change.change-index in let old = c.loop-change.self in
    let changes = c.args.changes.now in let item = c.change-item.result in
    let counts : 0 < item.added = omega (arith, c.if-change-eq0.false) in
    let new : Table = record (c.match-find.self) { latest = c.match-find.self2 } in
    let e : (IsTable new × Grows old new) × ((n : ℕ) × (add_at new n ≡ item.added)) =
    elim c.match-find.branch [
      | goal.in-Some w ↦ rw w.self-is (
        (record { apart = so.0.apart; known = so.0.known }, λ n counts. refl),
        (w.in-Some.number, w.in-Some.ensures.some),
      )
      | goal.in-None+in_ok-self-in-None w ↦
          (let g = w.in_ok-self-in-None.ensures in
          let more = g.extends (λ n e. c.find.ensures.none w.in-None.is so.0 n e counts) counts
          so.0 in
          rw w.self-is (
            (record { apart = more.0.apart; known = more.0.known }, more.1),
            (w.in_ok-self-in-None.field-0, g.ok),
          ))
    ] in (
      e.0.0,
      λ n counts. e.0.1 n (omega (arith, so.1 n counts, counts)) ∙ so.1 n counts,
      λ d there. elim (Contains-push_cases (take i changes) (get_or changes i item) d
          (subst (λ cs. Contains cs d) (take_more changes i item c.loop-change-test.true) there)) [
            | inl before ↦
                let was = so.2 d before in let n = was.1.0 in
                (was.0, (n, e.0.1 n (omega (arith, was.0, was.1.1)) ∙ was.1.1))
            | inr same ↦ subst (λ (d : Change). (0 < d.added)
                × ((n : ℕ) × (add_at new n ≡ d.added)))
                (c.change-item.is ∙ same) (counts, e.1)
          ],
    )

pub returns : goal.returns
returns c t = let so = c.loop-change.invariant t in (
  so.0,
  so.1,
  subst (AreNumbered c.loop-change.self)
      (take_all c.loop-change.change-index c.args.changes.now c.loop-change-test.false) so.2,
)
