-- A number that no key had is given to a key that had none.
use Rattle.dnssec_judge.proofs.Base.{ℕ, ◌&&◌, ◌∙◌, ◌≡◌, add_at, arith, FEW, get, if◌then◌else◌}
use Rattle.dnssec_judge.proofs.Base.{nat_cmp, nat_eq, nat_le, nat_tests, refl, Some}
use Rattle.dnssec_judge.proofs.Adds.{grown}
use Rattle.dnssec_judge.proofs.sets.adds.Table.give.Goals as goal

pub returns-clause-extends : goal.returns-clause-extends
returns-clause-extends c lacks counts t =
    let old = c.args.self.now in let given = c.in_ok-number.ensures in
    let number = c.in_ok-number.number in let added = c.args.added in
    let new = c.if-number-ge-FEW.self in
    let places : (n : ℕ) → add_at new n ≡ add_at c.place.new.self n =
    elim c.if-number-ge-FEW.branch [
      | goal.then-number-ge-FEW+in_ok-insert w ↦ λ n. rw w.self-is refl
      | goal.else-number-ge-FEW w ↦ λ n. rw w.self-is refl
    ] in
    let known : (at : ℕ) → get nat_cmp new.by_added at ≡ (if nat_le FEW number && nat_eq added at
    then Some number else get nat_cmp old.by_added at) = elim c.if-number-ge-FEW.branch [
      | goal.then-number-ge-FEW+in_ok-insert w ↦ λ at. (let put = w.in_ok-insert.ensures.updates in
          grind (arith, nat_tests, given.kept, w.self-is, w.if-number-ge-FEW.true, put.0 at))
      | goal.else-number-ge-FEW w ↦ λ at.
          grind (arith, nat_tests, given.kept, w.self-is, w.if-number-ge-FEW.false)
    ] in
    let here : add_at new number ≡ added = places number ∙ given.ok in
    let others : (n : ℕ) → (n ≡ number → ⊥) → add_at new n ≡ add_at old n =
    λ n isnt. places n ∙ given.others n isnt in
    grown old (record new { left = c.saturating_sub-self.result }) number added given.free here
    others known lacks t
