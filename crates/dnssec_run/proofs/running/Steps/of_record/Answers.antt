-- Each entry is a step of one roll, or of none; and its sets are those of before, or come there.
use Rattle.std.proofs.Common.{◌≡◌, ℕ, suc, ◌+◌, sym, ◌∙◌, ap, refl, arith, List, length, Option}
use Rattle.std.proofs.Common.{Some}
use Rattle.std.proofs.lemmas.Option.{slice_get-get_or}
use Rattle.std.specs.Prelude.{if◌then◌else◌, slice_get}
use Rattle.dnssec_key.specs.declared.roll.RollType.{RollType}
use Rattle.dnssec_run.specs.Safe.{SetKind, base_below, is_step, position_at}
use Rattle.dnssec_run.specs.Origins.{origin, same_set, set_at}
use Rattle.dnssec_run.specs.Steps.{Origins, last_step, origin_in, origins_at, step_at, step_of}
use Rattle.dnssec_run.specs.declared.{record.Entry.Entry, running.LastStep.LastStep}
use Rattle.dnssec_run.proofs.Since.{origin-of, same-origins, step-chosen}
use Rattle.dnssec_run.proofs.running.Steps.of_record.Goals as goal

-- one position more
more : (entries : List Entry) (roll : RollType) (n at : ℕ) (e : Entry) (origins : Origins)
    (here : Option LastStep) → slice_get entries n ≡ Some e
    → here ≡ last_step entries roll (suc n) → at ≡ suc n → origins ≡ origins_at entries at
    → (if is_step roll e.mark then Some (record { at = at; origins = origins }) else here)
    ≡ last_step entries roll (suc at)
unfolding base_below position_at
more entries roll n at e origins here there so same are =
    rw (same, there, so) (
    (λ i. if is_step roll e.mark
    then Some (record { at = suc n; origins = (are ∙ ap (origins_at entries) same) i })
    else last_step entries roll (suc n))
    ∙ step-chosen (is_step roll e.mark) (step_at entries) (suc n)
    (base_below entries roll (suc n))
    )

-- one set more
came : (entries : List Entry) (kind : SetKind) (n at : ℕ) (was : ℕ) → at ≡ suc n
    → was ≡ origin entries kind n
    → (if same_set (set_at kind (position_at entries n)) (set_at kind (position_at entries at))
    then was else at) ≡ origin entries kind at
unfolding origin
came entries kind n at was same is = rw (same, is) refl

pub loop-index-init : goal.loop-index-init
unfolding base_below position_at origin
loop-index-init c = (
  c.new-steps.ensures,
  same-origins c.first-origins.result c.args.entries.now 0 c.first-origins.ensures,
)

pub loop-index-preserved : goal.loop-index-preserved
loop-index-preserved c =
    let es = c.args.entries.now in
    let i = c.loop-index.index in
    let e = c.index-entries-index.result in
    let origins = same-origins c.after-origins.result es (i + 1)
    (λ kind. c.after-origins.ensures kind
    ∙ came es kind i (i + 1) (origin_in c.loop-index.origins kind) (omega arith)
    (ap (λ (o : Origins). origin_in o kind) c.loop-index.invariant.1 ∙ origin-of es i kind)) in (
      λ roll.
          c.note.ensures roll
          ∙ more es roll i (i + 1) e c.after-origins.result (step_of c.loop-index.steps roll)
          (slice_get-get_or es i e c.loop-index-test.true
          ∙ ap Some (sym c.index-entries-index.is))
          (c.loop-index.invariant.0 roll) (omega arith) origins,
      origins,
    )

pub returns : goal.returns
returns c roll =
    let all : c.loop-index.index ≡ length c.args.entries.now = omega arith in
    c.loop-index.invariant.0 roll ∙ ap (λ n. last_step c.args.entries.now roll (suc n)) all
