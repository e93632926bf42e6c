-- Rolls, their states, and the stages of a side.
use Rattle.std.proofs.Common.{◌≡◌, Bool, true, false, Option, None, Some, ap, arith}
use Rattle.std.{specs.Prelude.if◌then◌else◌, proofs.lemmas.Bool.cond_both}
use Rattle.dnssec_key.specs.declared.roll.RollState.TheVariants.{Propagation1, CacheExpire1, Done}
use Rattle.dnssec_key.specs.declared.roll.RollState.TheVariants.{Propagation2, CacheExpire2}
use Rattle.dnssec_key.specs.declared.roll.{RollType.RollType, RollState.RollState}
use Rattle.dnssec_zone.specs.{Rolls.same_roll, Start.together}
use Rattle.dnssec_zone.proofs.Flags.{SideOf, affects, Stage, Quiet, Early, Late}
use Rattle.dnssec_run.proofs.Chain.Tale.{put_roll}
pub use Rattle.dnssec_zone.proofs.Phases.{same-itself as same-same}

-- the stage of a side with a roll of its own in this phase
abbrev pub stage_in : RollType → RollState → Stage
stage_in r Propagation1 = Early r
stage_in r (CacheExpire1 _) = Early r
stage_in r Propagation2 = Late r
stage_in r (CacheExpire2 _) = Late r
stage_in r Done = Quiet

-- the stage is one of the roll
abbrev pub is_of : Stage → RollType → Bool
is_of Quiet r = false
is_of (Early q) r = same_roll q r
is_of (Late q) r = same_roll q r

-- the stage of a side agrees with the state of a roll of its own
abbrev pub StageFits : Stage → RollType → Option RollState → Type 0
StageFits st r None = is_of st r ≡ false
StageFits st r (Some phase) = st ≡ stage_in r phase

abbrev pub stage_own : SideOf → Stage → Bool
stage_own sd Quiet = true
stage_own sd (Early r) = affects sd r
stage_own sd (Late r) = affects sd r

pub same-sym : (r q : RollType) → same_roll r q ≡ same_roll q r
same-sym r q = grind arith

-- two rolls of a side never run together
pub clash : (sd : SideOf) (r q : RollType) → affects sd r ≡ true → affects sd q ≡ true
    → together r q ≡ false
clash sd r q own also_own = grind arith

-- a side on which no roll of its own is in progress is at rest
pub stage_quiet : (sd : SideOf) (st : Stage) → stage_own sd st ≡ true
    → ((q : RollType) → affects sd q ≡ true → is_of st q ≡ false) → st ≡ Quiet
stage_quiet sd st own h = grind (arith, h, same-same)

-- a stage after one roll's state is put
pub put-fits : (st : Stage) (f : RollType → Option RollState) (r : RollType) (o : Option RollState)
    (q : RollType) → (same_roll r q ≡ true → StageFits st q o)
    → (same_roll r q ≡ false → StageFits st q (f q)) → StageFits st q (put_roll f r o q)
put-fits st f r o q = cond_both (same_roll r q) o (f q) (StageFits st q)

pub put-same : (f : RollType → Option RollState) (r : RollType) (o : Option RollState)
    → put_roll f r o r ≡ o
put-same f r o = ap (λ b. if b then o else f r) (same-same r)

pub put-other : (f : RollType → Option RollState) (r : RollType) (o : Option RollState)
    (q : RollType) → same_roll r q ≡ false → put_roll f r o q ≡ f q
put-other f r o q e = ap (λ b. if b then o else f q) e
