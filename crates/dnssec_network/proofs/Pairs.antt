-- Two signers with prompt servers keep the guide's rules.
use Rattle.std.proofs.Common.{arith, inl, inr, length, refl, subst, suc, ℕ, ◌+◌}
use Rattle.std.proofs.Common.{◌*◌, ◌-◌, ◌<◌, ◌≡◌, ◌≤◌}
use Rattle.std.specs.Prelude.{max, min, ◌/◌}
use Rattle.dnssec_run.proofs.Chain.{History.base-lies-below, Side.or_map}
use Rattle.dnssec_run.specs.{Published.Id, Safe.Dnskey, Safe.Ds}
use Rattle.dnssec_network.proofs.{Held.report-within, Models.premises_can_be_met}
use Rattle.dnssec_network.specs.Guide.{IsReported, IsUnderWay, KeepKeyRules, both_from}
use Rattle.dnssec_network.specs.Models.{made_since, prompt}
use Rattle.dnssec_network.specs.Network.{IsGiven, MayBeHeld, PastReport}
use Rattle.dnssec_network.specs.Pairs.{AlwaysHasKeys, HasZoneKeys, IsPromptRun, JoiningCanBeMet}
use Rattle.dnssec_network.specs.Pairs.{PairsCanBeMet, SignersCanBeMet, promptly}
use Rattle.dnssec_network.specs.TwoSigners.{HasKeysSince, IsNow, KeepsRules, Signer}

-- ---- a prompt signer

module _ (first start ttl time : ℕ) (s : Signer) (is : IsPromptRun first start ttl time s) where
  abbrev one : Signer
  one = promptly first start ttl time s

  -- what its servers give from its start on
  abbrev current : ℕ → ℕ
  current t = first + min ((t - start) / 1_000_000_000) (length s.entries - first)

  current-is : (t : ℕ) → start ≤ t → IsNow one t (current t)
  current-is t le = record {
    recorded = omega (arith, is.within);
    made = omega (arith, le);
    last = λ j here made. omega (arith, here, made, le, is.within);
  }

  pub keeps : ttl ≤ 4_294_967_295 → KeepsRules one time
  keeps fits =
      let met = premises_can_be_met first start ttl time s.entries is.within is.begins fits is.clock
      is.low in
      record {
        run = is.run;
        plain = is.plain;
        network = met.is;
        reports = met.reports;
        moments = met.ahead;
        serves = omega arith;
      }

-- ---- two of them

module _ (first start its_first its_start ttl time : ℕ) (keeper signer : Signer)
    (mine : IsPromptRun first start ttl time keeper)
    (its : IsPromptRun its_first its_start ttl time signer) where
  abbrev a : Signer
  a = promptly first start ttl time keeper

  abbrev b : Signer
  b = promptly its_first its_start ttl time signer

  module _ (all : AlwaysHasKeys a b) where
    -- the keeper's set at a time has what the signer's has had up to then, and since a position
    -- whose call was made by then
    has : (t p base : ℕ) → start ≤ t → IsNow a t p → base ≤ length signer.entries
        → b.network.made base ≤ max t (both_from a b)
        → HasKeysSince a p b base (max t (both_from a b))
    has t p base le now recorded made k signs had =
        let u : ℕ = max t (both_from a b) in
        let q = current-is its_first its_start ttl time signer its u (omega arith) in
        all t p (current its_first its_start ttl time signer its u) le now q k signs
        (had (current its_first its_start ttl time signer its u) (q.last base recorded made)
        q.recorded q.made)

    -- a report's step is one of the record, and was made a second before
    step : (r : PastReport signer.entries b.network time) → (r.base ≤ length signer.entries)
        × (r.base < r.at) × (r.moment ≡ made_since its_first its_start r.at)
    step r =
        let lies = base-lies-below signer.entries r.roll r.at r.base r.base_is in
        let within = report-within signer.entries r.at r.ttl r.roll r.second r.mark in
        (omega (arith, lies, within), lies, its.clock r.at r.moment r.moment_is)

    known : (base moment t : ℕ) → IsReported b time base moment → moment ≤ t → its_start ≤ t
        → (base ≤ length signer.entries) × (made_since its_first its_start base ≤ t)
    known base moment t (inl e) le late = (
      omega (arith, e.0, its.within),
      omega (arith, e.0, late),
    )
    known base moment t (inr r) le late =
        let at = step r.0 in (
          omega (arith, at.0, r.2),
          omega (arith, at.1, at.2, r.2, r.3, le, late),
        )

    comes : (base moment p : ℕ) → IsReported b time base moment
        → IsUnderWay a p (max moment (both_from a b))
        → HasKeysSince a p b base (max moment (both_from a b))
    comes base moment p reported way =
        let t : ℕ = max moment (both_from a b) in
        let up = known base moment t reported (omega arith) (omega arith) in
        let now = current-is first start ttl time keeper mine t (omega arith) in
        let here : current first start ttl time keeper mine t ≤ p = grind (arith, way.given) in
        subst (λ u. HasKeysSince a p b base u) (omega arith)
        (has t p base (omega arith) (record {
          recorded = way.published.recorded;
          made = way.published.made;
          last = λ j recorded made. omega (arith, now.last j recorded made, here);
        }) up.0 (omega (arith, up.1)))

    stays : (p q : ℕ) (k : Id) → suc p ≤ length keeper.entries
        → both_from a b < made_since first start (suc p) → made_since first start (suc p) ≤ time
        → IsNow b (made_since first start (suc p)) q → HasZoneKeys a (suc p) b q
    stays p q k recorded lt made now = all (made_since first start (suc p)) (suc p) q
        (omega (arith, lt)) (record {
          recorded = recorded;
          made = omega arith;
          last = λ j here before. omega (arith, before, lt);
        }) (subst (λ u. IsNow b u q) (omega (arith, lt)) now)

    -- what is given so late has the keys that are reported
    counted : (r : PastReport signer.entries b.network time) → both_from a b < r.moment
        → (v t : ℕ) → t < r.moment → IsGiven a.network Dnskey v t
        → r.moment + r.ttl * 1_000_000_000 < t + (ttl + 1) * 1_000_000_000
        → HasKeysSince a (a.network.position Dnskey v) b r.base r.moment
    counted r lt v t early given over =
        let at = step r in
        let low = its.low r.at r.ttl r.roll r.second r.after r.mark in
        let u : ℕ = max t start in
        let late : its_start ≤ t = omega (arith, at.2, r.after, over, low) in
        let made : made_since its_first its_start r.base ≤ max u (both_from a b) =
        omega (arith, at.1, at.2, r.after, over, low, late) in
        let now = current-is first start ttl time keeper mine u (omega arith) in
        let same : current first start ttl time keeper mine u ≡ a.network.position Dnskey v =
        grind (arith, given.2) in
        let found = has u (current first start ttl time keeper mine u) r.base (omega arith) now at.0
        made in
        λ k signs had. rw same at (found k signs
        (λ q ge recorded by. had q ge recorded (omega (arith, by, early, lt))))

    joins : (base moment v : ℕ) → IsReported b time base moment → moment ≤ both_from a b
        → MayBeHeld a.network Dnskey v (both_from a b)
        → HasKeysSince a (a.network.position Dnskey v) b base (both_from a b)
    joins base moment v reported le held =
        let given = held.given in
        let t : ℕ = max held.since start in
        let up = known base moment (both_from a b) reported le (omega arith) in
        let now = current-is first start ttl time keeper mine t (omega arith) in
        let same : current first start ttl time keeper mine t ≡ a.network.position Dnskey v =
        grind (arith, given.2) in
        let found = has t (current first start ttl time keeper mine t) base (omega arith) now up.0
        (omega (arith, up.1)) in
        λ k signs had. rw same at (found k signs
        (λ q ge recorded by. had q ge recorded (omega (arith, by, held.got))))

    keep_key_rules : KeepKeyRules a b time
    keep_key_rules = record {
      comes = comes;
      stays = λ p q k recorded lt made now signs there has. stays p q k recorded lt made now k signs
          there;
      counted = λ r speaks lt v t early given over. counted r lt v t early given over;
      after = λ r speaks. let at = step r in omega (arith, at.1, at.2);
      joins = joins;
      onwards = λ server early late asked begun le by. grind (arith, begun, le);
    }

pub pairs_can_be_met : PairsCanBeMet
pairs_can_be_met first start its_first its_start ttl time keeper signer fits mine its all = (
  keeps first start ttl time keeper mine fits,
  keeps its_first its_start ttl time signer its fits,
  keep_key_rules first start its_first its_start ttl time keeper signer mine its all,
)

-- at its position a prompt signer is not before its first
not-before : (first start ttl time : ℕ) (s : Signer) → IsPromptRun first start ttl time s
    → (t p : ℕ) → start ≤ t → IsNow (promptly first start ttl time s) t p → first ≤ p
not-before first start ttl time s is t p le now = now.last first is.within (omega (arith, le))

pub joining_can_be_met : JoiningCanBeMet
joining_can_be_met first start its_first its_start ttl time keeper signer fits mine its keys
    back = (
      keep_key_rules first start its_first its_start ttl time keeper signer mine its
          (λ t p q le now then. keys p q
          (not-before first start ttl time keeper mine t p le now)
          (not-before its_first its_start ttl time signer its _ q (omega arith) then)),
      keep_key_rules its_first its_start first start ttl time signer keeper its mine
          (λ t q p le now then. back p q
          (not-before first start ttl time keeper mine _ p (omega arith) then)
          (not-before its_first its_start ttl time signer its t q le now)),
    )

pub signers_can_be_met : SignersCanBeMet
signers_can_be_met first start ttl time one other fits mine its same keys ds = (
  keep_key_rules first start first start ttl time one other mine its (λ t p q le now then.
      let up = then.last p (omega (arith, now.recorded, same)) (omega (arith, now.made)) in
      let down = now.last q (omega (arith, then.recorded, same))
      (omega (arith, then.made, le)) in
      subst (λ q. HasZoneKeys one p other q) (omega (arith, up, down)) (keys p)),
  record {
    same = λ v held. subst (λ last. MayBeHeld (prompt first start ttl time last) Ds v time) same
        held;
    both = λ v held. or_map (ds (first + (v - 1))) (λ e. rw (e.0, e.1) refl) (λ h. h);
  },
)
