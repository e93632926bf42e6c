-- Two signers: the keeper's chain down to its DNSKEY set, and a key of the signer that signs the
-- zone and stands in each of its own sets in caches, so in that of the keeper too.
use Rattle.std.proofs.Common.{List, arith, inl, inr, length, refl, subst, suc, sym, zero, ℕ}
use Rattle.std.proofs.Common.{◌+◌, ◌<◌, ◌∙◌, ◌≡◌, ◌≤◌}
use Rattle.std.proofs.lemmas.Bool.{cases_Bool, cases_lt, true≢false}
use Rattle.std.proofs.lemmas.Map.Views.{Contains-from_any, list_any-from_Contains}
use Rattle.std.specs.{Cmp.nat_eq_equiv, List.Contains, List.list_any, Prelude.nat_eq}
use Rattle.std.proofs.lemmas.Bool.{eqb-true}
use Rattle.dnssec_run.proofs.Chain.History.{base-lies-below, not_in_empty}
use Rattle.dnssec_run.proofs.Chain.Trust.{chain-holds, each-holds}
use Rattle.dnssec_run.specs.ByAlgorithm.{HasChainByEach, KeepsWhole, algorithm_of}
use Rattle.dnssec_run.{specs.Published.Id, proofs.Since.origin-le, proofs.Since.origin-same}
use Rattle.dnssec_run.specs.Origins.{CachedSet, origin}
use Rattle.dnssec_run.specs.Safe.{Dnskey, Ds, HasChain, MayBeCached, Position, SetKind, TrustsKeys}
use Rattle.dnssec_run.specs.Safe.{TrustsZone, ZoneSigners, position_at}
use Rattle.dnssec_network.proofs.Held.{IsHeldAs, LastMade, held-cached, held-chain, held-each}
use Rattle.dnssec_network.proofs.Held.{held-published, last-made, may-be-cached, report-within}
use Rattle.dnssec_network.proofs.Steady.{SteadyKey, steady-each, steady-key}
use Rattle.dnssec_network.specs.Network.{IsPublished, MayBeHeld}
use Rattle.dnssec_network.specs.TwoSigners.{EachPublishesItsOwn, HasDsOf, HasKey, HasKeysSince}
use Rattle.dnssec_network.specs.TwoSigners.{HavingAllSuffices, IsKeysOf, IsZoneOf, KeepsRules}
use Rattle.dnssec_network.specs.TwoSigners.{PublishesKeysOf, Signer, SignsZone, TwoSignersFindChain}
use Rattle.dnssec_network.specs.TwoSigners.{TwoSignersFindEachChain, shown}

-- ---- each alone

pub each_publishes_its_own : EachPublishesItsOwn
each_publishes_its_own s time keeps =
    let published = held-published s.entries s.network time keeps.network keeps.moments Dnskey in
    let own : (v base : ℕ) → MayBeHeld s.network Dnskey v time
    → base ≤ s.network.position Dnskey v
    → HasKeysSince s (s.network.position Dnskey v) s base time = λ v base held ge k signs had. (
      k,
      had (s.network.position Dnskey v) ge (published v held).recorded (published v held).made,
      refl,
    ) in
    record {
      first = λ v held. own v s.network.first held (published v held).begun;
      reports = λ r speaks over v held.
          let at : ℕ = s.network.position Dnskey v in
          let new = keeps.reports r Dnskey speaks over v held in
          let lies = base-lies-below s.entries r.roll r.at r.base r.base_is in
          let within = report-within s.entries r.at r.ttl r.roll r.second r.mark in
          let flows = keeps.network.in_order r.base r.at (omega (arith, lies)) within r.made in
          elim (cases_lt at r.base) [
            -- the set of the step is the same
            | inl lt ↦ λ k signs had. (
              k,
              subst (λ (set : CachedSet). Contains set.0 k)
                  (sym (origin-same s.entries Dnskey r.base at new (omega (arith, lt))))
                  (had r.base (omega arith) (omega (arith, lies, within))
                  (omega (arith, flows, r.made))),
              refl,
            )
            | inr ge ↦ own v r.base held ge
          ];
    }

-- ---- the signer's record at the time

-- what a server gives of the zone at the time, so that the keeper's own chain has a third set
pub served : (s : Signer) (time : ℕ) → KeepsRules s time → (z : ℕ)
    × MayBeHeld s.network ZoneSigners z time
served s time keeps = (
  s.network.version ZoneSigners 0 time,
  record {
    since = time;
    given = (0, keeps.serves, refl);
    got = omega arith;
    lasts = omega arith;
  },
)

module _ (s : Signer) (time : ℕ) (keeps : KeepsRules s time) where
  abbrev published : (kind : SetKind) (v : ℕ) → MayBeHeld s.network kind v time
      → IsPublished s.entries s.network (s.network.position kind v) time
  published = held-published s.entries s.network time keeps.network keeps.moments

  -- its position then, which the first one isn't above
  pub now : (last : LastMade s.network.made (length s.entries) time) × (s.network.first ≤ last.0)
  now =
      let z = served s time keeps in
      let some = published ZoneSigners z.0 z.1 in
      let last = last-made s.entries s.network time keeps.network keeps.moments
      (s.network.position ZoneSigners z.0) some in
      (last, omega (arith, some.begun, last.3 _ some.recorded some.made))

  -- what caches hold of it, or an equal set, may be cached by its record
  cached : (last : LastMade s.network.made (length s.entries) time) (kind : SetKind) (v : ℕ)
      → MayBeHeld s.network kind v time
      → IsHeldAs s.entries kind (s.network.position kind v) last.0
  cached last kind v held =
      may-be-cached s.entries s.network time keeps.network keeps.moments last kind
      (s.network.position kind v) (published kind v held)
      (λ r speaks over. keeps.reports r kind speaks over v held)

-- the signer's latest set will do
pub having_all_suffices : HavingAllSuffices
having_all_suffices keeper signer time keeps all =
    let at = now signer time keeps in
    let last = at.0 in
    let these : (base v : ℕ) → base ≤ last.0 → MayBeHeld keeper.network Dnskey v time
    → HasKeysSince keeper (keeper.network.position Dnskey v) signer base time =
    λ base v le held k signs had. all v last.0 held
    (record { recorded = last.1; made = last.2; last = last.3 }) k signs
    (had last.0 le last.1 last.2) in
    record {
      first = λ v held. these signer.network.first v at.1 held;
      reports = λ r speaks over v held.
          let es = signer.entries in
          let lies = base-lies-below es r.roll r.at r.base r.base_is in
          let within = report-within es r.at r.ttl r.roll r.second r.mark in
          these r.base v (omega (arith, lies, last.3 r.at within r.made)) held;
    }

-- ---- a key that all sets of the signer have

-- what isn't missing from a list of numbers is in it
not_missing : (keys : List ℕ) (k : ℕ) → ((Contains keys k → ⊥) → ⊥) → Contains keys k
not_missing keys k h = elim (cases_Bool (list_any (nat_eq k) keys)) [
  | inl t ↦ Contains-from_any eqb-true k keys t
  | inr f ↦ absurd (h (λ c.
      true≢false (sym (list_any-from_Contains nat_eq_equiv k keys c) ∙ f)))
]

module _ (keeper signer : Signer) (time : ℕ) (keeps : KeepsRules signer time)
    (kept : PublishesKeysOf keeper signer time) (v : ℕ)
    (held : MayBeHeld keeper.network Dnskey v time)
    (last : LastMade signer.network.made (length signer.entries) time) (k : Id)
    (signs : SignsZone signer k)
    (steady : (q : ℕ) → MayBeCached signer.entries Dnskey q last.0
    → Contains (position_at signer.entries q).dnskey k) where
  -- A set from `base` on may be cached, unless a report retires it. Then that report's step counts.
  lacks-none : (HasKey keeper (keeper.network.position Dnskey v) signer k → ⊥)
      → (fuel base : ℕ) → last.0 < base + fuel → signer.network.first ≤ base → base ≤ last.0
      → HasKeysSince keeper (keeper.network.position Dnskey v) signer base time → ⊥
  lacks-none lacks zero base enough from le has = omega (arith, enough, le)
  lacks-none lacks (suc fuel) base enough from le has =
      let es = signer.entries in
      lacks (has k signs (λ q ge recorded made.
      let alike = may-be-cached es signer.network time keeps.network keeps.moments last Dnskey q
      (record { begun = omega (arith, from, ge); recorded = recorded; made = made })
      (λ r speaks over. elim (cases_lt q (origin es Dnskey r.base)) [
        | inl lt ↦
            let lies = base-lies-below es r.roll r.at r.base r.base_is in
            let within = report-within es r.at r.ttl r.roll r.second r.mark in
            let came = origin-le es Dnskey r.base in
            absurd (lacks-none lacks fuel r.base (omega (arith, enough, ge, lt, came))
            (omega (arith, from, ge, lt, came)) (omega (arith, lies, last.3 r.at within r.made))
            (kept.reports r speaks over v held))
        | inr up ↦ up
      ]) in
      subst (λ (set : CachedSet). Contains set.0 k) alike.same (steady alike.at alike.cached)))

  pub is-there : signer.network.first ≤ last.0
      → (HasKey keeper (keeper.network.position Dnskey v) signer k → ⊥) → ⊥
  is-there from lacks = lacks-none lacks (suc last.0) signer.network.first (omega arith)
      (omega arith) from (kept.first v held)

-- so it is among the public keys that a resolver has of the keeper
carried : (keeper signer : Signer) (time : ℕ) (dnskey signers : List ℕ)
    → KeepsRules signer time → PublishesKeysOf keeper signer time
    → (keys : IsKeysOf keeper time dnskey signers)
    → (at : (last : LastMade signer.network.made (length signer.entries) time)
    × (signer.network.first ≤ last.0)) (z : ℕ)
    → (s : SteadyKey signer.entries at.0.0 z) → Contains dnskey (signer.public s.0)
carried keeper signer time dnskey signers keeps kept keys at z s =
    not_missing dnskey (signer.public s.0) (λ lacks. is-there keeper signer time keeps kept
    keys.version keys.held at.0 s.0 (z, s.2) s.1 at.1
    (λ has. lacks (subst (λ p. Contains dnskey p) has.2 (keys.has has.0 has.1))))

-- ---- the chain

-- the keeper's own chain, with what a server gives of the zone
module _ (s : Signer) (time : ℕ) (keeps : KeepsRules s time) {ds dnskey signers : List ℕ}
    (a : HasDsOf s time ds) (keys : IsKeysOf s time dnskey signers) where
  abbrev third : (z : ℕ) × MayBeHeld s.network ZoneSigners z time
  third = served s time keeps

  abbrev all_held : (n : ℕ) × (n ≤ length s.entries)
      × IsHeldAs s.entries Ds (s.network.position Ds a.version) n
      × IsHeldAs s.entries Dnskey (s.network.position Dnskey keys.version) n
      × IsHeldAs s.entries ZoneSigners (s.network.position ZoneSigners third.0) n
  all_held = held-cached s.entries s.network time keeps.network keeps.reports keeps.moments
      a.version keys.version third.0 a.held keys.held third.1

  own_chain : HasChain (shown s Ds a.version) (shown s Dnskey keys.version)
      (shown s ZoneSigners third.0)
  own_chain = held-chain s.entries all_held.0 _ _ _ all_held.2 all_held.3 all_held.4
      (chain-holds s.name s.calls s.entries keeps.run keeps.plain all_held.0 all_held.1)

  own_each : KeepsWhole s.name s.calls s.entries → HasChainByEach (algorithm_of s.calls)
      (shown s Ds a.version) (shown s Dnskey keys.version) (shown s ZoneSigners third.0)
  own_each whole = held-each s.entries all_held.0 _ _ _ all_held.2 all_held.3 all_held.4 s.calls
      (each-holds s.name s.calls s.entries keeps.run keeps.plain whole all_held.0 all_held.1)

-- the signer's key that signs the zone, and that each of its DNSKEY sets in caches has
module _ (s : Signer) (time : ℕ) (keeps : KeepsRules s time) {ds zone : List ℕ}
    (b : HasDsOf s time ds) (signed : IsZoneOf s time zone) where
  abbrev at : (last : LastMade s.network.made (length s.entries) time)
      × (s.network.first ≤ last.0)
  at = now s time keeps

  abbrev of : IsHeldAs s.entries Ds (s.network.position Ds b.version) at.0.0
  of = cached s time keeps at.0 Ds b.version b.held

  abbrev by : IsHeldAs s.entries ZoneSigners (s.network.position ZoneSigners signed.version)
      at.0.0
  by = cached s time keeps at.0 ZoneSigners signed.version signed.held

  in_cached : (d : Id) → Contains (shown s Ds b.version).ds d
      → Contains (position_at s.entries of.at).ds d
  in_cached d c = subst (λ (set : CachedSet). Contains set.0 d) (sym of.same) c

  zone_key : (d : Id) → Contains (shown s Ds b.version).ds d → SteadyKey s.entries at.0.0 by.at
  zone_key d c = steady-key s.name s.calls s.entries keeps.run keeps.plain at.0.0 at.0.1 of.at by.at
      of.cached by.cached d (in_cached d c)

  zone_key_like : KeepsWhole s.name s.calls s.entries → (d : Id)
      → Contains (shown s Ds b.version).ds d → (k : SteadyKey s.entries at.0.0 by.at)
      × (algorithm_of s.calls k.0 ≡ algorithm_of s.calls d)
  zone_key_like whole d c = steady-each s.name s.calls s.entries keeps.run keeps.plain at.0.0 at.0.1
      of.at by.at of.cached by.cached d (in_cached d c) whole

  signs : (k : SteadyKey s.entries at.0.0 by.at) → Contains zone (s.public k.0)
  signs k = signed.has k.0 (subst (λ (set : CachedSet). Contains set.0 k.0) by.same k.2)

-- with a key in the DS set, a chain is no excuse
both_parts : (p q z : Position) (k : Id) → Contains p.ds k → HasChain p q z
    → TrustsKeys p q × TrustsZone q z
both_parts p q z k c (inl none) = absurd (not_in_empty k (rw none at c))
both_parts p q z k c (inr parts) = parts

pub two_signers_find_chain : TwoSignersFindChain
two_signers_find_chain keeper signer time ds dnskey signers zone keeps also kept a b keys signed =
    elim a.some [
      | inl none ↦ inl none
      | inr first ↦ elim b.some [
        | inl none ↦ inl none
        | inr second ↦
            let own = (both_parts (shown keeper Ds a.version) (shown keeper Dnskey keys.version)
            (shown keeper ZoneSigners (third keeper time keeps a keys).0) first.0 first.1
            (own_chain keeper time keeps a keys)).0 in
            let k = own.0 in
            let s = zone_key signer time also b signed second.0 second.1 in
            inr (
              (keeper.public k, a.has k own.1, keys.has k own.2, keys.signed k own.3),
              (
                signer.public s.0,
                carried keeper signer time dnskey signers also kept keys (now signer time also) _ s,
                signs signer time also b signed s,
              ),
            )
      ]
    ]

pub two_signers_find_each_chain : TwoSignersFindEachChain
two_signers_find_each_chain keeper signer algorithm time ds dnskey signers zone keeps also kept
    mine its a all_a b all_b keys signed d in_ds =
    let first = all_a d in_ds in
    let second = all_b d in_ds in
    let own = (own_each keeper time keeps a keys mine.whole first.0 first.1).0 in
    let k = own.0 in
    let s = zone_key_like signer time also b signed its.whole second.0 second.1 in
    let l = s.0.0 in (
      (
        keeper.public k,
        mine.same k ∙ own.1 ∙ sym (mine.same first.0) ∙ first.2,
        a.has k own.2,
        keys.has k own.3,
        keys.signed k own.4,
      ),
      (
        signer.public l,
        its.same l ∙ s.1 ∙ sym (its.same second.0) ∙ second.2,
        carried keeper signer time dnskey signers also kept keys (now signer time also) _ s.0,
        signs signer time also b signed s.0,
      ),
    )

pub ruleset own_sets = (each_publishes_its_own, having_all_suffices)
