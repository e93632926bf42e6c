-- Two signers that keep the guide's rules: what caches hold of the keeper has the signer's zone
-- keys, so there is a chain.
use Rattle.std.proofs.Common.{List, [], ap, arith, inl, inr, length, map, refl, subst, suc, sym}
use Rattle.std.proofs.Common.{true, zero, ℕ, ◌+◌, ◌*◌, ◌<◌, ◌∙◌, ◌∷◌, ◌≡◌, ◌≤◌, ◌⊎◌}
use Rattle.std.proofs.lemmas.{Bool.cases_lt, List.get_or-map, List.length-map}
use Rattle.std.proofs.lemmas.List.Elements.{Contains-append_cases, Contains-append_left}
use Rattle.std.proofs.lemmas.List.Elements.{Contains-append_right}
use Rattle.std.specs.{List.Contains, Prelude.max}
use Rattle.dnssec_run.proofs.Chain.{History.base-lies-below, History.not_in_empty, Side.or_map}
use Rattle.dnssec_run.specs.{Published.Id, Safe.Dnskey, Safe.Ds, Safe.ZoneSigners, Safe.retires}
use Rattle.dnssec_network.proofs.Held.{last_made, report-within}
use Rattle.dnssec_network.proofs.TwoSigners.{two_signers_find_chain, two_signers_find_each_chain}
use Rattle.dnssec_network.specs.Guide.{GuideGivesChain, GuideGivesEachChain, HaveDsTogether}
use Rattle.dnssec_network.specs.Guide.{HaveSameAlgorithms, IsReported, KeyRulesSuffice}
use Rattle.dnssec_network.specs.Guide.{KeepKeyRules, both_from, ds_of_both, given_at}
use Rattle.dnssec_network.specs.Network.{IsPublished, MayBeHeld, PastReport}
use Rattle.dnssec_network.specs.TwoSigners.{HasDsOf, HasEachAlgorithm, HasHadSince, HasKey}
use Rattle.dnssec_network.specs.TwoSigners.{HasKeysSince, IsKeysOf, IsZoneOf, KeepsRules, Signer}
use Rattle.dnssec_network.specs.TwoSigners.{SignsZone, shown}

-- what it has had up to a later time, it has had up to this one
earlier : (keeper signer : Signer) (p base t u : ℕ) → t ≤ u
    → HasKeysSince keeper p signer base t → HasKeysSince keeper p signer base u
earlier keeper signer p base t u le has k signs had =
    has k signs (λ q ge recorded made. had q ge recorded (omega (arith, made, le)))

module _ (keeper signer : Signer) (time : ℕ) (keeps : KeepsRules keeper time)
    (its : KeepsRules signer time) (both : KeepKeyRules keeper signer time) where
  abbrev from : ℕ
  from = both_from keeper signer

  -- a reported position is one of the record, and its call was made by the moment
  known : (base moment : ℕ) → IsReported signer time base moment
      → (base ≤ length signer.entries) × (signer.network.made base ≤ max moment from)
  known base moment (inl e) =
      let v : ℕ = signer.network.version ZoneSigners 0 signer.network.start in
      let was = its.network.before ZoneSigners v (record {
        since = signer.network.start;
        given = (0, its.serves, refl);
        got = omega arith;
        lasts = omega arith;
      }) in
      let flows = its.network.in_order signer.network.first (signer.network.position ZoneSigners v)
      was.begun was.recorded (omega (arith, was.made, its.network.started)) in (
        omega (arith, e.0, was.begun, was.recorded),
        subst (λ n. signer.network.made n ≤ max moment from) (sym e.0)
            (omega (arith, flows, was.made)),
      )
  known base moment (inr r) =
      let es = signer.entries in
      let lies = base-lies-below es r.0.roll r.0.at r.0.base r.0.base_is in
      let within = report-within es r.0.at r.0.ttl r.0.roll r.0.second r.0.mark in
      let after = both.after r.0 r.1 in (
        omega (arith, lies, within, r.2),
        subst (λ n. signer.network.made n ≤ max moment from) r.2 (omega (arith, after, r.3)),
      )

  -- what a server gives since then has what the signer's sets have had
  module _ (base moment : ℕ) (reported : IsReported signer time base moment) (server t : ℕ)
      (asked : server < keeper.network.servers Dnskey) (late : max moment from ≤ t)
      (by : t ≤ time) where
    abbrev then_at : ℕ
    then_at = given_at keeper server (max moment from)

    published : (u : ℕ) → max moment from ≤ u → u ≤ t
        → IsPublished keeper.entries keeper.network (given_at keeper server u) u
    published u ge le =
        keeps.network.since Dnskey server u asked (omega (arith, ge)) (omega (arith, le, by))

    module _ (k : Id) (signs : SignsZone signer k) (had : HasHadSince signer k base t) where
      -- a position that the servers give by then, or have still to get
      at_moment : (p : ℕ) → then_at ≤ p → p ≤ length keeper.entries
          → keeper.network.made p ≤ max moment from → HasKey keeper p signer k
      at_moment p ge recorded made =
          let was = published (max moment from) (omega arith) late in
          both.comes base moment p reported (record {
            server = server;
            asked = asked;
            given = ge;
            published = record {
              begun = omega (arith, was.begun, ge);
              recorded = recorded;
              made = made;
            };
          }) k signs (λ q up there made. had q up there (omega (arith, made, late)))

      -- one of a later call: the key was in the signer's set
      later : (p : ℕ) → suc p ≤ length keeper.entries
          → keeper.network.made (suc p) ≤ t → max moment from < keeper.network.made (suc p)
          → HasKey keeper p signer k → HasKey keeper (suc p) signer k
      later p recorded made lt has =
          let up = known base moment reported in
          let zeroth = its.network.in_order 0 base (omega arith) up.0
          (omega (arith, up.1, late, by)) in
          let n = last_made signer.network.made (length signer.entries)
          (keeper.network.made (suc p)) (omega (arith, zeroth, up.1, lt)) in
          both.stays p n.0 k recorded (omega (arith, lt)) (omega (arith, made, by))
          (record { recorded = n.1; made = n.2; last = n.3 }) signs
          (had n.0 (n.3 base up.0 (omega (arith, up.1, lt))) n.1 (omega (arith, n.2, made))) has

      at_first : (p : ℕ) → then_at ≡ p → HasKey keeper p signer k
      at_first p e =
          let was = published (max moment from) (omega arith) late in
          at_moment p (omega (arith, e)) (omega (arith, e, was.recorded))
          (subst (λ p. keeper.network.made p ≤ max moment from) e was.made)

      onward : (p : ℕ) → then_at ≤ p → p ≤ given_at keeper server t → HasKey keeper p signer k
      onward zero ge le = at_first zero (omega (arith, ge))
      onward (suc p) ge le =
          let here = published t late (omega arith) in
          let flows = keeps.network.in_order (suc p) (given_at keeper server t) le here.recorded
          (omega (arith, here.made, by)) in
          elim (cases_lt then_at (suc p)) [
            | inr up ↦ at_first (suc p) (omega (arith, ge, up))
            | inl below ↦ elim (cases_lt (max moment from) (keeper.network.made (suc p))) [
              | inl lt ↦
                  later p (omega (arith, le, here.recorded)) (omega (arith, flows, here.made)) lt
                  (onward p (omega (arith, below)) (omega (arith, le)))
              | inr made ↦
                  at_moment (suc p) ge (omega (arith, le, here.recorded)) made
            ]
          ]

    since_then : HasKeysSince keeper (given_at keeper server t) signer base t
    since_then k signs had =
        let rises = both.onwards server (max moment from) t asked (omega arith) late by in
        onward k signs had (given_at keeper server t) rises (omega arith)

  -- what caches hold that they got since then
  held_since : (base moment v : ℕ) → IsReported signer time base moment
      → (held : MayBeHeld keeper.network Dnskey v time) → max moment from ≤ held.since
      → HasKeysSince keeper (keeper.network.position Dnskey v) signer base time
  held_since base moment v reported held late =
      let given = held.given in
      let has : HasKeysSince keeper (keeper.network.position Dnskey
      (keeper.network.version Dnskey given.0 held.since)) signer base held.since =
      since_then base moment reported given.0 held.since given.1 late held.got in
      earlier keeper signer (keeper.network.position Dnskey v) base held.since time held.got
      (rw given.2 at has)

  -- what they hold from before both began
  held_before : (base moment v : ℕ) → IsReported signer time base moment → moment ≤ from
      → (held : MayBeHeld keeper.network Dnskey v time) → held.since < from
      → HasKeysSince keeper (keeper.network.position Dnskey v) signer base time
  held_before base moment v reported le held lt =
      let begun : from ≤ time = omega (arith, keeps.network.started, its.network.started) in
      earlier keeper signer (keeper.network.position Dnskey v) base from time begun
      (both.joins base moment v reported le (record {
        since = held.since;
        given = held.given;
        got = omega (arith, lt);
        lasts = omega (arith, held.lasts, begun);
      }))

  held_anyhow : (base moment v : ℕ) → IsReported signer time base moment → moment ≤ from
      → MayBeHeld keeper.network Dnskey v time
      → HasKeysSince keeper (keeper.network.position Dnskey v) signer base time
  held_anyhow base moment v reported le held = elim (cases_lt held.since from) [
    | inl lt ↦ held_before base moment v reported le held lt
    | inr ge ↦ held_since base moment v reported held (omega (arith, le, ge))
  ]

  held_reported : (r : PastReport signer.entries signer.network time)
      → retires r.roll r.second Dnskey ≡ true → r.moment + r.ttl * 1_000_000_000 ≤ time
      → (v : ℕ) → MayBeHeld keeper.network Dnskey v time
      → HasKeysSince keeper (keeper.network.position Dnskey v) signer r.base time
  held_reported r speaks over v held =
      let reported : IsReported signer time r.base r.moment = inr (r, speaks, refl, refl) in
      elim (cases_lt from r.moment) [
        | inr le ↦ held_anyhow r.base r.moment v reported le held
        | inl lt ↦ elim (cases_lt held.since r.moment) [
          | inl early ↦
              earlier keeper signer (keeper.network.position Dnskey v) r.base r.moment time
              (omega (arith, over))
              (both.counted r speaks lt v held.since early held.given
              (omega (arith, held.lasts, over)))
          | inr ge ↦ held_since r.base r.moment v reported held (omega (arith, lt, ge))
        ]
      ]

pub key_rules_suffice : KeyRulesSuffice
key_rules_suffice keeper signer time keeps its both = record {
  first = λ v held. held_anyhow keeper signer time keeps its both signer.network.first
      signer.network.start v (inl (refl, refl)) (omega arith) held;
  reports = held_reported keeper signer time keeps its both;
}

-- ---- lists of public keys

pub mapped : {A B : Type 0} (f : A → B) (xs : List A) (x : A) → Contains xs x
    → Contains (map f xs) (f x)
mapped f xs x c =
    (c.0, omega (arith, length-map xs f, c.1), get_or-map f xs c.0 x (f x) c.1 ∙ ap f c.2)

pub from_mapped : {A B : Type 0} (f : A → B) (xs : List A) (y : B) → Contains (map f xs) y
    → (x : A) × Contains xs x × (f x ≡ y)
from_mapped f [] y c = absurd (not_in_empty y c)
from_mapped f (x ∷ xs) y (zero, lt, e) = (x, (0, omega arith, refl), e)
from_mapped f (x ∷ xs) y (suc i, lt, e) =
    let h = from_mapped f xs y (i, omega (arith, lt), e) in
    let c = h.1 in
    (h.0, (suc c.0, omega (arith, c.1), c.2), h.2)

-- ---- the chain

module _ (keeper signer : Signer) (time : ℕ) (ds : HaveDsTogether keeper signer time) (p : ℕ)
    (held : MayBeHeld keeper.network Ds p time) where
  pub ds_of_keeper : HasDsOf keeper time (ds_of_both keeper signer p)
  ds_of_keeper = record {
    version = p;
    held = held;
    has = λ k c. Contains-append_left (map keeper.public (shown keeper Ds p).ds)
        (map signer.public (shown signer Ds p).ds) (keeper.public k)
        (mapped keeper.public (shown keeper Ds p).ds k c);
    some = or_map (ds.both p held) (λ e. e) (λ h. h.0);
  }

  pub ds_of_signer : HasDsOf signer time (ds_of_both keeper signer p)
  ds_of_signer = record {
    version = p;
    held = ds.same p held;
    has = λ k c. Contains-append_right (map keeper.public (shown keeper Ds p).ds)
        (map signer.public (shown signer Ds p).ds) (signer.public k)
        (mapped signer.public (shown signer Ds p).ds k c);
    some = or_map (ds.both p held) (λ e. e) (λ h. h.1);
  }

  module _ (algorithm : ℕ → ℕ) (same : HaveSameAlgorithms keeper signer algorithm time) where
    -- a signer's key in its DS set, of the algorithm of d
    abbrev HasAlike : Signer → ℕ → Type 0
    HasAlike s d = (k : Id) × Contains (shown s Ds p).ds k
        × (algorithm (s.public k) ≡ algorithm d)

    -- one's own is such a key, and for the other's there is one
    own : (s : Signer) (d : ℕ) → Contains (map s.public (shown s Ds p).ds) d → HasAlike s d
    own s d c = let k = from_mapped s.public (shown s Ds p).ds d c in (k.0, k.1, ap algorithm k.2)

    for_other : (s t : Signer) → ((k : Id) → Contains (shown t Ds p).ds k → HasAlike s (t.public k))
        → (d : ℕ) → Contains (map t.public (shown t Ds p).ds) d → HasAlike s d
    for_other s t alike d c =
        let k = from_mapped t.public (shown t Ds p).ds d c in
        let h = alike k.0 k.1 in
        (h.0, h.1, h.2 ∙ ap algorithm k.2)

    whose : (d : ℕ) → Contains (ds_of_both keeper signer p) d
        → Contains (map keeper.public (shown keeper Ds p).ds) d
        ⊎ Contains (map signer.public (shown signer Ds p).ds) d
    whose = Contains-append_cases (map keeper.public (shown keeper Ds p).ds)
        (map signer.public (shown signer Ds p).ds)

    pub each_of_keeper : HasEachAlgorithm keeper algorithm time (ds_of_both keeper signer p)
        ds_of_keeper
    unfolding ds_of_keeper
    each_of_keeper d c = elim (whose d c) [
      | inl mine ↦ own keeper d mine
      | inr its ↦ for_other keeper signer (λ k. same.back p k held) d its
    ]

    pub each_of_signer : HasEachAlgorithm signer algorithm time (ds_of_both keeper signer p)
        ds_of_signer
    unfolding ds_of_signer
    each_of_signer d c = elim (whose d c) [
      | inl its ↦ for_other signer keeper (λ k. same.there p k held) d its
      | inr mine ↦ own signer d mine
    ]

abbrev pub dnskey_of : Signer → ℕ → List ℕ
dnskey_of s q = map s.public (shown s Dnskey q).dnskey

abbrev pub signers_of : Signer → ℕ → List ℕ
signers_of s q = map s.public (shown s Dnskey q).signers

abbrev pub zone_of : Signer → ℕ → List ℕ
zone_of s z = map s.public (shown s ZoneSigners z).zone

pub keys_of : (s : Signer) (time q : ℕ) → MayBeHeld s.network Dnskey q time
    → IsKeysOf s time (dnskey_of s q) (signers_of s q)
keys_of s time q held = record {
  version = q;
  held = held;
  has = mapped s.public (shown s Dnskey q).dnskey;
  signed = mapped s.public (shown s Dnskey q).signers;
}

pub signed_by : (s : Signer) (time z : ℕ) → MayBeHeld s.network ZoneSigners z time
    → IsZoneOf s time (zone_of s z)
signed_by s time z held = record {
  version = z;
  held = held;
  has = mapped s.public (shown s ZoneSigners z).zone;
}

pub guide_gives_chain : GuideGivesChain
guide_gives_chain keeper signer time keeps its both ds p q z in_ds keys zone =
    two_signers_find_chain keeper signer time (ds_of_both keeper signer p) (dnskey_of keeper q)
    (signers_of keeper q) (zone_of signer z) keeps its
    (key_rules_suffice keeper signer time keeps its both)
    (ds_of_keeper keeper signer time ds p in_ds) (ds_of_signer keeper signer time ds p in_ds)
    (keys_of keeper time q keys) (signed_by signer time z zone)

pub guide_gives_each_chain : GuideGivesEachChain
guide_gives_each_chain keeper signer algorithm time keeps its both ds same p q z in_ds keys zone =
    two_signers_find_each_chain keeper signer algorithm time (ds_of_both keeper signer p)
    (dnskey_of keeper q) (signers_of keeper q) (zone_of signer z) keeps its
    (key_rules_suffice keeper signer time keeps its both) same.mine same.others
    (ds_of_keeper keeper signer time ds p in_ds)
    (each_of_keeper keeper signer time ds p in_ds algorithm same)
    (ds_of_signer keeper signer time ds p in_ds)
    (each_of_signer keeper signer time ds p in_ds algorithm same)
    (keys_of keeper time q keys) (signed_by signer time z zone)
