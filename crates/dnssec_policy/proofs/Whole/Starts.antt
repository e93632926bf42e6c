-- A start that is said leaves a whole set whole, and brings the KSKs no algorithm, unless it is
-- that of an algorithm roll.
use Rattle.std.proofs.Common.{◌≡◌, ◌≢◌, ℕ, ◌⊎◌, inl, inr, true, false, List, [], ◌∷◌}
use Rattle.std.proofs.Common.{Some, refl, sym, ap, subst, ◌∙◌, arith}
use Rattle.std.proofs.lemmas.Bool.{cases_Bool, false_from_ne_true, or_parts, true≢false}
use Rattle.std.{proofs.lemmas.Option.same_Some, specs.Prelude.◌||◌, specs.Prelude.Ok}
use Rattle.std.specs.{Cmp.Lexicographic.bytes_decides, FinMap.get, Str.bytes_eq}
use Rattle.dnssec_key.specs.declared.roll.RollType.{RollType, TheVariants.AlgorithmRoll}
use Rattle.dnssec_key.specs.{Key.KeyParts, RollTable.after_start}
use Rattle.dnssec_zone.{specs.Start.is_listed, proofs.Flags.started}
use Rattle.dnssec_zone.specs.Wait as waits
use Rattle.dnssec_keyset.{specs.KeySet.KeySetParts, proofs.Changes.Changes}
use Rattle.dnssec_keyset.specs.Step as keyset
use Rattle.dnssec_run.specs.ByAlgorithm.{keeps_ksk, keeps_zsk}
use Rattle.dnssec_run.proofs.Effects.{came, goes as stays}
use Rattle.dnssec_run.proofs.Effects.{start-kind}
use Rattle.dnssec_policy.specs.declared.policy.KeyRole.{KeyRole}
use Rattle.dnssec_policy.specs.declared.policy.KeyRole.TheVariants.{Ksk, Zsk, Csk}
use Rattle.dnssec_policy.specs.declared.policy.{Policy.Policy, Scheme.Scheme}
use Rattle.dnssec_policy.specs.declared.policy.Scheme.TheVariants.{Split, SingleType}
use Rattle.dnssec_policy.specs.Keys.{goes, has_role, new_keys, role_of, roles_of}
use Rattle.dnssec_policy.{specs.View.View, proofs.May.IsRenewal, proofs.May.IsStart}
use Rattle.dnssec_policy.proofs.Accepted.{IsNewKey, goes-of, goes-old, old-goes, one-new, two-new}
use Rattle.dnssec_policy.proofs.Accepted.{untaken, works-goes}
use Rattle.dnssec_policy.proofs.Whole.Keys.{HasOf, is_alike, IsWhole, started-alike, started-ksk}
use Rattle.dnssec_policy.proofs.Whole.Keys.{started-zsk, is_of_ksks, ksks-go, brings, brings-zsk}
use Rattle.dnssec_policy.proofs.Whole.Keys.{no-ksk, works-ksk, kept-goes, ksks-role}
use Rattle.dnssec_policy.proofs.Whole.Keys.{start-algorithm}

-- ---- a start

module _ (policy : Policy) (v : View) (new : KeySetParts) (roll : RollType)
    (olds news : List (List ℕ)) (now : ℕ) (s : IsStart policy v roll olds news)
    (clear : keyset.clearance v.set (keyset.StartRoll roll olds news now) ≡ waits.Clear)
    (m : Changes v.set (keyset.StartRoll roll olds news now) new) where
  abbrev start : keyset.Call
  start = keyset.StartRoll roll olds news now

  -- a key that is there goes on
  on : (q : List ℕ) (k : KeyParts) → get v.set.keys q ≡ Some k
      → get new.keys q ≡ Some (after_start roll now (is_listed olds q) (is_listed news q) k)
  on q k at = stays v.set new start clear m q k at refl

  -- a zone key that doesn't go stays
  stays-zsk : (q : List ℕ) (k : KeyParts) → get v.set.keys q ≡ Some k
      → keeps_zsk k.keytype ≡ true → is_listed olds q ≡ false → HasOf keeps_zsk k.algorithm new
  stays-zsk q k at keeps out = (
    q,
    after_start roll now (is_listed olds q) (is_listed news q) k,
    on q k at,
    ap keeps_zsk (start-kind roll now (is_listed olds q) (is_listed news q) k)
        ∙ ap (λ o. keeps_zsk (started roll o (is_listed news q) k.keytype)) out
        ∙ started-zsk roll (is_listed news q) k.keytype keeps,
    start-algorithm roll now (is_listed olds q) (is_listed news q) k,
  )

  -- and a new one comes
  comes-zsk : (role : KeyRole) (q : List ℕ) (n : IsNewKey policy v.set role q)
      → is_listed news q ≡ true
      → keeps_zsk (started roll false true n.key.keytype) ≡ true
      → HasOf keeps_zsk policy.algorithm new
  comes-zsk role q n listed keeps =
      let out = ap (λ qs. is_listed qs q) s.olds_are ∙ untaken policy v.set roll role q n in (
        q,
        after_start roll now (is_listed olds q) (is_listed news q) n.key,
        on q n.key n.at,
        ap keeps_zsk (start-kind roll now (is_listed olds q) (is_listed news q) n.key)
            ∙ ap (λ o. keeps_zsk (started roll o (is_listed news q) n.key.keytype)) out
            ∙ ap (λ i. keeps_zsk (started roll false i n.key.keytype)) listed ∙ keeps,
        start-algorithm roll now (is_listed olds q) (is_listed news q) n.key ∙ n.algorithm,
      )

  first-of : (q : List ℕ) (qs : List (List ℕ)) → is_listed (q ∷ qs) q ≡ true
  first-of q qs = ap (λ b. b || is_listed qs q) ((bytes_decides q q).1 refl)

  second-of : (q r : List ℕ) → is_listed (q ∷ r ∷ []) r ≡ true
  second-of q r = grind (arith, (bytes_decides r r).1 refl)

  -- unless only KSKs are rolled
  zone-new : is_of_ksks roll ≡ false → HasOf keeps_zsk policy.algorithm new
  zone-new own = elim s.by [
    | inl c ↦ changed policy.scheme c.roll_is c.news_are
    | inr r ↦
        let n = one-new policy v.set (role_of roll) news r.news_are in
        comes-zsk (role_of roll) n.0 n.2
        (ap (λ qs. is_listed qs n.0) (sym n.1) ∙ first-of n.0 [])
        (brings roll n.2.key.keytype own n.2.has n.2.fresh)
  ]
    where
      changed : (scheme : Scheme) → roll ≡ AlgorithmRoll
          → new_keys policy v.set.keys (roles_of scheme) ≡ Ok news
          → HasOf keeps_zsk policy.algorithm new
      changed (Split k z) is e =
          let n = two-new policy v.set Ksk Zsk news e in
          comes-zsk Zsk n.1 n.4 (ap (λ qs. is_listed qs n.1) (sym n.2) ∙ second-of n.0 n.1)
          (subst (λ r. keeps_zsk (started r false true n.4.key.keytype) ≡ true) (sym is)
          (brings-zsk n.4.key.keytype n.4.has n.4.fresh))
      changed SingleType is e =
          let n = one-new policy v.set Csk news e in
          comes-zsk Csk n.0 n.2 (ap (λ qs. is_listed qs n.0) (sym n.1) ∙ first-of n.0 [])
          (subst (λ r. keeps_zsk (started r false true n.2.key.keytype) ≡ true) (sym is)
          (brings AlgorithmRoll n.2.key.keytype refl n.2.has n.2.fresh))

  -- a key that is listed as new: it has the algorithm
  one-of : (q x : List ℕ) → is_listed (x ∷ []) q ≡ true → x ≡ q
  one-of q x l = sym ((bytes_decides q x).0 (grind (arith, or_parts)))

  two-of : (q x y : List ℕ) → is_listed (x ∷ y ∷ []) q ≡ true → (x ≡ q) ⊎ (y ≡ q)
  two-of q x y l = elim (cases_Bool (bytes_eq q x)) [
    | inl t ↦ inl (sym ((bytes_decides q x).0 t))
    | inr f ↦ inr (one-of q y (grind (arith, or_parts)))
  ]

  new-of : (q : List ℕ) (k : KeyParts) → get v.set.keys q ≡ Some k → is_listed news q ≡ true
      → k.algorithm ≡ policy.algorithm
  new-of q k at l = elim s.by [
    | inl c ↦ changed policy.scheme c.news_are
    | inr r ↦ single (role_of roll) r.news_are
  ]
    where
      same : (role : KeyRole) (x : List ℕ) (n : IsNewKey policy v.set role x) → x ≡ q
          → k.algorithm ≡ policy.algorithm
      same role x n is =
          let key = same_Some k n.key (sym at ∙ ap (get v.set.keys) (sym is) ∙ n.at) in
          ap (λ (k : KeyParts). k.algorithm) key ∙ n.algorithm

      single : (role : KeyRole) → new_keys policy v.set.keys (role ∷ []) ≡ Ok news
          → k.algorithm ≡ policy.algorithm
      single role e =
          let n = one-new policy v.set role news e in
          same role n.0 n.2 (one-of q n.0 (ap (λ qs. is_listed qs q) n.1 ∙ l))

      changed : (scheme : Scheme) → new_keys policy v.set.keys (roles_of scheme) ≡ Ok news
          → k.algorithm ≡ policy.algorithm
      changed SingleType e = single Csk e
      changed (Split a z) e =
          let n = two-new policy v.set Ksk Zsk news e in
          elim (two-of q n.0 n.1 (ap (λ qs. is_listed qs q) n.2 ∙ l)) [
            | inl x ↦ same Ksk n.0 n.3 x
            | inr y ↦ same Zsk n.1 n.4 y
          ]

  old-is : (q : List ℕ) → is_listed olds q ≡ true
      → (k : KeyParts) × (get v.set.keys q ≡ Some k) × (goes roll k ≡ true)
  old-is q l = old-goes policy v.set roll q (ap (λ qs. is_listed qs q) (sym s.olds_are) ∙ l)

  module _ (whole : IsWhole v.set) where
    -- a KSK of before that stays
    old-ksk : (q : List ℕ) (k : KeyParts) → get v.set.keys q ≡ Some k → is_listed olds q ≡ false
        → keeps_ksk k.keytype ≡ true → HasOf keeps_zsk k.algorithm new
    old-ksk q k at out keeps = elim s.by [
      | inl c ↦
          let g : goes roll k ≡ true =
          subst (λ r. goes r k ≡ true) (sym c.roll_is) (kept-goes k keeps) in
          absurd (true≢false (sym (ap (λ qs. is_listed qs q) s.olds_are
          ∙ goes-old policy v.set roll q k at g) ∙ out))
      | inr r ↦ by r (whole.zone k.algorithm (q, k, at, keeps, refl))
    ]
      where
        by : IsRenewal policy v roll news → HasOf keeps_zsk k.algorithm v.set
            → HasOf keeps_zsk k.algorithm new
        by r z = elim (cases_Bool (is_listed olds z.0)) [
          | inl t ↦
              let g = old-is z.0 t in
              let key = same_Some g.0 z.1 (sym g.1 ∙ z.2) in
              let g' : goes roll z.1 ≡ true = subst (λ k. goes roll k ≡ true) key g.2 in
              let is = goes-of policy v.set r.wanted roll z.0 z.1 z.2 g' in
              let own = false_from_ne_true (is_of_ksks roll) (λ own. ksks-go roll z.1 own g' z.3) in
              subst (λ a. HasOf keeps_zsk a new) (sym is ∙ z.4) (zone-new own)
          | inr f ↦ subst (λ a. HasOf keeps_zsk a new) z.4 (stays-zsk z.0 z.1 z.2 z.3 f)
        ]

    -- a KSK that is new
    new-ksk : HasOf keeps_zsk policy.algorithm new
    new-ksk = elim (cases_Bool (is_of_ksks roll)) [
      | inl own ↦ elim s.by [
        | inl c ↦ absurd (true≢false (sym own ∙ ap is_of_ksks c.roll_is))
        | inr r ↦
            let g = works-goes roll r.key r.renews r.works in
            let is = goes-of policy v.set r.wanted roll r.old r.key r.there g in
            let z = whole.zone policy.algorithm (
              r.old,
              r.key,
              r.there,
              works-ksk roll r.key.keytype r.works (ksks-role roll own),
              is,
            ) in
            let out = false_from_ne_true (is_listed olds z.0) (λ t.
            let g = old-is z.0 t in
            let key = same_Some g.0 z.1 (sym g.1 ∙ z.2) in
            ksks-go roll z.1 own (subst (λ k. goes roll k ≡ true) key g.2) z.3) in
            subst (λ a. HasOf keeps_zsk a new) z.4 (stays-zsk z.0 z.1 z.2 z.3 out)
      ]
      | inr other ↦ zone-new other
    ]

    -- what was at the reference of a key
    was : (q : List ℕ) (j : KeyParts) → get new.keys q ≡ Some j → (k : KeyParts)
        × (get v.set.keys q ≡ Some k)
        × (after_start roll now (is_listed olds q) (is_listed news q) k ≡ j)
    was q j at = elim (came v.set new start m q j at) [
      | inl a ↦ absurd (true≢false (sym a.0))
      | inr b ↦ b
    ]

    kind-of : (q : List ℕ) (j k : KeyParts)
        → after_start roll now (is_listed olds q) (is_listed news q) k ≡ j
        → started roll (is_listed olds q) (is_listed news q) k.keytype ≡ j.keytype
    kind-of q j k is = sym (start-kind roll now (is_listed olds q) (is_listed news q) k)
        ∙ ap (λ (k : KeyParts). k.keytype) is

    algorithm-is : (q : List ℕ) (j k : KeyParts)
        → after_start roll now (is_listed olds q) (is_listed news q) k ≡ j
        → k.algorithm ≡ j.algorithm
    algorithm-is q j k is = sym (start-algorithm roll now (is_listed olds q) (is_listed news q) k)
        ∙ ap (λ (k : KeyParts). k.algorithm) is

    start-zone : (a : ℕ) → HasOf keeps_ksk a new → HasOf keeps_zsk a new
    start-zone a h =
        let w = was h.0 h.1 h.2 in
        let keeps : keeps_ksk (started roll (is_listed olds h.0) (is_listed news h.0) w.0.keytype)
        ≡ true = ap keeps_ksk (kind-of h.0 h.1 w.0 w.2) ∙ h.3 in
        elim (cases_Bool (is_listed news h.0)) [
          | inl t ↦ subst (λ a. HasOf keeps_zsk a new)
              (sym (new-of h.0 w.0 w.1 t) ∙ algorithm-is h.0 h.1 w.0 w.2 ∙ h.4) new-ksk
          | inr f ↦
              let k = started-ksk roll (is_listed olds h.0) w.0.keytype
              (ap (λ i. keeps_ksk (started roll (is_listed olds h.0) i w.0.keytype)) (sym f)
              ∙ keeps) in
              subst (λ a. HasOf keeps_zsk a new) (algorithm-is h.0 h.1 w.0 w.2 ∙ h.4)
              (old-ksk h.0 w.0 w.1 k.0 k.1)
        ]

    -- and no KSK has an algorithm that none had before
    pub none-new : roll ≢ AlgorithmRoll → (a : ℕ) → HasOf keeps_ksk a new → HasOf keeps_ksk a v.set
    none-new other a h =
        let w = was h.0 h.1 h.2 in
        let keeps : keeps_ksk (started roll (is_listed olds h.0) (is_listed news h.0) w.0.keytype)
        ≡ true = ap keeps_ksk (kind-of h.0 h.1 w.0 w.2) ∙ h.3 in
        elim (cases_Bool (is_listed news h.0)) [
          | inl t ↦ elim s.by [
            | inl c ↦ absurd (other c.roll_is)
            | inr r ↦
                let g = works-goes roll r.key r.renews r.works in
                let is = goes-of policy v.set r.wanted roll r.old r.key r.there g in (
                  r.old,
                  r.key,
                  r.there,
                  works-ksk roll r.key.keytype r.works (no-zsk r h.0 w.0 w.1 t keeps),
                  is ∙ sym (new-of h.0 w.0 w.1 t) ∙ algorithm-is h.0 h.1 w.0 w.2 ∙ h.4,
                )
          ]
          | inr f ↦
              let k = started-ksk roll (is_listed olds h.0) w.0.keytype
              (ap (λ i. keeps_ksk (started roll (is_listed olds h.0) i w.0.keytype)) (sym f)
              ∙ keeps) in
              (h.0, w.0, w.1, k.1, algorithm-is h.0 h.1 w.0 w.2 ∙ h.4)
        ]
      where
        no-zsk : IsRenewal policy v roll news → (q : List ℕ) (k : KeyParts)
            → get v.set.keys q ≡ Some k → is_listed news q ≡ true
            → keeps_ksk (started roll (is_listed olds q) (is_listed news q) k.keytype) ≡ true
            → role_of roll ≢ Zsk
        no-zsk r q k at l keeps role =
            let n = one-new policy v.set (role_of roll) news r.news_are in
            let is = one-of q n.0 (ap (λ qs. is_listed qs q) n.1 ∙ l) in
            let key = same_Some n.2.key k (sym n.2.at ∙ ap (get v.set.keys) is ∙ at) in
            let has : has_role Zsk k.keytype ≡ true =
            subst (λ (k : KeyParts). has_role Zsk k.keytype ≡ true) key
            (subst (λ role. has_role role n.2.key.keytype ≡ true) role n.2.has) in
            no-ksk roll (is_listed olds q) (is_listed news q) k.keytype has keeps

    pub started-whole : IsWhole new
    started-whole = record {
      zone = start-zone;
      alike = λ q j at.
          let w = was q j at in
          ap is_alike (sym (kind-of q j w.0 w.2))
          ∙ started-alike roll (is_listed olds q) (is_listed news q) w.0.keytype
          (whole.alike q w.0 w.1);
    }
