-- Calls that are said are plain: until the first wait of an algorithm roll is over, no key has a
-- DS, and no roll starts that needs one.
use Rattle.std.proofs.Common.{◌≡◌, ℕ, suc, ◌<◌, ◌≤◌, ◌⊎◌, inl, inr, Bool, true, false, List}
use Rattle.std.proofs.Common.{Option, None, Some, length, refl, sym, ap, subst, ◌∙◌, arith}
use Rattle.std.proofs.lemmas.Bool.{and_parts, cases_Bool, true≢false}
use Rattle.std.proofs.lemmas.Option.{none-some, slice_get_within}
use Rattle.std.specs.Prelude.{slice_get}
use Rattle.std.specs.{Cmp.Lexicographic.slice_cmp, Ordering.nat_cmp, FinMap.get, FinMap.get-empty}
use Rattle.dnssec_key.specs.declared.{kind.KeyType.KeyType, roll.RollState.RollState}
use Rattle.dnssec_key.specs.declared.roll.RollType.{RollType, TheVariants.AlgorithmRoll}
use Rattle.dnssec_key.specs.Key.{KeyParts}
use Rattle.dnssec_key.specs.declared.roll.Half.{Half, TheVariants.First, TheVariants.Second}
use Rattle.dnssec_key.specs.RollTable.{column, half_of, cache_expire}
use Rattle.dnssec_zone.specs.{Rolls.phase_of, Start.is_listed}
use Rattle.dnssec_zone.specs.Wait as waits
use Rattle.dnssec_keyset.{specs.KeySet.KeySetParts, proofs.Changes.Changes, proofs.Laws.same-is}
use Rattle.dnssec_keyset.specs.Step as keyset
use Rattle.dnssec_run.specs.declared.{call.Call.Call, record.Entry.Entry}
use Rattle.dnssec_run.specs.Plain.{IsPlain, needs_algorithm_roll, sets_only_others}
use Rattle.dnssec_run.specs.Published.{in_ds}
use Rattle.dnssec_run.specs.Record.{IsRun, call_of, is_accepted, world_at}
use Rattle.dnssec_run.specs.WholeRolls.{propagation}
use Rattle.dnssec_run.proofs.Chain.{RollFacts.still_ds, Trust.adds_blank, Trust.plainly}
use Rattle.dnssec_run.proofs.Effects.{came, is_on, key_added, moved_key, phase-came, phase_put}
use Rattle.dnssec_run.proofs.Effects.{start-kind}
use Rattle.dnssec_run.proofs.Premise.{DoesAt, first_wait_of, start_of, same-rolls, first_wait-made}
use Rattle.dnssec_run.proofs.WholeRolls.Replies.{does, outcome, since}
use Rattle.dnssec_run.specs.declared.call.Call.TheVariants as call
use Rattle.dnssec_network.specs.Network.{Network}
use Rattle.dnssec_policy.specs.Automatic.{IsAutomatic, IsSaid, is_add}
use Rattle.dnssec_policy.specs.{declared.policy.Policy.Policy, Keys.role_of, Keys.serves, View.View}
use Rattle.dnssec_policy.proofs.{May.IsStart, May.May, Said.may}

-- ---- a run

-- what holds of the first set, and is kept by each call that is accepted, holds of each set
pub each-set : {name : List ℕ} {calls : List Call} {entries : List Entry}
    (run : IsRun name calls entries) (P : KeySetParts → Type 0)
    → P (world_at name calls entries 0).set
    → ((n : ℕ) (c : Call) → slice_get calls n ≡ Some c
    → keyset.clearance (world_at name calls entries n).set (call_of c) ≡ waits.Clear
    → Changes (world_at name calls entries n).set (call_of c)
    (world_at name calls entries (suc n)).set → P (world_at name calls entries n).set
    → P (world_at name calls entries (suc n)).set)
    → (n : ℕ) → n ≤ length entries → P (world_at name calls entries n).set
each-set {name = name} {calls = calls} {entries = entries} run P first next n within =
    since run (λ n. P (world_at name calls entries n).set) 0 first
    (λ n c e later within ci ei h. elim (outcome run n c e ci ei) [
      | inl y ↦ subst P (sym y.1) h
      | inr d ↦ next n c ci d.1 d.2 h
    ]) n (omega arith) within

-- ---- one call

-- some key has to have a DS
abbrev HasDs : KeySetParts → Type 0
HasDs set = (q : List ℕ) × (k : KeyParts) × (get set.keys q ≡ Some k) × (in_ds k.keytype ≡ true)

works-ds : (roll : RollType) (k : KeyType) → needs_algorithm_roll roll ≡ true
    → serves (role_of roll) k ≡ true → in_ds k ≡ true
works-ds roll k needs works = grind (arith, and_parts)

-- a start that is said and needs a DS finds one
has-ds : (policy : Policy) (v : View) (roll : RollType) (olds news : List (List ℕ))
    → IsStart policy v roll olds news → needs_algorithm_roll roll ≡ true → HasDs v.set
has-ds policy v roll olds news s needs = elim s.by [
  | inl c ↦ absurd (true≢false (sym needs ∙ ap needs_algorithm_roll c.roll_is))
  | inr r ↦ (r.old, r.key, r.there, works-ds roll r.key.keytype needs r.works)
]

abbrev is_first : RollType → Half → Bool
is_first AlgorithmRoll First = true
is_first _ _ = false

-- a call that leaves it so that no key has a DS
abbrev Ok : keyset.Call → Type 0
Ok (keyset.AddKey reference key) = Unit {0}
Ok (keyset.Set reference setting) = ⊥
Ok (keyset.DeleteKey q) = Unit {0}
Ok (keyset.StartRoll roll olds news now) = needs_algorithm_roll roll ≡ false
Ok (keyset.Report roll half ttl now) = needs_algorithm_roll roll ≡ false
Ok (keyset.Wait roll half now) =
    (needs_algorithm_roll roll ≡ false) × (is_first roll half ≡ false)
Ok (keyset.RollDone roll) = Unit {0}
Ok (keyset.AbortRoll roll) = ⊥

-- no key has a DS, and no roll is in progress that needs one
record HasNone (set : KeySetParts) : Type 0 where
  keys : (q : List ℕ) (k : KeyParts) → get set.keys q ≡ Some k → in_ds k.keytype ≡ false
  rolls : (roll : RollType) (p : RollState) → phase_of set.rolls roll ≡ Some p
      → needs_algorithm_roll roll ≡ false

first-is : (roll : RollType) (half : Half) (now : ℕ)
    → (first_wait_of (keyset.Wait roll half now) ≡ Some AlgorithmRoll → ⊥)
    → is_first roll half ≡ false
first-is AlgorithmRoll First now nope = absurd (nope refl)
first-is AlgorithmRoll Second now nope = refl
first-is _ half now nope = refl

ok : (policy : Policy) (v : View) (c : keyset.Call) → HasNone v.set → May policy v c
    → (first_wait_of c ≡ Some AlgorithmRoll → ⊥) → Ok c
ok policy v (keyset.AddKey reference key) h m nope = tt
ok policy v (keyset.Set reference setting) h m nope = m
ok policy v (keyset.DeleteKey q) h m nope = tt
ok policy v (keyset.StartRoll roll olds news now) h m nope =
    elim (cases_Bool (needs_algorithm_roll roll)) [
      | inl t ↦
          let d = has-ds policy v roll olds news m.1 t in
          absurd (true≢false (sym d.3 ∙ h.keys d.0 d.1 d.2))
      | inr f ↦ f
    ]
ok policy v (keyset.Report roll half ttl now) h m nope = h.rolls roll (propagation half) m.1
ok policy v (keyset.Wait roll half now) h m nope =
    (h.rolls roll (cache_expire half m.1) m.2, first-is roll half now nope)
ok policy v (keyset.RollDone roll) h m nope = tt
ok policy v (keyset.AbortRoll roll) h m nope = m

-- what is so of all adds is so of a call that is one
pub added : (P : keyset.Call → Type 0)
    → ((reference : List ℕ) (key : KeyParts) → P (keyset.AddKey reference key))
    → (c : Call) → is_add c ≡ true → P (call_of c)
added P adds (call.AddKeyKsk a b c d e f) h = adds _ _
added P adds (call.AddKeyZsk a b c d e f) h = adds _ _
added P adds (call.AddKeyCsk a b c d e f) h = adds _ _
added P adds (call.AddPublicKey a b c d e) h = adds _ _
added P adds _ h = absurd (true≢false (sym h))

-- so it is an add of a key
pub add-is : (c : Call) → is_add c ≡ true → (q : List ℕ) × (k : KeyParts)
    × (call_of c ≡ keyset.AddKey q k)
add-is = added (λ c. (q : List ℕ) × (k : KeyParts) × (c ≡ keyset.AddKey q k)) (λ q k. (q, k, refl))

added-ok : (c : Call) → is_add c ≡ true → Ok (call_of c)
added-ok = added Ok (λ reference key. tt)

-- what it makes of a key
waited-ds : (roll : RollType) (half : Half) → needs_algorithm_roll roll ≡ false
    → is_first roll half ≡ false → (k : KeyType)
    → in_ds ((half_of roll half).moves k) ≡ in_ds k
unfolding column
waited-ds roll half free other k = grind arith

moved-ds : (set : KeySetParts) (c : keyset.Call) (q : List ℕ) (k : KeyParts) → Ok c
    → in_ds (moved_key set c q k).keytype ≡ in_ds k.keytype
moved-ds set (keyset.Set reference setting) q k o = absurd o
moved-ds set (keyset.StartRoll roll olds news now) q k o =
    ap in_ds (start-kind roll now (is_listed olds q) (is_listed news q) k)
    ∙ still_ds roll o (is_listed olds q) (is_listed news q) k.keytype
moved-ds set (keyset.Wait roll half now) q k o = waited-ds roll half o.0 o.1 k.keytype
moved-ds set (keyset.AbortRoll roll) q k o = absurd o
moved-ds set _ q k o = refl

-- a new key has none
blank-ds : (c : keyset.Call) (j : KeyParts) → adds_blank c ≡ true → key_added c ≡ Some j
    → in_ds j.keytype ≡ false
blank-ds c j blank added = grind arith

put-free : (c : keyset.Call) → Ok c → (roll : RollType) (p : RollState) → is_on c roll ≡ true
    → phase_put c ≡ Some p → needs_algorithm_roll roll ≡ false
put-free (keyset.StartRoll r olds news now) o roll p on put =
    subst (λ r. needs_algorithm_roll r ≡ false) (same-is r roll on) o
put-free (keyset.Report r half ttl now) o roll p on put =
    subst (λ r. needs_algorithm_roll r ≡ false) (same-is r roll on) o
put-free (keyset.Wait r half now) o roll p on put =
    subst (λ r. needs_algorithm_roll r ≡ false) (same-is r roll on) o.0
put-free _ o roll p on put = absurd (none-some p put)

kept : (old new : KeySetParts) (c : keyset.Call) → Ok c → adds_blank c ≡ true → Changes old c new
    → HasNone old → HasNone new
kept old new c o blank m h = record {
  keys = λ q j e. elim (came old new c m q j e) [
    | inl a ↦ blank-ds c j blank a.1
    | inr b ↦ ap (λ (k : KeyParts). in_ds k.keytype) (sym b.2) ∙ moved-ds old c q b.0 o
        ∙ h.keys q b.0 b.1
  ];
  rolls = λ roll p e. elim (phase-came old new c m roll p e) [
    | inl a ↦ put-free c o roll p a.0 a.1
    | inr b ↦ h.rolls roll p b.1
  ];
}

-- ---- the run

pub only : (others : List ℕ → Bool) (c : Call)
    → (is_add c ≡ true) ⊎ ((policy : Policy) × (v : View) × May policy v (call_of c))
    → sets_only_others others c ≡ true
only others (call.SetPresent a b c) (inl h) = absurd (true≢false (sym h))
only others (call.SetPresent a b c) (inr m) = absurd m.2
only others (call.SetSigner a b) (inl h) = absurd (true≢false (sym h))
only others (call.SetSigner a b) (inr m) = absurd m.2
only others (call.SetAtParent a b) (inl h) = absurd (true≢false (sym h))
only others (call.SetAtParent a b) (inr m) = absurd m.2
only others (call.SetStale a) (inl h) = absurd (true≢false (sym h))
only others (call.SetStale a) (inr m) = absurd m.2
only others (call.SetVisible a b) (inl h) = absurd (true≢false (sym h))
only others (call.SetVisible a b) (inr m) = absurd m.2
only others (call.SetDsVisible a b) (inl h) = absurd (true≢false (sym h))
only others (call.SetDsVisible a b) (inr m) = absurd m.2
only others (call.SetRrsigVisible a b) (inl h) = absurd (true≢false (sym h))
only others (call.SetRrsigVisible a b) (inr m) = absurd m.2
only others _ x = refl

-- whichever call it is
start-ds : (policy : Policy) (v : View) (c : keyset.Call) (roll : RollType) → start_of c ≡ Some roll
    → needs_algorithm_roll roll ≡ true → May policy v c → HasDs v.set
start-ds policy v (keyset.StartRoll r olds news now) roll s needs m =
    has-ds policy v r olds news m.1
    (subst (λ r. needs_algorithm_roll r ≡ true) {x = roll} {y = r} (cc) needs)
start-ds policy v _ roll s needs m = absurd (none-some roll s)

starts-none : (c : Call) → is_add c ≡ true → (roll : RollType) → start_of (call_of c) ≡ Some roll
    → ⊥
starts-none c h roll s = grind arith

module _ {name : List ℕ} {calls : List Call} {entries : List Entry} {network : Network}
    {time : ℕ} (run : IsRun name calls entries)
    (auto : IsAutomatic name calls entries network time) where
  abbrev set_at : ℕ → KeySetParts
  set_at n = (world_at name calls entries n).set

  abbrev Begun : ℕ → Type 0
  Begun n = (m : ℕ) × (m < n) × DoesAt first_wait_of calls entries m AlgorithmRoll

  -- what is said at a position, of the set there
  pub said : (n : ℕ) (c : Call) → slice_get calls n ≡ Some c
      → (is_add c ≡ true) ⊎ ((s : IsSaid name calls entries network time n c)
      × May s.policy s.view (call_of c))
  said n c ci = elim (auto n c ci) [
    | inl a ↦ inl a
    | inr s ↦ inr (s, may s.policy s.view (call_of c) s.said)
  ]

  next : (n : ℕ) (c : Call) (e : Entry) → slice_get calls n ≡ Some c → slice_get entries n ≡ Some e
      → Begun n ⊎ HasNone (set_at n) → Begun (suc n) ⊎ HasNone (set_at (suc n))
  next n c e ci ei (inl w) = inl (w.0, omega (arith, w.1), w.2)
  next n c e ci ei (inr h) = elim (outcome run n c e ci ei) [
    | inl y ↦ inr (subst HasNone (sym y.1) h)
    | inr d ↦ by (first_wait_of (call_of c)) refl d.0 d.2
  ]
    where
      free : (first_wait_of (call_of c) ≡ Some AlgorithmRoll → ⊥) → Ok (call_of c)
      free nope = elim (said n c ci) [
        | inl a ↦ added-ok c a
        | inr s ↦ ok s.0.policy s.0.view (call_of c) (subst HasNone (sym s.0.at.set) h) s.1 nope
      ]

      on : Changes (set_at n) (call_of c) (set_at (suc n))
          → (first_wait_of (call_of c) ≡ Some AlgorithmRoll → ⊥)
          → Begun (suc n) ⊎ HasNone (set_at (suc n))
      on m nope = inr (kept (set_at n) (set_at (suc n)) (call_of c) (free nope)
          (plainly c).blank m h)

      by : (o : Option RollType) → first_wait_of (call_of c) ≡ o → is_accepted e.reply ≡ true
          → Changes (set_at n) (call_of c) (set_at (suc n))
          → Begun (suc n) ⊎ HasNone (set_at (suc n))
      by (Some AlgorithmRoll) is ok m =
          inl (n, omega arith, does run first_wait_of AlgorithmRoll n c e ci ei ok is)
      by None is ok m = on m (λ t. absurd (none-some AlgorithmRoll (sym is ∙ t)))
      by (Some r) is ok m = on m (λ t. let nope = sym is ∙ t in absurd (cc))

  begun : (n : ℕ) → n ≤ length entries → Begun n ⊎ HasNone (set_at n)
  unfolding world_at
  begun n within = since run (λ n. Begun n ⊎ HasNone (set_at n)) 0 (inr (record {
    keys = λ q k e. absurd (none-some k (sym (get-empty (slice_cmp nat_cmp) q) ∙ e));
    rolls = λ roll p e. absurd (none-some p e);
  })) (λ n c e later within. next n c e) n (omega arith) within

  pub automatic-plain : IsPlain name calls entries
  automatic-plain = record {
    setters = λ n c ci. only _ c (elim (said n c ci) [
      | inl a ↦ inl a
      | inr s ↦ inr (s.0.policy, s.0.view, s.1)
    ]);
    first = λ n roll needs start.
        elim (begun n (omega (arith, slice_get_within entries n start.entry start.entry_is))) [
          | inl w ↦ (w.0, w.1, first_wait-made calls entries w.0 AlgorithmRoll w.2)
          | inr h ↦
              let starts = sym ((same-rolls start.call).0) ∙ start.roll_is in
              elim (said n start.call start.call_is) [
                | inl a ↦ absurd (starts-none start.call a roll starts)
                | inr s ↦
                    let d = start-ds s.0.policy s.0.view (call_of start.call) roll starts needs
                    s.1 in
                    absurd (true≢false (sym d.3 ∙ h.keys d.0 d.1
                    (ap (λ (set : KeySetParts). get set.keys d.0) (sym s.0.at.set) ∙ d.2)))
              ]
        ];
  }
