-- Calls that are said keep the sets whole: `Whole/Keys` has what happens to one key, `Whole/Starts`
-- to the set by a start.
pub mod Keys
pub mod Starts
use Rattle.std.proofs.Common.{◌≡◌, ◌≢◌, ℕ, suc, ◌≤◌, inl, inr, true, List}
use Rattle.std.proofs.Common.{Option, None, Some, length, refl, sym, ap, subst, ◌∙◌, arith}
use Rattle.std.proofs.lemmas.Bool.{false_from_ne_true, true≢false}
use Rattle.std.proofs.lemmas.Option.{none-some, same_Some, slice_get_within}
use Rattle.std.specs.{Prelude.slice_get, Cmp.Lexicographic.slice_cmp}
use Rattle.std.specs.{FinMap.get-empty, Ordering.nat_cmp}
use Rattle.dnssec_key.specs.declared.roll.RollType.{RollType, TheVariants.AlgorithmRoll}
use Rattle.dnssec_key.specs.Key.{KeyParts}
use Rattle.dnssec_zone.specs.Wait as waits
use Rattle.dnssec_keyset.{specs.KeySet.KeySetParts, proofs.Changes.Changes}
use Rattle.dnssec_keyset.specs.Step as keyset
use Rattle.dnssec_run.specs.declared.{call.Call.Call, record.Entry.Entry}
use Rattle.dnssec_run.specs.ByAlgorithm.{KeepsWhole, keeps_ksk, keeps_zsk}
use Rattle.dnssec_run.specs.{Plain.start_of, Record.IsRun, Record.call_of, Record.world_at}
use Rattle.dnssec_run.proofs.Chain.Trust.{adds_blank, plainly}
use Rattle.dnssec_run.proofs.{Effects.moved_key, WholeRolls.Replies.did}
use Rattle.dnssec_run.specs.declared.call.Call.TheVariants as call
use Rattle.dnssec_run.proofs.Effects.{came, deleted-stale, deletes, goes as stays}
use Rattle.dnssec_key.specs.declared.roll.Half.{Half}
use Rattle.dnssec_key.specs.{RollTable.half_of, declared.kind.KeyType.KeyType}
use Rattle.dnssec_network.specs.Network.{Network}
use Rattle.dnssec_policy.specs.declared.policy.Policy.{Policy}
use Rattle.dnssec_policy.specs.{Automatic.IsAutomatic, Automatic.is_add, View.View}
use Rattle.dnssec_policy.proofs.PlainCalls.{added, each-set, said}
use Rattle.dnssec_policy.proofs.May.{May}
use Rattle.dnssec_policy.proofs.Whole.Keys.{HasOf, is_alike, IsWhole, waited-alike, waited-ksk}
use Rattle.dnssec_policy.proofs.Whole.Keys.{waited-zsk, stale-zsk, blank-kept}
use Rattle.dnssec_policy.proofs.Whole.Starts.{none-new, started-whole}

-- ---- a call that is no start

abbrev IsCalm : keyset.Call → Type 0
IsCalm (keyset.Set reference setting) = ⊥
IsCalm (keyset.StartRoll roll olds news now) = ⊥
IsCalm (keyset.AbortRoll roll) = ⊥
IsCalm _ = Unit {0}

-- so is a key's kind after it, if it stays or moves by a wait
calm-kind : (P : KeyType → Type 0) (set : KeySetParts) (c : keyset.Call) (q : List ℕ) (k : KeyParts)
    → IsCalm c → ((roll : RollType) (half : Half) → P ((half_of roll half).moves k.keytype))
    → P k.keytype → P (moved_key set c q k).keytype
calm-kind P set (keyset.Set reference setting) q k calm waits stays = absurd calm
calm-kind P set (keyset.StartRoll roll olds news now) q k calm waits stays = absurd calm
calm-kind P set (keyset.AbortRoll roll) q k calm waits stays = absurd calm
calm-kind P set (keyset.Wait roll half now) q k calm waits stays = waits roll half
calm-kind P set _ q k calm waits stays = stays

calm-algorithm : (set : KeySetParts) (c : keyset.Call) (q : List ℕ) (k : KeyParts) → IsCalm c
    → (moved_key set c q k).algorithm ≡ k.algorithm
calm-algorithm set (keyset.Set reference setting) q k calm = absurd calm
calm-algorithm set (keyset.StartRoll roll olds news now) q k calm = absurd calm
calm-algorithm set (keyset.AbortRoll roll) q k calm = absurd calm
calm-algorithm set _ q k calm = refl

calm-whole : (old new : KeySetParts) (c : keyset.Call) → IsCalm c
    → keyset.clearance old c ≡ waits.Clear → adds_blank c ≡ true → Changes old c new
    → IsWhole old → IsWhole new
calm-whole old new c calm clear blank m whole = record {
  zone = λ a h. elim (came old new c m h.0 h.1 h.2) [
    | inl x ↦ absurd (true≢false (sym h.3 ∙ (blank-kept c h.1 blank x.1).0))
    | inr b ↦
        let keeps = calm-kind (λ t. keeps_ksk t ≡ true → keeps_ksk b.0.keytype ≡ true) old c h.0
        b.0 calm (λ roll half. waited-ksk roll half b.0.keytype) (λ e. e)
        (ap (λ (k : KeyParts). keeps_ksk k.keytype) b.2 ∙ h.3) in
        let is = sym (calm-algorithm old c h.0 b.0 calm)
        ∙ ap (λ (k : KeyParts). k.algorithm) b.2 ∙ h.4 in
        let z = whole.zone a (h.0, b.0, b.1, keeps, is) in
        let there = false_from_ne_true (deletes c z.0)
        (λ t. stale-zsk z.1.keytype (deleted-stale old c clear z.0 z.1 z.2 t) z.3) in (
          z.0,
          moved_key old c z.0 z.1,
          stays old new c clear m z.0 z.1 z.2 there,
          calm-kind (λ t. keeps_zsk t ≡ true) old c z.0 z.1 calm
              (λ r half. waited-zsk r half z.1.keytype (whole.alike z.0 z.1 z.2) z.3) z.3,
          calm-algorithm old c z.0 z.1 calm ∙ z.4,
        )
  ];
  alike = λ q j at. elim (came old new c m q j at) [
    | inl x ↦ (blank-kept c j blank x.1).1
    | inr b ↦
        let was = whole.alike q b.0 b.1 in
        ap (λ (k : KeyParts). is_alike k.keytype) (sym b.2)
        ∙ calm-kind (λ t. is_alike t ≡ true) old c q b.0 calm
        (λ roll half. waited-alike roll half b.0.keytype was) was
  ];
}

-- ---- one call of the run

said-whole : (policy : Policy) (v : View) (new : KeySetParts) (c : keyset.Call) → May policy v c
    → keyset.clearance v.set c ≡ waits.Clear → adds_blank c ≡ true → Changes v.set c new
    → IsWhole v.set → IsWhole new
said-whole policy v new (keyset.StartRoll roll olds news now) may clear blank m whole =
    started-whole policy v new roll olds news now may.1 clear m whole
said-whole policy v new (keyset.Set reference setting) may clear blank m whole = absurd may
said-whole policy v new (keyset.AbortRoll roll) may clear blank m whole = absurd may
said-whole policy v new c may clear blank m whole =
    calm-whole v.set new c tt clear blank m whole

-- the roll that it starts, if any
abbrev started-roll : keyset.Call → Option RollType
started-roll (keyset.StartRoll roll olds news now) = Some roll
started-roll _ = None

start-seen : (c : Call) (roll : RollType) → start_of c ≡ Some roll
    → started-roll (call_of c) ≡ Some roll
start-seen c roll e = grind arith

pub add-starts : (c : Call) → is_add c ≡ true → (roll : RollType) → start_of c ≡ Some roll → ⊥
add-starts c h roll e = grind arith

add-calm : (c : Call) → is_add c ≡ true → IsCalm (call_of c)
add-calm = added IsCalm (λ reference key. tt)

-- ---- the run

module _ {name : List ℕ} {calls : List Call} {entries : List Entry} {network : Network} {time : ℕ}
    (run : IsRun name calls entries) (auto : IsAutomatic name calls entries network time) where
  abbrev set_at : ℕ → KeySetParts
  set_at n = (world_at name calls entries n).set

  next-whole : (n : ℕ) (c : Call) → slice_get calls n ≡ Some c
      → keyset.clearance (set_at n) (call_of c) ≡ waits.Clear
      → Changes (set_at n) (call_of c) (set_at (suc n)) → IsWhole (set_at n)
      → IsWhole (set_at (suc n))
  next-whole n c ci clear m h = elim (said run auto n c ci) [
    | inl a ↦ calm-whole (set_at n) (set_at (suc n)) (call_of c) (add-calm c a) clear
        (plainly c).blank m h
    | inr s ↦ subst (λ set. keyset.clearance set (call_of c) ≡ waits.Clear
        → Changes set (call_of c) (set_at (suc n)) → IsWhole set → IsWhole (set_at (suc n)))
        s.0.at.set
        (λ clear m. said-whole s.0.policy s.0.view (set_at (suc n)) (call_of c) s.1 clear
        (plainly c).blank m) clear m h
  ]

  whole-at : (n : ℕ) → n ≤ length entries → IsWhole (set_at n)
  unfolding world_at
  whole-at = each-set run IsWhole (record {
    zone = λ a h. absurd (none-some h.1 (sym (get-empty (slice_cmp nat_cmp) h.0) ∙ h.2));
    alike = λ q k at. absurd (none-some k (sym (get-empty (slice_cmp nat_cmp) q) ∙ at));
  }) next-whole

  -- a start that is said brings no algorithm to the KSKs
  start-none : (policy : Policy) (v : View) (new : KeySetParts) (c : keyset.Call) (roll : RollType)
      → May policy v c → started-roll c ≡ Some roll
      → keyset.clearance v.set c ≡ waits.Clear → Changes v.set c new → IsWhole v.set
      → roll ≢ AlgorithmRoll → (a : ℕ) → HasOf keeps_ksk a new → HasOf keeps_ksk a v.set
  start-none policy v new (keyset.StartRoll r olds news now) roll may is clear m whole other =
      none-new policy v new r olds news now may.1 clear m whole
      (λ e. other (sym (same_Some r roll is) ∙ e))
  start-none policy v new _ roll may is clear m whole other = absurd (none-some roll is)

  pub automatic-whole : KeepsWhole name calls entries
  automatic-whole = record {
    both = λ n a roll start.
        let within = slice_get_within entries n start.entry start.entry_is in
        (whole-at (suc n) (omega (arith, within))).zone a;
    none_new = λ n a roll start other h.
        let within = slice_get_within entries n start.entry start.entry_is in
        let whole = whole-at n (omega (arith, within)) in
        let d = did run n start.call start.entry start.call_is start.entry_is start.accepted in
        elim (said run auto n start.call start.call_is) [
          | inl x ↦ absurd (add-starts start.call x roll start.roll_is)
          | inr s ↦ subst (λ set. keyset.clearance set (call_of start.call) ≡ waits.Clear
              → Changes set (call_of start.call) (set_at (suc n)) → IsWhole set
              → HasOf keeps_ksk a set) s.0.at.set
              (λ clear m whole. start-none s.0.policy s.0.view (set_at (suc n))
              (call_of start.call) roll s.1 (start-seen start.call roll start.roll_is) clear m whole
              other a h) d.0 d.1 whole
        ];
  }
