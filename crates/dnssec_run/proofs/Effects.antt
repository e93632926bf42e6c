-- What an accepted call does to the rolls and to each key, said once for all calls. So a law of
-- runs has a row only for the calls that change what it speaks of.
use Rattle.std.proofs.Common.{◌≡◌, ℕ, ◌⊎◌, inl, inr, Bool, true, false, refl, sym, ◌∙◌, ap, subst}
use Rattle.std.proofs.Common.{List, Option, None, Some, arith}
use Rattle.std.proofs.lemmas.Bool.{cases_Bool, false_from_ne_true, true≢false}
use Rattle.std.proofs.lemmas.{Iterator.Adapters.option_map_id, Option.none-some, Option.same_Some}
use Rattle.std.specs.{Prelude.if◌then◌else◌, Cmp.Lexicographic.bytes_decides, FinMap.get}
use Rattle.std.specs.{Option.option_map, Option.option_map_or, Str.bytes_eq}
use Rattle.dnssec_key.specs.RollTable.{after_early_end, after_report, after_start, after_wait}
use Rattle.dnssec_key.specs.RollTable.{after_expiry, cache_expire}
use Rattle.dnssec_key.specs.declared.roll.{RollType.RollType, RollState.RollState}
use Rattle.dnssec_key.specs.declared.{roll.RollState.TheVariants.Propagation1, kind.KeyType.KeyType}
use Rattle.dnssec_key.specs.{Key.KeyParts, Setters.Setting, Setters.set_by}
use Rattle.dnssec_zone.specs.{Lists.listed_by, Rolls.phase_of, Rolls.same_roll, Start.is_listed}
use Rattle.dnssec_zone.proofs.Flags.{ended, is_stale, started}
use Rattle.dnssec_zone.proofs.Tags.{mapped}
use Rattle.dnssec_keyset.specs.{KeySet.KeySetParts, Laws.roll_of}
use Rattle.dnssec_keyset.proofs.Accepted.{accepted_changes, add_free, gone_key, no_some}
use Rattle.dnssec_keyset.proofs.{Changes.Changes, Exchange.Kinds.kind_number}
use Rattle.dnssec_keyset.proofs.{Exchange.Kinds.number-moves, Laws.no_cause, Laws.same-is}
use Rattle.dnssec_run.specs.declared.{record.Reply.Reply, call.Call.Call}
use Rattle.dnssec_run.specs.Record.{added_by, call_of, is_accepted, reference_added, reply_of}
use Rattle.dnssec_run.specs.Record.{with_added}
use Rattle.dnssec_run.proofs.Chain.Kinds.{number_ended, number_started}
use Rattle.dnssec_run.proofs.Positions.{passing}
use Rattle.dnssec_zone.specs.Wait as waits
use Rattle.dnssec_keyset.specs.Step as keyset
use Rattle.dnssec_run.specs.declared.record.Reply.TheVariants as reply

-- ---- replies

-- a reply that accepts
pub accepted_step : (old new : KeySetParts) (c : keyset.Call) (r : Reply) → is_accepted r ≡ true
    → keyset.Step old c (reply_of r) new → (keyset.clearance old c ≡ waits.Clear)
    × Changes old c new × (reply_of r ≡ keyset.accepted_reply c)
accepted_step old new c r a h = accepted_changes old new c (reply_of r) (grind arith) h

-- a reply that refuses
pub refused_step : (old new : KeySetParts) (c : keyset.Call) (r : Reply) → is_accepted r ≡ false
    → keyset.Step old c (reply_of r) new → new ≡ old
refused_step old new c (reply.Refused x) a h = h.1
refused_step old new c _ a h = absurd (true≢false a)

-- ---- keys

-- it adds a key at the reference
abbrev pub adds : keyset.Call → List ℕ → Bool
adds (keyset.AddKey r k) q = bytes_eq r q
adds _ q = false

-- the key that it adds, if any
abbrev pub key_added : keyset.Call → Option KeyParts
key_added (keyset.AddKey r k) = Some k
key_added _ = None

-- it deletes the key at the reference
abbrev pub deletes : keyset.Call → List ℕ → Bool
deletes (keyset.DeleteKey r) q = bytes_eq r q
deletes _ q = false

-- what it makes of the key at the reference, if that was there and stays
abbrev pub moved_key : KeySetParts → keyset.Call → List ℕ → KeyParts → KeyParts
moved_key set (keyset.Set r s) q = λ k. if bytes_eq r q then set_by s k else k
moved_key set (keyset.StartRoll r olds news now) q =
    after_start r now (is_listed olds q) (is_listed news q)
moved_key set (keyset.Report r half ttl now) q = after_report r half now
moved_key set (keyset.Wait r half now) q = after_wait r half now
moved_key set (keyset.AbortRoll r) q = after_early_end r
    (is_listed (listed_by set.lists r).olds q) (is_listed (listed_by set.lists r).news q)
moved_key set _ q = λ k. k

pub start-kind : (r : RollType) (now : ℕ) (o i : Bool) (k : KeyParts)
    → (after_start r now o i k).keytype ≡ started r o i k.keytype
start-kind r now o i k = grind arith

pub end-kind : (r : RollType) (o i : Bool) (k : KeyParts)
    → (after_early_end r o i k).keytype ≡ ended r o i k.keytype
end-kind r o i k = grind arith

set-if : (b : Bool) (s : Setting) (k : KeyParts)
    → kind_number (if b then set_by s k else k).keytype ≡ kind_number k.keytype
unfolding kind_number
set-if b s k = grind arith

-- the kind of a key stays
pub same-number : (set : KeySetParts) (c : keyset.Call) (q : List ℕ) (k : KeyParts)
    → kind_number (moved_key set c q k).keytype ≡ kind_number k.keytype
same-number set (keyset.Set r s) q k = set-if (bytes_eq r q) s k
same-number set (keyset.StartRoll r olds news now) q k =
    ap kind_number (start-kind r now _ _ k)
    ∙ number_started r (is_listed olds q) (is_listed news q) k.keytype
same-number set (keyset.Wait r half now) q k = number-moves r half k.keytype
same-number set (keyset.AbortRoll r) q k =
    let l = listed_by set.lists r in ap kind_number (end-kind r _ _ k)
    ∙ number_ended r (is_listed l.olds q) (is_listed l.news q) k.keytype
same-number set _ q k = refl

-- a test passes as before, if it does so of each key
pub passing-moved : (p : KeyType → Bool) (f : KeyParts → KeyParts) (o : Option KeyParts)
    → ((k : KeyParts) → p (f k).keytype ≡ p k.keytype) → passing p (option_map f o) ≡ passing p o
passing-moved p f None stay = refl
passing-moved p f (Some k) stay = stay k

-- what is at the reference after it, by what it makes of the key that was there, if any
abbrev pub put_at : keyset.Call → List ℕ → Option KeyParts → Option KeyParts
put_at (keyset.AddKey r k) q o = if bytes_eq r q then Some k else o
put_at (keyset.DeleteKey r) q o = if bytes_eq r q then None else o
put_at _ q o = o

put-added : (c : keyset.Call) (q : List ℕ) (o : Option KeyParts) (j : KeyParts)
    → put_at c q o ≡ Some j → adds c q ≡ true → key_added c ≡ Some j
put-added c q o j e t = grind arith

put-there : (c : keyset.Call) (q : List ℕ) (o : Option KeyParts) (j : KeyParts)
    → put_at c q o ≡ Some j → adds c q ≡ false → o ≡ Some j
put-there c q o j e t = grind arith

put-kept : (c : keyset.Call) (q : List ℕ) (o : Option KeyParts) → adds c q ≡ false
    → deletes c q ≡ false → put_at c q o ≡ o
put-kept c q o a d = grind arith

-- it adds a key only at a reference that no key has
pub added-free : (set : KeySetParts) (r : List ℕ) (key : KeyParts)
    → keyset.clearance set (keyset.AddKey r key) ≡ waits.Clear → (q : List ℕ)
    → bytes_eq r q ≡ true → get set.keys q ≡ None
added-free set r key v q t = ap (get set.keys) (sym ((bytes_decides r q).0 t))
    ∙ no_some _ (add_free _ _ _ _ (no_cause _ v))

pub not-added : (set : KeySetParts) (c : keyset.Call) → keyset.clearance set c ≡ waits.Clear
    → (q : List ℕ) (k : KeyParts) → get set.keys q ≡ Some k → adds c q ≡ false
not-added set (keyset.AddKey r key) v q k there = false_from_ne_true (bytes_eq r q)
    (λ t. none-some k (sym (added-free set r key v q t) ∙ there))
not-added set _ v q k there = refl

-- the position of a key's add, after a call at position n
pub added-at : (n : ℕ) (c : keyset.Call) (f : List ℕ → ℕ) (q : List ℕ)
    → with_added n (reference_added c) f q ≡ (if adds c q then n else f q)
added-at n c f q = grind arith

-- a key that is there isn't added
pub added-same : (n : ℕ) (c : Call) (r : Reply) (f : List ℕ → ℕ) (set : KeySetParts)
    → (is_accepted r ≡ true → keyset.clearance set (call_of c) ≡ waits.Clear)
    → (q : List ℕ) (k : KeyParts) → get set.keys q ≡ Some k → added_by n c r f q ≡ f q
added-same n c r f set v q k there = elim (cases_Bool (is_accepted r)) [
  | inl t ↦ rw t (added-at n (call_of c) f q
      ∙ ap (λ b. if b then n else f q) (not-added set (call_of c) (v t) q k there))
  | inr t ↦ rw t refl
]

-- a call on a roll adds no key
pub adds-none : (c : keyset.Call) (r : RollType) (j : KeyParts) → roll_of c ≡ Some r
    → key_added c ≡ Some j → ⊥
adds-none (keyset.AddKey q k) r j on added = none-some r on
adds-none _ r j on added = none-some j added

-- it deletes only a stale key
pub deleted-stale : (set : KeySetParts) (c : keyset.Call) → keyset.clearance set c ≡ waits.Clear
    → (q : List ℕ) (k : KeyParts) → get set.keys q ≡ Some k → deletes c q ≡ true
    → is_stale k.keytype ≡ true
deleted-stale set (keyset.DeleteKey r) v q k there t =
    let g = gone_key (get set.keys r) (no_cause _ v) in
    ap (λ (k : KeyParts). is_stale k.keytype) (same_Some _ _
    (sym there ∙ ap (get set.keys) (sym ((bytes_decides r q).0 t)) ∙ g.1)) ∙ g.2
deleted-stale set _ v q k there t = absurd (true≢false (sym t))

-- ---- rolls

-- it is on this roll
abbrev pub is_on : keyset.Call → RollType → Bool
is_on c q = option_map_or (λ (r : RollType). same_roll r q) (roll_of c) false

-- the phase into which it puts its roll, if any
abbrev pub phase_put : keyset.Call → Option RollState
phase_put (keyset.StartRoll r olds news now) = Some Propagation1
phase_put (keyset.Report r half ttl now) = Some (cache_expire half ttl)
phase_put (keyset.Wait r half now) = Some (after_expiry half)
phase_put _ = None

-- what a law says of its roll in this phase
abbrev pub Own : (RollType → RollState → Type 0) → keyset.Call → Type 0
Own P (keyset.StartRoll r olds news now) = P r Propagation1
Own P (keyset.Report r half ttl now) = P r (cache_expire half ttl)
Own P (keyset.Wait r half now) = P r (after_expiry half)
Own P _ = Unit {0}

module _ (P : RollType → RollState → Type 0) (r : RollType) (p : RollState) where
  own-as : (q : RollType) (y : RollState) → P q y → same_roll q r ≡ true → Some y ≡ Some p → P r p
  own-as q y own on put = subst (P r) (same_Some y p put) (subst (λ r. P r y) (same-is q r on) own)

  own-put : (c : keyset.Call) → Own P c → is_on c r ≡ true → phase_put c ≡ Some p → P r p
  own-put (keyset.StartRoll q olds news now) own on put = own-as q Propagation1 own on put
  own-put (keyset.Report q half ttl now) own on put = own-as q (cache_expire half ttl) own on put
  own-put (keyset.Wait q half now) own on put = own-as q (after_expiry half) own on put
  own-put _ own on put = absurd (none-some p put)

-- ---- from one set to the next

module _ (old new : KeySetParts) where
  pub looked-up : (c : keyset.Call) → Changes old c new → (q : List ℕ)
      → get new.keys q ≡ put_at c q (option_map (moved_key old c q) (get old.keys q))
  looked-up (keyset.AddKey r k) m q = rw option_map_id (m.keys q)
  looked-up (keyset.DeleteKey r) m q = rw option_map_id (m.keys q)
  looked-up _ m q = m.keys q

  -- a key that is there was added, or was there before
  pub came : (c : keyset.Call) → Changes old c new → (q : List ℕ) (j : KeyParts)
      → get new.keys q ≡ Some j → ((adds c q ≡ true) × (key_added c ≡ Some j))
      ⊎ ((k : KeyParts) × (get old.keys q ≡ Some k) × (moved_key old c q k ≡ j))
  came c m q j e = elim (cases_Bool (adds c q)) [
    | inl t ↦ inl (t, put-added c q _ j (sym (looked-up c m q) ∙ e) t)
    | inr t ↦ inr (mapped _ _ j (put-there c q _ j (sym (looked-up c m q) ∙ e) t))
  ]

  -- a key that was there stays, unless it is deleted
  pub goes : (c : keyset.Call) → keyset.clearance old c ≡ waits.Clear → Changes old c new
      → (q : List ℕ) (k : KeyParts) → get old.keys q ≡ Some k → deletes c q ≡ false
      → get new.keys q ≡ Some (moved_key old c q k)
  goes c v m q k there kept = looked-up c m q ∙ rw there (put-kept c q
      (Some (moved_key old c q k)) (not-added old c v q k there) kept)

  pub phases : (c : keyset.Call) → Changes old c new → (q : RollType)
      → phase_of new.rolls q ≡ (if is_on c q then phase_put c else phase_of old.rolls q)
  phases (keyset.AddKey r k) m q = ap (λ s. phase_of s q) m.rolls
  phases _ m q = ap (λ s. phase_of s q) m.rolls

  -- a roll is in the phase into which the call puts it, or as before
  pub phase-came : (c : keyset.Call) → Changes old c new → (q : RollType) (p : RollState)
      → phase_of new.rolls q ≡ Some p → ((is_on c q ≡ true) × (phase_put c ≡ Some p))
      ⊎ ((is_on c q ≡ false) × (phase_of old.rolls q ≡ Some p))
  phase-came c m q p e = elim (cases_Bool (is_on c q)) [
    | inl t ↦ inl (t, rw t at (sym (phases c m q) ∙ e))
    | inr t ↦ inr (t, rw t at (sym (phases c m q) ∙ e))
  ]

  -- what holds of its roll, and of the rolls that stay as they are, holds of all
  pub by-phase : (P : RollType → RollState → Type 0) (c : keyset.Call) → Changes old c new
      → Own P c → ((r : RollType) (p : RollState) → is_on c r ≡ false
      → phase_of old.rolls r ≡ Some p → P r p)
      → (r : RollType) (p : RollState) → phase_of new.rolls r ≡ Some p → P r p
  by-phase P c m own others r p e = elim (phase-came c m r p e) [
    | inl x ↦ own-put P r p c own x.0 x.1
    | inr x ↦ others r p x.0 x.1
  ]
