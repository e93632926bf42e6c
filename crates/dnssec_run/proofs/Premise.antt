-- What a plain list sets by hand and starts, said of the key set at each position, as the proofs
-- use it. On every run it is the same as the definitions, which speak only of calls and replies:
-- the kind of a key never changes. For `chain` and the laws of whole rolls.
use Rattle.std.proofs.Common.{◌≡◌, ℕ, zero, suc, ◌<◌, Bool, true, false, List, Option, None, Some}
use Rattle.std.proofs.Common.{refl, sym, ap, subst, ◌∙◌, arith}
use Rattle.std.specs.Prelude.{if◌then◌else◌, nat_eq, slice_get}
use Rattle.std.specs.{FinMap.get, FinMap.get-empty, Ordering.nat_cmp, Cmp.Lexicographic.slice_cmp}
use Rattle.dnssec_key.specs.Setters.{Setting, Decoupled, Present}
use Rattle.dnssec_key.specs.declared.kind.KeyType.{KeyType, TheVariants.Include}
use Rattle.dnssec_key.specs.declared.roll.RollType.{RollType, TheVariants.AlgorithmRoll}
use Rattle.dnssec_key.specs.declared.roll.Half.TheVariants.{First}
use Rattle.dnssec_key.specs.Key.{KeyParts}
use Rattle.dnssec_keyset.{specs.KeySet.KeySetParts, proofs.Exchange.Kinds.kind_number}
use Rattle.dnssec_run.specs.Record.{IsRun, call_of, is_accepted, reply_of, world_at, world_next}
use Rattle.dnssec_run.proofs.Effects.{accepted_step, looked-up, moved_key, passing-moved, put_at}
use Rattle.dnssec_run.proofs.Effects.{same-number}
use Rattle.dnssec_run.specs.declared.{call.Call.Call, record.Entry.Entry, record.Reply.Reply}
use Rattle.dnssec_run.{specs.Published.World, proofs.Positions.passing}
use Rattle.dnssec_keyset.specs.Step as keyset
use Rattle.dnssec_run.specs.declared.call.Call.TheVariants as call
use Rattle.dnssec_run.specs.declared.record.Reply.TheVariants as reply
use Rattle.dnssec_run.specs.Plain as plain
use Rattle.dnssec_run.specs.WholeRolls as rolls

-- ---- by the key set

-- another signer's key
abbrev pub is_another_signers : KeyType → Bool
is_another_signers (Include s) = true
is_another_signers _ = false

-- it decouples a key, or puts another signer's key into the DNSKEY set or takes it out
abbrev pub is_plain_setting : Setting → Option KeyParts → Bool
is_plain_setting (Decoupled value) key = true
is_plain_setting (Present value now) (Some k) = is_another_signers k.keytype
is_plain_setting _ _ = false

-- with this set before it, the call sets neither a flag nor a time by hand: whether another
-- signer's key is in the DNSKEY set doesn't count
abbrev pub sets_nothing : KeySetParts → keyset.Call → Bool
sets_nothing set (keyset.Set reference setting) = is_plain_setting setting (get set.keys reference)
sets_nothing set _ = true

-- so do all calls
abbrev pub SetsNothing : List ℕ → List Call → List Entry → Type 0
SetsNothing name calls entries = (n : ℕ) (call : Call) → slice_get calls n ≡ Some call →
    sets_nothing (world_at name calls entries n).set (call_of call) ≡ true

-- the roll that a call of the key set starts, if any
abbrev pub start_of : keyset.Call → Option RollType
start_of (keyset.StartRoll roll olds news now) = Some roll
start_of _ = None

-- the roll whose first wait it ends, if any
abbrev pub first_wait_of : keyset.Call → Option RollType
first_wait_of (keyset.Wait roll First now) = Some roll
first_wait_of _ = None

-- the roll that it ends early, if any
abbrev pub early_end_of : keyset.Call → Option RollType
early_end_of (keyset.AbortRoll roll) = Some roll
early_end_of _ = None

-- the roll that it ends, if any
abbrev pub end_of : keyset.Call → Option RollType
end_of (keyset.RollDone roll) = Some roll
end_of (keyset.AbortRoll roll) = Some roll
end_of _ = None

-- the call after position n is accepted, and does this for the roll, as the key set sees it
abbrev pub DoesAt : (keyset.Call → Option RollType) → List Call → List Entry → ℕ → RollType → Type 0
DoesAt does calls entries n roll =
    plain.DoesAt (λ (c : Call). does (call_of c)) calls entries n roll

-- a plain list, said so
pub record IsPlainBySets (name : List ℕ) (calls : List Call) (entries : List Entry) : Type 0 where
  pub setters : SetsNothing name calls entries
  pub first : (n : ℕ) (roll : RollType) → plain.needs_algorithm_roll roll ≡ true
      → DoesAt start_of calls entries n roll
      → (m : ℕ) × (m < n) × DoesAt first_wait_of calls entries m AlgorithmRoll

-- ---- whose key it is, from one call to the next

-- the kind of a key stays
is-number : (k : KeyType) → is_another_signers k ≡ nat_eq (kind_number k) 3
unfolding kind_number
is-number k = grind arith

kind-moved : (set : KeySetParts) (c : keyset.Call) (q : List ℕ) (k : KeyParts)
    → is_another_signers (moved_key set c q k).keytype ≡ is_another_signers k.keytype
kind-moved set c q k =
    is-number _ ∙ ap (λ n. nat_eq n 3) (same-number set c q k) ∙ sym (is-number k.keytype)

-- the key is another signer's
abbrev others_key : Option KeyParts → Bool
others_key = passing is_another_signers

-- what the definitions say of a call
call-others : (c : Call) (q : List ℕ) (o : Option KeyParts)
    → plain.others_after c q (others_key o) ≡ others_key (put_at (call_of c) q o)
call-others c q o = grind arith

others-replied : (old new : KeySetParts) (c : Call) (r : Reply)
    → keyset.Step old (call_of c) (reply_of r) new → (q : List ℕ)
    → (if is_accepted r then plain.others_after c q (others_key (get old.keys q))
    else others_key (get old.keys q)) ≡ others_key (get new.keys q)
others-replied old new c (reply.Refused cause) step q =
    ap (λ (s : KeySetParts). others_key (get s.keys q)) (sym step.1)
others-replied old new c r step q =
    ap (plain.others_after c q) (sym (passing-moved is_another_signers
    (moved_key old (call_of c) q) (get old.keys q) (kind-moved old (call_of c) q)))
    ∙ call-others c q _ ∙ sym (ap others_key (looked-up old new (call_of c)
    (accepted_step old new (call_of c) r refl step).1 q))

-- ---- the same of one call

present-others : (value : Bool) (now : ℕ) (o : Option KeyParts)
    → is_plain_setting (Present value now) o ≡ others_key o
present-others value now o = grind arith

same-setting : (set : KeySetParts) (others : List ℕ → Bool)
    → ((q : List ℕ) → others q ≡ others_key (get set.keys q)) → (c : Call)
    → sets_nothing set (call_of c) ≡ plain.sets_only_others others c
same-setting set others same (call.SetPresent a b c) =
    present-others b c (get set.keys a.now) ∙ sym (same a.now)
same-setting set others same _ = refl

-- what a call does for a roll, by the call and by what the key set sees: the roll that it starts,
-- that whose first wait it ends, that which it ends early, and that which it ends
pub same-rolls : (c : Call) → (plain.start_of c ≡ start_of (call_of c))
    × (plain.first_wait_of c ≡ first_wait_of (call_of c))
    × (plain.early_end_of c ≡ early_end_of (call_of c)) × (rolls.end_of c ≡ end_of (call_of c))
same-rolls (call.AddKeyKsk a b c d e f) = (refl, refl, refl, refl)
same-rolls _ = (refl, refl, refl, refl)

module _ (calls : List Call) (entries : List Entry) (n : ℕ) (roll : RollType) where
  does-too : (f g : Call → Option RollType) → ((c : Call) → f c ≡ g c)
      → plain.DoesAt f calls entries n roll → plain.DoesAt g calls entries n roll
  does-too f g same = subst (λ f. plain.DoesAt f calls entries n roll) (λ i c. same c i)

  pub start-seen : plain.DoesAt plain.start_of calls entries n roll
      → DoesAt start_of calls entries n roll
  start-seen = does-too _ _ (λ c. (same-rolls c).0)

  pub start-made : DoesAt start_of calls entries n roll
      → plain.DoesAt plain.start_of calls entries n roll
  start-made = does-too _ _ (λ c. sym (same-rolls c).0)

  pub first_wait-made : DoesAt first_wait_of calls entries n roll
      → plain.DoesAt plain.first_wait_of calls entries n roll
  first_wait-made = does-too _ _ (λ c. sym (same-rolls c).1)

  pub end-made : DoesAt end_of calls entries n roll → plain.DoesAt rolls.end_of calls entries n roll
  end-made = does-too _ _ (λ c. sym (same-rolls c).3)

-- ---- the same of a run

module _ {name : List ℕ} {calls : List Call} {entries : List Entry}
    (run : IsRun name calls entries) where
  -- a reference names another signer's key if the key set has one there
  pub names-others : (n : ℕ) (q : List ℕ) → plain.names_others calls entries n q
      ≡ others_key (get (world_at name calls entries n).set.keys q)
  unfolding plain.names_others world_at
  names-others zero q = sym (ap others_key (get-empty (slice_cmp nat_cmp) q))
  names-others (suc n) q = at (slice_get calls n) (slice_get entries n) refl refl (names-others n q)
    where
      w : World
      w = world_at name calls entries n

      at : (oc : Option Call) (oe : Option Entry) → slice_get calls n ≡ oc
          → slice_get entries n ≡ oe
          → plain.names_others calls entries n q ≡ others_key (get w.set.keys q)
          → plain.others_next oc oe q (plain.names_others calls entries n q)
          ≡ others_key (get (world_next (suc n) w oc oe).set.keys q)
      at None oe ci ei before = before
      at (Some c) None ci ei before = before
      at (Some c) (Some e) ci ei before =
          rw before (others-replied w.set _ c e.reply
          (rw (ci, ei) at (run.each n c e ci ei).step) q)

  -- whatever a call may set by hand, it may so by either
  pub sets-same : (n : ℕ) (c : Call) → sets_nothing (world_at name calls entries n).set (call_of c)
      ≡ plain.sets_only_others (plain.names_others calls entries n) c
  sets-same n c = same-setting (world_at name calls entries n).set
      (plain.names_others calls entries n) (names-others n) c

  pub sets-nothing : plain.SetsOnlyOthersPresent calls entries → SetsNothing name calls entries
  sets-nothing only n c is = sets-same n c ∙ only n c is

  pub plain-by-sets : plain.IsPlain name calls entries → IsPlainBySets name calls entries
  plain-by-sets p = record {
    setters = sets-nothing p.setters;
    first = λ n roll wants start.
        let a = p.first n roll wants (start-made calls entries n roll start) in
        (a.0, a.1, does-too calls entries a.0 AlgorithmRoll _ _ (λ c. (same-rolls c).1) a.2);
  }
