-- What an early end undoes, in every run, whatever is set by hand. A roll that was ended early
-- leaves no flag changed, except those of keys whose flags were set by hand since it started.
use Rattle.std.specs.Prelude.{◌≡◌, ℕ, suc, ◌<◌, Bool, true, false, ◌&&◌, ◌||◌, List, None, Some}
use Rattle.std.specs.FinMap.{get}
use Rattle.std.specs.Str.{bytes_eq}
use Rattle.dnssec_key.specs.declared.roll.RollType.{RollType}
use Rattle.dnssec_key.specs.Key.{KeyParts}
use Rattle.dnssec_key.specs.Setters.{is_flag_setting}
use Rattle.dnssec_zone.specs.Rolls.{with_phase}
use Rattle.dnssec_zone.specs.Start.{is_listed}
use Rattle.dnssec_keyset.specs.Step as keyset
use Rattle.dnssec_run.specs.declared.call.Call.{Call}
use Rattle.dnssec_run.specs.declared.record.Entry.{Entry}
use Rattle.dnssec_run.specs.Plain.{DoesAt, start_of}
use Rattle.dnssec_run.specs.Published.{World}
use Rattle.dnssec_run.specs.Record.{world_at}
use Rattle.dnssec_run.specs.WholeRolls.{IsAccepted}

-- a call that sets a flag of this key by hand, or deletes it
abbrev pub touches : keyset.Call → List ℕ → Bool
touches (keyset.Set reference setting) q = is_flag_setting setting && bytes_eq reference q
touches (keyset.DeleteKey reference) q = bytes_eq reference q
touches _ q = false

-- no such call is accepted between the two positions
abbrev pub IsUntouched : List Call → List Entry → ℕ → ℕ → List ℕ → Type 0
IsUntouched calls entries s n q = (m : ℕ) (call : keyset.Call) → s < m → m < n →
    touches call q ≡ true → IsAccepted calls entries m call → ⊥

-- w and v have a key at the reference, with the same flags in each role
abbrev pub HasSameFlags : World → World → List ℕ → Type 0
HasSameFlags w v q = (k j : KeyParts) × (get w.set.keys q ≡ Some k) ×
    (get v.set.keys q ≡ Some j) × (j.keytype ≡ k.keytype)

-- An early end undoes a start: w is there before the start, u before the early end, and v after it.
-- `Own` says which keys the start listed and no such call has touched since.
pub record Undoes (roll : RollType) (Own : List ℕ → Type 0) (w u v : World) : Type 0 where
  -- these have the flags that they had before the start
  pub flags : (q : List ℕ) → Own q → HasSameFlags w v q
  -- the early end changes no other key
  pub others : (q : List ℕ) → (Own q → ⊥) → get v.set.keys q ≡ get u.set.keys q
  -- and of each key only its flags, so no stamp
  pub alone : (q : List ℕ) (k j : KeyParts) → get u.set.keys q ≡ Some k →
      get v.set.keys q ≡ Some j → j ≡ record k { keytype = j.keytype }
  -- the roll is no longer in progress, and each other roll is in the phase that it was in
  pub rolls : v.set.rolls ≡ with_phase u.set.rolls roll None

-- An early end gives each key that the roll's last start listed the flags that it had before that
-- start, whatever calls came between. A key is left out if a call in between set a flag of it by
-- hand or deleted it. The early end changes nothing else.
abbrev pub UndoesStarts : List ℕ → List Call → List Entry → Type 0
UndoesStarts name calls entries =
    (s n : ℕ) (roll : RollType) (olds news : List (List ℕ)) (now : ℕ) → s < n →
    IsAccepted calls entries s (keyset.StartRoll roll olds news now) →
    IsAccepted calls entries n (keyset.AbortRoll roll) →
    ((m : ℕ) → s < m → m < n → DoesAt start_of calls entries m roll → ⊥) →
    Undoes roll
    (λ q. ((is_listed olds q || is_listed news q) ≡ true) × IsUntouched calls entries s n q)
    (world_at name calls entries s) (world_at name calls entries n)
    (world_at name calls entries (suc n))
