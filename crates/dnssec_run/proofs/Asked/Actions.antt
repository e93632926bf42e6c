-- What each column asks for, and what it changes, as finite facts: for `changes` and `retires`.
use Rattle.std.proofs.Common.{◌≡◌, Bool, true, false, ◌||◌, List, None, arith, get_or, subst}
use Rattle.std.proofs.lemmas.Bool.{and_parts}
use Rattle.std.proofs.lemmas.List.Folds.{Any-from_list_any, list_any-from_Any}
use Rattle.std.specs.{List.Contains, List.list_any, Prelude.if◌then◌else◌}
use Rattle.dnssec_key.specs.declared.roll.Half.{Half}
use Rattle.dnssec_key.specs.RollTable.{column, half_of, after_expiry, actions_of, is_second}
use Rattle.dnssec_key.specs.contracts.roll.ActionPartialEq.TheImpl.{eq-value}
use Rattle.dnssec_key.specs.declared.roll.{Action.Action, RollType.RollType}
use Rattle.dnssec_key.specs.{declared.kind.KeyType.KeyType, State.is_stale, State.is_future}
use Rattle.dnssec_key.specs.{Key.all_states, Key.KeyParts, Setters.Setting, Setters.set_by}
use Rattle.dnssec_run.specs.Asked.{kind_shown, update_of, report_of, updates, flag_shown}
use Rattle.dnssec_run.specs.Asked.{sets_flag, sets_shown}
use Rattle.dnssec_run.specs.Safe.{SetKind, retires}
use Rattle.dnssec_run.specs.WholeRolls.{propagation}
use Rattle.dnssec_run.specs.{declared.lists.Shown.Shown, Lists.shows, Recorder.reference_set}
use Rattle.dnssec_zone.proofs.Flags.{started, ended}
use Rattle.dnssec_keyset.specs.Step as keyset

-- ---- an action in a list

-- the one action that passes a test
found : (p : Action → Bool) (x : Action) → ((a : Action) → p a ≡ true → a ≡ x)
    → (list : List Action) → list_any p list ≡ true → Contains list x
found p x one list e = let m = Any-from_list_any p list e in
    (m.0, m.2, subst (λ y. get_or list m.0 y ≡ y) (one m.1 m.4) m.3)

pub asks_update : (kind : SetKind) (list : List Action) → list_any (updates kind) list ≡ true
    → Contains list (update_of kind)
asks_update kind = found (updates kind) (update_of kind) (λ a e. grind arith)

-- the action is the one that asks to report sets of this kind, as code looks for it
abbrev pub asks : SetKind → Action → Bool
asks kind a = eq-value.it a (report_of kind)

pub asks_report : (kind : SetKind) (list : List Action) → list_any (asks kind) list ≡ true
    → Contains list (report_of kind)
asks_report kind = found (asks kind) (report_of kind) (λ a e. grind arith)

pub report_asked : (kind : SetKind) (list : List Action) → Contains list (report_of kind)
    → list_any (asks kind) list ≡ true
report_asked kind list c = list_any-from_Any (asks kind) list
    (c.0, report_of kind, c.1, c.2, grind arith)

-- ---- a report retires what its phase asks to report

pub retires-asked : (r : RollType) (half : Half) (kind : SetKind)
    → list_any (asks kind) (actions_of r (propagation half)) ≡ retires r (is_second half) kind
unfolding column
retires-asked r half kind = grind arith

-- ---- each list

-- what a roll's call changes is what it asks to publish

-- j is in the list if k is, unless this asks to publish sets of its kind
abbrev pub Stays : Shown → List Action → KeyType → KeyType → Type 0
Stays s asked j k = list_any (updates (kind_shown s)) asked ≡ false → shows s j ≡ shows s k

pub roll-asks : (s : Shown) (r : RollType) (o i : Bool) (k : KeyType)
    → Stays s (column r).asks (started r o i k) k × Stays s (column r).asks_early (ended r o i k) k
unfolding column
roll-asks s r o i k = grind (arith, and_parts)

pub wait-asks : (s : Shown) (r : RollType) (half : Half) (k : KeyType)
    → Stays s (actions_of r (after_expiry half)) ((half_of r half).moves k) k
unfolding column
wait-asks s r half k = grind (arith, and_parts)

-- new keys and stale keys are in no list
pub idle-unseen : (s : Shown) (k : KeyType)
    → (all_states is_future k || all_states is_stale k) ≡ true → shows s k ≡ false
idle-unseen s k e = grind arith

-- ---- setters

-- one of a flag that the list doesn't show
pub set-stays : (s : Shown) (x : Setting) → flag_shown x s ≡ false → (b : Bool)
    (k : KeyParts) → shows s (if b then set_by x k else k).keytype ≡ shows s k.keytype
set-stays s x e b k = grind arith

-- a call that sets no flag sets none that is shown
pub no-flag : (s : Shown) (c : keyset.Call) → sets_flag c ≡ false → sets_shown s c ≡ false
no-flag s c calm = grind arith

-- nor does one that sets nothing by hand
pub unset : (s : Shown) (c : keyset.Call) → reference_set c ≡ None → sets_shown s c ≡ false
unset s c none = grind arith
