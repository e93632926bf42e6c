-- A call that sets no flag changes only what it asks to publish: for the clause `changes`. The
-- recorder reads no other sets anew: for `advance`.
use Rattle.std.proofs.Common.{[], ◌≡◌, ℕ, zero, suc, ◌≤◌, inl, inr, true, false, refl, sym, ◌∙◌, ap}
use Rattle.std.proofs.Common.{arith, Bool, List, length, None, Option, Some, ◌||◌}
use Rattle.std.proofs.lemmas.Bool.{cases_Bool, or_left, or_right}
use Rattle.std.proofs.lemmas.Option.{slice_get_within}
use Rattle.std.specs.{Prelude.slice_get, List.list_any, Option.option_map, Option.option_map_or}
use Rattle.std.specs.{FinMap.get}
use Rattle.std.specs.{Str.bytes_eq, Cmp.Lexicographic.bytes_decides}
use Rattle.dnssec_key.specs.{declared.roll.Action.Action, Key.KeyParts, Setters.Setting}
use Rattle.dnssec_key.specs.{Setters.set_by}
use Rattle.dnssec_zone.specs.{Lists.listed_by, Refusals.setting_refusal, Start.is_listed}
use Rattle.dnssec_keyset.{specs.KeySet.KeySetParts, proofs.Accepted.gone_key, proofs.Laws.no_cause}
use Rattle.dnssec_run.specs.Asked.{asked_by, asks_to_publish, flag_shown, kind_shown, updates}
use Rattle.dnssec_run.specs.Asked.{sets_shown, SamePublished, ChangesAsAsked}
use Rattle.dnssec_run.specs.Published.{IsPublished, World, keys_where}
use Rattle.dnssec_run.specs.Record.{IsRun, added_by, call_of, reply_of, is_accepted, world_at}
use Rattle.dnssec_run.specs.Safe.{SetKind, Ds, Dnskey, ZoneSigners, position_at}
use Rattle.dnssec_run.specs.Safe.{position_of, blank}
use Rattle.dnssec_run.proofs.Asked.Actions.{asks_update, idle-unseen, no-flag, roll-asks}
use Rattle.dnssec_run.proofs.Asked.Actions.{set-stays, unset, wait-asks}
use Rattle.dnssec_run.proofs.Effects.{accepted_step, added-free, added-same, end-kind, looked-up}
use Rattle.dnssec_run.proofs.Effects.{moved_key, passing-moved, put_at, refused_step, start-kind}
use Rattle.dnssec_run.proofs.Positions.{passing, same-shown, shown-none}
use Rattle.dnssec_run.specs.declared.{call.Call.Call, record.Entry.Entry, record.Reply.Reply}
use Rattle.dnssec_run.specs.{ByList.ByList, declared.lists.Shown.Shown}
use Rattle.dnssec_run.specs.Recorder.{Leaves, SaysShown, reference_set, shown_after, shown_by}
use Rattle.dnssec_run.specs.{Changes.list_at, Lists.any_list, Lists.at_list, Lists.shows}
use Rattle.dnssec_run.proofs.Chain.Trust.{adds_blank}
use Rattle.dnssec_run.proofs.{Chain.Trust.plainly, Laws.made-at, WholeRolls.Replies.added-next}
use Rattle.dnssec_zone.specs.Wait as waits
use Rattle.dnssec_keyset.specs.Step as keyset
use Rattle.dnssec_run.specs.declared.lists.Shown.TheVariants as lists

-- what a reply of the key set asks
abbrev pub due : keyset.Reply → List Action
due keyset.Done = []
due (keyset.Actions actions) = actions
due (keyset.Refused cause) = []

pub due_by : (r : Reply) → asked_by r ≡ due (reply_of r)
due_by r = grind arith

-- after a call that sets nothing by hand only what its reply asks to publish is touched
pub touches-asked : (c : keyset.Call) (r : Reply) (hand t : ByList) → reference_set c ≡ None
    → ((s : Shown) → at_list hand s ≡ sets_shown s c) → ((s : Shown)
    → at_list t s ≡ (at_list hand s || list_any (updates (kind_shown s)) (asked_by r)))
    → any_list t ≡ asks_to_publish r
touches-asked c r hand t none shown asked = by t (is lists.Ds) (is lists.Dnskey)
    (is lists.DnskeySigners) (is lists.ZoneSigners)
  where
    is : (s : Shown) → at_list t s ≡ list_any (updates (kind_shown s)) (asked_by r)
    is s = asked s ∙ ap (λ b. b || list_any (updates (kind_shown s)) (asked_by r))
        (shown s ∙ unset s c none)

    by : {a b d : Bool} (t : ByList) → t.ds ≡ a → t.dnskey ≡ b → t.dnskey_signers ≡ b
        → t.zone_signers ≡ d → (t.ds || t.dnskey || t.dnskey_signers || t.zone_signers)
        ≡ (a || b || d)
    by t ds dnskey signers zone = grind arith

-- ---- one call

module _ (s : Shown) (old : KeySetParts) where
  -- a key that stays is in the same sets, unless its call sets a flag or asks to publish them
  same-moved : (c : keyset.Call) → sets_shown s c ≡ false
      → list_any (updates (kind_shown s)) (due (keyset.accepted_reply c)) ≡ false → (q : List ℕ)
      (k : KeyParts) → shows s (moved_key old c q k).keytype ≡ shows s k.keytype
  same-moved (keyset.Set r x) calm none q k = set-stays s x calm (bytes_eq r q) k
  same-moved (keyset.StartRoll r olds news now) calm none q k =
      ap (shows s) (start-kind r now _ _ k)
      ∙ (roll-asks s r (is_listed olds q) (is_listed news q) k.keytype).0 none
  same-moved (keyset.Wait r half now) calm none q k = wait-asks s r half k.keytype none
  same-moved (keyset.AbortRoll r) calm none q k =
      let l = listed_by old.lists r in ap (shows s) (end-kind r _ _ k)
      ∙ (roll-asks s r (is_listed l.olds q) (is_listed l.news q) k.keytype).1 none
  same-moved _ calm none q k = refl

  -- what is added and what is deleted is in no set
  same-put : (c : keyset.Call) → adds_blank c ≡ true → keyset.clearance old c ≡ waits.Clear
      → (q : List ℕ) (o : Option KeyParts)
      → passing (shows s) o ≡ passing (shows s) (get old.keys q)
      → passing (shows s) (put_at c q o) ≡ passing (shows s) (get old.keys q)
  same-put (keyset.AddKey r k) fresh v q o same = elim (cases_Bool (bytes_eq r q)) [
    | inl t ↦ rw t (idle-unseen s k.keytype (or_left _ _ fresh)
        ∙ ap (passing (shows s)) (sym (added-free old r k v q t)))
    | inr t ↦ rw t same
  ]
  same-put (keyset.DeleteKey r) fresh v q o same = elim (cases_Bool (bytes_eq r q)) [
    | inl t ↦
        let g = gone_key (get old.keys r) (no_cause _ v) in
        rw t (sym (ap (passing (shows s)) (ap (get old.keys) (sym ((bytes_decides r q).0 t)) ∙ g.1)
        ∙ idle-unseen s g.0.keytype (or_right _ _ g.2)))
    | inr t ↦ rw t same
  ]
  same-put _ fresh v q o same = same

-- ---- what is there after a call at position n

module _ (n : ℕ) (w v : World) (c : Call) (r : Reply)
    (step : keyset.Step w.set (call_of c) (reply_of r) v.set)
    (added : v.added ≡ added_by n c r w.added) where
  -- the call was refused, or it set no flag that the list shows and didn't ask to publish it
  abbrev Passes : Shown → Type 0
  Passes s = is_accepted r ≡ true → (sets_shown s (call_of c) ≡ false)
      × (list_any (updates (kind_shown s)) (asked_by r) ≡ false)

  -- then each look-up passes if it did before
  keys : (s : Shown) → Passes s → (q : List ℕ)
      → passing (shows s) (get v.set.keys q) ≡ passing (shows s) (get w.set.keys q)
  keys s calm q = elim (cases_Bool (is_accepted r)) [
    | inl t ↦ let ok = accepted_step w.set v.set (call_of c) r t step in
        ap (passing (shows s)) (looked-up w.set v.set (call_of c) ok.1 q)
        ∙ same-put s w.set (call_of c) (plainly c).blank ok.0 q _
        (passing-moved (shows s) (moved_key w.set (call_of c) q) (get w.set.keys q)
        (same-moved s w.set (call_of c) (calm t).0 (rw (← ok.2, ← due_by r) (calm t).1) q))
    | inr t ↦ rw (refused_step w.set v.set (call_of c) r t step) refl
  ]

  -- and a key that was there is the same
  pub places : (q : List ℕ) (k : KeyParts) → get w.set.keys q ≡ Some k → v.added q ≡ w.added q
  places q k there = ap (λ f. f q) added ∙ added-same n c r w.added w.set
      (λ t. (accepted_step w.set v.set (call_of c) r t step).0) q k there

  same-list : (s : Shown) → Passes s → keys_where (shows s) v ≡ keys_where (shows s) w
  same-list s calm = same-shown (shows s) w v (keys s calm) places

  -- so a list that isn't touched is the same
  pub leaves : (touched : ByList) → ((s : Shown) → at_list touched s ≡ false → Passes s)
      → Leaves touched w v
  leaves touched calm list none = keys list (calm list none)

-- ---- a setter

-- what it says of the lists that show its flag holds of the key that was there
set-shows : (x : Setting) (list : Shown) (o : Option KeyParts) (b : Bool)
    → setting_refusal x o ≡ None → flag_shown x list ≡ true → shown_after x ≡ Some b
    → passing (shows list) (option_map (set_by x) o) ≡ b
set-shows x list o b free shown says = grind arith

only-shown : (b : Bool) (p : Action → Bool) (asked : List Action) → asked ≡ []
    → (b || list_any p asked) ≡ true → b ≡ true
only-shown b p asked none e = grind arith

-- it says so of the key afterwards
pub says-shown : (old new : KeySetParts) (c : keyset.Call) (r : Reply) (touched : ByList)
    → is_accepted r ≡ true → keyset.Step old c (reply_of r) new → ((list : Shown)
    → at_list touched list
    ≡ (sets_shown list c || list_any (updates (kind_shown list)) (asked_by r)))
    → SaysShown (shown_by c) touched (reference_set c) new
says-shown old new (keyset.Set q x) r touched ok step at = λ b says list t.
    let then = accepted_step old new (keyset.Set q x) r ok step in
    let idle : asked_by r ≡ [] = due_by r ∙ ap due then.2 in
    ap (passing (shows list)) (then.1.keys q ∙ rw ((bytes_decides q q).1 refl) refl)
    ∙ set-shows x list (get old.keys q) b (no_cause _ then.0)
    (only-shown _ (updates (kind_shown list)) _ idle (sym (at list) ∙ t)) says
says-shown old new _ r touched ok step at = tt

-- ---- the lists of a position

pub blank-list : (s : Shown) → list_at s blank ≡ []
blank-list s = grind arith

pub entry-list : (s : Shown) (e : Entry) (w : World) → IsPublished e.published w
    → list_at s (position_of e) ≡ keys_where (shows s) w
entry-list s e w p = grind arith

-- ---- the run

module _ {name : List ℕ} {calls : List Call} {entries : List Entry}
    (run : IsRun name calls entries) where
  abbrev pub at : ℕ → World
  at n = world_at name calls entries n

  -- each list of a position has the keys that its set shows
  pub list-is : (s : Shown) (n : ℕ) → n ≤ length entries
      → list_at s (position_at entries n) ≡ keys_where (shows s) (at n)
  unfolding position_at world_at
  list-is s zero le = blank-list s ∙ sym (shown-none (shows s) name)
  list-is s (suc n) le = let x = made-at run n le in
      ap (λ o. list_at s (option_map_or position_of o blank)) x.3
      ∙ entry-list s x.1 (at (suc n)) (run.each n x.0 x.1 x.2 x.3).published

  -- a call that sets no flag changes what it asks to publish
  pub changes-as-asked : ChangesAsAsked calls entries
  changes-as-asked n c ci calm kind =
      elim (cases_Bool (list_any (updates kind) (asked_by x.1.reply))) [
        | inl t ↦ inl (rw x.3 (asks_update kind (asked_by x.1.reply) t))
        | inr t ↦ inr (by kind t)
      ]
    where
      le : suc n ≤ length entries
      le = omega (arith, slice_get_within calls n c ci, run.count)

      x : (c : Call) × (e : Entry) × (slice_get calls n ≡ Some c) × (slice_get entries n ≡ Some e)
      x = made-at run n le

      same : (s : Shown) → list_any (updates (kind_shown s)) (asked_by x.1.reply) ≡ false
          → list_at s (position_at entries (suc n)) ≡ list_at s (position_at entries n)
      same s none = list-is s (suc n) le
          ∙ same-list (suc n) (at n) (at (suc n)) c x.1.reply (run.each n c x.1 ci x.3).step
          (added-next run n c x.1 ci x.3) s (λ t. (no-flag s (call_of c) calm, none))
          ∙ sym (list-is s n (omega (arith, le)))

      by : (kind : SetKind) → list_any (updates kind) (asked_by x.1.reply) ≡ false
          → SamePublished kind (position_at entries n) (position_at entries (suc n))
      by Ds none = same lists.Ds none
      by Dnskey none = (same lists.Dnskey none, same lists.DnskeySigners none)
      by ZoneSigners none = same lists.ZoneSigners none
