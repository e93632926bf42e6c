-- Calls that set nothing leave the keys of a set in order: for all laws of whole rolls. So no wait
-- misses a stamp, and roles settle between the rolls: for `stamps` and `settled`.
use Rattle.std.proofs.Common.{◌≡◌, ℕ, inl, inr, Bool, true, false, not, ◌&&◌, refl, sym, ◌∙◌, ap}
use Rattle.std.proofs.Common.{List, Option, None, Some, subst, suc, arith, ◌||◌}
use Rattle.std.proofs.lemmas.Bool.{cases_Bool, and_from, and_parts, false_from_ne_true, true≢false}
use Rattle.std.proofs.lemmas.Option.{same_Some, none-some}
use Rattle.std.specs.{Prelude.is_some, Prelude.is_none, Option.option_map, Str.bytes_eq}
use Rattle.std.specs.{Cmp.Lexicographic.bytes_decides, Cmp.Lexicographic.slice_cmp, FinMap.get}
use Rattle.std.specs.{FinMap.get-empty, Ordering.nat_cmp}
use Rattle.dnssec_base.specs.declared.error.Error.TheVariants.{WrongKeyState}
use Rattle.dnssec_key.specs.declared.roll.RollState.TheVariants.{Propagation1, Done, CacheExpire1}
use Rattle.dnssec_key.specs.declared.roll.RollState.TheVariants.{CacheExpire2}
use Rattle.dnssec_key.specs.declared.roll.Half.{Half}
use Rattle.dnssec_key.specs.declared.roll.Half.TheVariants.{First, Second}
use Rattle.dnssec_key.specs.RollTable.{cache_expire, after_report, after_start}
use Rattle.dnssec_key.specs.RollTable.{after_expiry, half_of}
use Rattle.dnssec_key.specs.declared.{kind.KeyType.KeyType, roll.RollType.RollType}
use Rattle.dnssec_key.specs.{declared.roll.RollState.RollState, Key.KeyParts, Key.all_states}
use Rattle.dnssec_key.specs.{State.is_kept, Setters.Decoupled, Setters.Present}
use Rattle.dnssec_zone.specs.Start.{is_listed, lists_kind, side_of}
use Rattle.dnssec_zone.specs.Wait.{ttl_in, lacks_stamp, longest_left, stamp_read}
use Rattle.dnssec_zone.specs.{Keys.some_key, Lists.listed_by, Lists.has_kept_key, Rolls.phase_of}
use Rattle.dnssec_zone.proofs.Flags.{SideOf, affects, is_idle, has_role, Keys, Zone, stale-idle}
use Rattle.dnssec_zone.proofs.Flags.{started as started_kind}
use Rattle.dnssec_zone.proofs.{Longest.left-unbarred, Quantified.some_key-found}
use Rattle.dnssec_zone.proofs.Tests.{some_or_none}
use Rattle.dnssec_keyset.specs.KeySet.{KeySetParts, new_set}
use Rattle.dnssec_keyset.specs.Laws.{LeavesOthers, RollsTogether, roll_of}
use Rattle.dnssec_keyset.proofs.Accepted.{ends_early, finishes, no_some}
use Rattle.dnssec_keyset.proofs.Laws.{no_cause, same-is, step-keeps, together-new, together-step}
use Rattle.dnssec_keyset.proofs.{Changes.Changes, Exchange.Kinds.kind_number, Sides.leaves-others}
use Rattle.dnssec_run.specs.declared.{call.Call.Call, record.Entry.Entry}
use Rattle.dnssec_run.specs.Record.{IsRun, call_of, reply_of, world_at}
use Rattle.dnssec_run.specs.WholeRolls.{propagation, NeverMissesStamp, SettlesBetweenRolls}
use Rattle.dnssec_run.proofs.Effects.{adds-none, came, is_on, moved_key, phase_put, phases}
use Rattle.dnssec_run.proofs.Effects.{same-number}
use Rattle.dnssec_run.proofs.Laws.{kept-by}
use Rattle.dnssec_run.proofs.Premise.{sets_nothing, SetsNothing, sets-nothing}
use Rattle.dnssec_run.proofs.Chain.Allowed.{can_start, waits_in_phase, spreads}
use Rattle.dnssec_run.proofs.Chain.KeyCalls.{Alike as AlikeKeys, map_alike, put_alike}
use Rattle.dnssec_run.proofs.Chain.Same.{AlikeBut, SameStamps, alike-map, failed-out, idle-out}
use Rattle.dnssec_run.proofs.Chain.Same.{map_but, was_there}
use Rattle.dnssec_run.proofs.Chain.Tables.{reads-stamp, checked, Stamp, written}
use Rattle.dnssec_run.proofs.Chain.Tale.{early-end-parts, stamp_of, CanStart, seen, start-parts}
use Rattle.dnssec_run.proofs.Chain.{Facts.apart, Facts.sees, Gentles.distinct, Kinds.same_role}
use Rattle.dnssec_run.proofs.Chain.{Lists.listed-reported, Lists.is_listed-filter, OneKey.may_there}
use Rattle.dnssec_run.proofs.Chain.{Rolls.clash, Rolls.same-same, Setters.harmless}
use Rattle.dnssec_run.proofs.Chain.{Setters.others-role, Phases.start_stamps, Phases.wait_stamps}
use Rattle.dnssec_run.proofs.WholeRolls.Keys.{Expiring, Idle, Spreading, at_phase, dates}
use Rattle.dnssec_run.proofs.WholeRolls.Keys.{ends-expired, expiring-at, half_orderly, here_fits}
use Rattle.dnssec_run.proofs.WholeRolls.Keys.{none_fits, orderly, own_at, settled_by, sound}
use Rattle.dnssec_run.proofs.WholeRolls.Keys.{spreading-at, stamp_there, stands, start_sound}
use Rattle.dnssec_run.proofs.WholeRolls.Keys.{unseen_sound}
use Rattle.dnssec_run.proofs.WholeRolls.OrderedKeys.{Alike, Order, alike_without, in-order-at}
use Rattle.dnssec_run.proofs.WholeRolls.OrderedKeys.{in-order-idle, keeps_order, listing, order-at}
use Rattle.dnssec_run.proofs.WholeRolls.OrderedKeys.{order-kept, stamp_reported}
use Rattle.dnssec_run.proofs.WholeRolls.Replies.{runs-beside, step-made, world_of}
use Rattle.dnssec_zone.specs.Wait as waits
use Rattle.dnssec_keyset.specs.Step as keyset

-- a key that is the same, except in what no wait reads, or in no use, is so for keys that pass
pub besides : (p : KeyType → Bool) (o u : Option KeyParts) → AlikeKeys o u
    → AlikeBut SameStamps (λ k. not (p k && not (is_idle k))) o u
besides p = alike-map SameStamps SameStamps (λ k j s. s) is_idle
    (λ k. not (p k && not (is_idle k))) (λ k. idle-out (p k) k)

abbrev pub is_calm : KeySetParts → keyset.Call → Bool
is_calm set (keyset.AddKey r k) = is_idle k.keytype
is_calm set call = sets_nothing set call

-- ---- one call

-- what a call that sets nothing leaves of the keys that pass, if it is on no roll that lists them
module _ (old new : KeySetParts) (p : KeyType → Bool)
    (kinds : (j k : KeyType) → kind_number j ≡ kind_number k → p j ≡ p k) where
  -- each is the same, except in what no wait reads, or in no use, or of another kind
  abbrev Same : Option KeyParts → Option KeyParts → Type 0
  Same = AlikeBut SameStamps (λ k. not (p k && not (is_idle k)))

  kept : (q : List ℕ) (u : Option KeyParts) → get new.keys q ≡ u → AlikeKeys (get old.keys q) u
      → Same (get old.keys q) (get new.keys q)
  kept q u is same = besides p (get old.keys q) (get new.keys q)
      (subst (AlikeKeys (get old.keys q)) (sym is) same)

  pub alike-call : (c : keyset.Call) → is_calm old c ≡ true → keyset.clearance old c ≡ waits.Clear
      → Changes old c new → LeavesOthers old c new → ((r : RollType) → roll_of c ≡ Some r
      → (k : KeyType) → p k ≡ true → lists_kind (side_of r) k ≡ false)
      → (q : List ℕ) → Same (get old.keys q) (get new.keys q)
  alike-call (keyset.AddKey x k) plain v m leaves aside q = kept q _ (m.keys q)
      (put_alike (bytes_eq x q) (get old.keys q) (Some k)
      (λ t. (grind (arith, bytes_decides x q, v, t), plain)))
  alike-call (keyset.Set x s) plain v m leaves aside q = kept q _ (m.keys q)
      (map_alike (moved_key old (keyset.Set x s) q) (get old.keys q) (harmless old x s plain q))
  alike-call (keyset.DeleteKey x) plain v m leaves aside q = kept q _ (m.keys q)
      (put_alike (bytes_eq x q) (get old.keys q) None
      (λ t. (grind (arith, bytes_decides x q, v, t, stale-idle), refl)))
  alike-call c plain v m leaves aside q = subst (Same (get old.keys q)) (sym (m.keys q))
      (map_but SameStamps p (λ k. not (p k && not (is_idle k))) (failed-out p) (moved_key old c q)
      (get old.keys q) (λ k e. (
        kinds _ k.keytype (same-number old c q k),
        λ own. let same : k ≡ moved_key old c q k = same_Some _ _
            (sym (leaves _ q k refl e (aside _ refl k.keytype own)) ∙ m.keys q
            ∙ ap (option_map (moved_key old c q)) e) in
            (ap (λ (k : KeyParts). k.keytype) same, λ s. ap (stamp_of s) same),
      )))

module _ (old new : KeySetParts) (all : RollsTogether old.rolls) (h : (s : SideOf) → Order s old)
    (sd : SideOf) where
  -- what is kept of the starts of the side's rolls, by a call that is on none
  lists : (c : keyset.Call) → is_calm old c ≡ true → Changes old c new
      → ((x : RollType) → affects sd x ≡ true → is_on c x ≡ false) → (q : List ℕ) (k j : KeyParts)
      → get old.keys q ≡ Some k → get new.keys q ≡ Some j → has_role sd k.keytype ≡ true
      → Alike sd q old.lists new.lists
  lists (keyset.Set r (Decoupled value)) plain m aside q k j was at role x e =
      ap (λ l. listing (l x) q) m.lists
  lists (keyset.Set r (Present value now)) plain m aside q k j was at role x e =
      ap (λ l. listing (l x) q) m.lists ∙ alike_without sd q r old.lists
      (grind (arith, bytes_decides r q, plain, was, role, others-role)) x e
  lists (keyset.Set r _) plain m aside q k j was at role x e = absurd (true≢false (sym plain))
  lists (keyset.DeleteKey r) plain m aside q k j was at role x e =
      ap (λ l. listing (l x) q) m.lists
      ∙ alike_without sd q r old.lists (grind (arith, m.keys q, at)) x e
  lists (keyset.StartRoll r olds news now) plain m aside q k j was at role x e =
      rw (m.lists, aside x e) refl
  lists (keyset.Report r half ttl now) plain m aside q k j was at role x e =
      rw (m.lists, listed-reported half old.lists r x (aside x e)) refl
  lists (keyset.AbortRoll r) plain m aside q k j was at role x e = rw (m.lists, aside x e) refl
  lists _ plain m aside q k j was at role x e = ap (λ l. listing (l x) q) m.lists

  -- such a call leaves the side in its phase
  still : (c : keyset.Call) → is_calm old c ≡ true → keyset.clearance old c ≡ waits.Clear
      → Changes old c new → LeavesOthers old c new
      → ((r : RollType) → roll_of c ≡ Some r → affects sd r ≡ false) → Order sd new
  still c plain v m leaves out = record {
    ph = (h sd).ph;
    own = (h sd).own;
    rolls = λ q e. rw (phases old new c m q, aside q e) ((h sd).rolls q e);
    keys = λ q j at. elim (cases_Bool (sees sd j.keytype)) [
      | inl t ↦
          let k = was_there SameStamps (λ k. not (sees sd k)) (get old.keys q) (get new.keys q)
          (alike-call old new (has_role sd) (same_role sd) c plain v m leaves
          (λ r on k role. apart sd r k (out r on) role) q) j at (ap not t) in
          order-kept sd (h sd).ph q old.lists new.lists k.0 j (h sd).own
          (lists c plain m aside q k.0 j k.1 at (ap (has_role sd) k.2.0 ∙ (and_parts _ _ t).0)) k.2
          ∙ (h sd).keys q k.0 k.1
      | inr f ↦ unseen_sound sd (h sd).ph _ j.keytype (dates j) f
    ];
  }
    where
      aside : (q : RollType) → affects sd q ≡ true → is_on c q ≡ false
      aside q e = grind (arith, out, distinct)

  -- a call on a roll: of the other side, or of this one, by what it makes of each key
  on_roll : (c : keyset.Call) (r : RollType) → roll_of c ≡ Some r → is_calm old c ≡ true
      → keyset.clearance old c ≡ waits.Clear → Changes old c new → LeavesOthers old c new
      → (affects sd r ≡ true → (q : List ℕ) (k : KeyParts) → get old.keys q ≡ Some k
      → keeps_order sd (stands r (phase_put c)) new.lists q (moved_key old c q k) ≡ true)
      → Order sd new
  on_roll c r on plain v m leaves step = elim (cases_Bool (affects sd r)) [
    | inl own ↦ record {
      ph = stands r (phase_put c);
      own = own_at sd r (phase_put c) own;
      rolls = λ q e.
          let none = alone own q e in
          let put = phases old new c m q in
          let there = none_fits r (phase_put c) q in
          grind (arith, same-is, none, put, there, here_fits r (phase_put c), on);
      keys = λ q j e. elim (came old new c m q j e) [
        | inl a ↦ absurd (adds-none c r j on a.1)
        | inr b ↦ subst (λ j. keeps_order sd (stands r (phase_put c)) new.lists q j ≡ true) b.2
            (step own q b.0 b.1)
      ];
    }
    | inr out ↦ still c plain v m leaves
        (λ x there. ap (affects sd) (same_Some x r (sym there ∙ on)) ∙ out)
  ]
    where
      -- two rolls of a side are never in progress together
      alone : affects sd r ≡ true → (q : RollType) → affects sd q ≡ true → is_on c q ≡ false
          → phase_of old.rolls q ≡ None
      alone own q e aside = some_or_none (λ o. o ≡ None) (phase_of old.rolls q) (λ none. refl)
          (λ y there. absurd (true≢false
          (sym (runs-beside old q y there all c v aside r on) ∙ clash sd r q own e)))

  -- a start
  started : (r : RollType) (olds news : List (List ℕ)) (now : ℕ)
      → CanStart r (seen (world_of old)) olds news
      → Changes old (keyset.StartRoll r olds news now) new → affects sd r ≡ true
      → (q : List ℕ) (k : KeyParts) → get old.keys q ≡ Some k
      → keeps_order sd (Spreading First r) new.lists q
      (after_start r now (is_listed olds q) (is_listed news q) k) ≡ true
  started r olds news now can m own q k at =
      let o = is_listed olds q in
      let i = is_listed news q in
      let kept = o && all_states is_kept k.keytype in
      let listed : listing (listed_by new.lists r) q ≡ (kept, i) =
      rw (m.lists, same-same r, is_listed-filter (has_kept_key old.keys) olds q, at) refl in
      (λ z. sound sd (Spreading First r) (listed z) (start-parts r now o i k z).keytype
      (dates (start-parts r now o i k z)))
      ∙ ap (sound sd (Spreading First r) (kept, i) (started_kind r o i k.keytype))
      (λ z s. is_some (sym (start_stamps r now o i k s) z))
      ∙ start_sound sd r o i k.keytype (dates k) own (may_there r _ olds news can q k at)
      (λ s mine. in-order-idle s old (h s) q k at (λ x e. can.alone x (clash s r x mine e)))

  changed : (c : keyset.Call) → is_calm old c ≡ true → LeavesOthers old c new
      → keyset.clearance old c ≡ waits.Clear → Changes old c new → Order sd new
  changed (keyset.StartRoll r olds news now) plain leaves v m =
      on_roll (keyset.StartRoll r olds news now) r refl plain v m leaves
      (started r olds news now (can_start (world_of old) r olds news (no_cause _ v)) m)
  changed (keyset.Report r half ttl now) plain leaves v m =
      let stamps : (k : KeyParts) (s : Stamp) → dates (after_report r half now k) s
      ≡ (written s r half k.keytype || dates k s) =
      λ k s. grind (arith, stamp_reported r half now k s) in
      on_roll (keyset.Report r half ttl now) r refl plain v m leaves (λ own q k at.
      subst (λ ph. keeps_order sd ph new.lists q (after_report r half now k) ≡ true)
      (sym (expiring-at r half ttl)) (and_from _ _
      (ap (orderly sd (Expiring half r) k.keytype) (λ i s. stamps k s i)
      ∙ (half_orderly sd r half k.keytype (dates k) own).0 (in-order-at sd old (h sd) q k at r
      (propagation half) (Spreading half r) (spreading-at r half) own
      (spreads half _ (no_cause _ v)))) refl))
  changed (keyset.Wait r half now) plain leaves v m =
      let w = waits_in_phase r half now (world_of old) v in
      on_roll (keyset.Wait r half now) r refl plain v m leaves (λ own q k at. and_from _ _
      (ap (orderly sd (at_phase r (after_expiry half)) ((half_of r half).moves k.keytype))
      (λ i s. is_some (sym (wait_stamps r half now k s) i))
      ∙ (half_orderly sd r half k.keytype (dates k) own).1 (in-order-at sd old (h sd) q k at r
      (cache_expire half w.0) (Expiring half r) (expiring-at r half w.0) own w.1))
      (ends-expired sd r half _ _ _))
  changed (keyset.AbortRoll r) plain leaves v m =
      let l = listed_by old.lists r in
      on_roll (keyset.AbortRoll r) r refl plain v m leaves (λ own q k at.
      subst (λ j. keeps_order sd Idle new.lists q j ≡ true)
      (sym (early-end-parts r (is_listed l.olds q) (is_listed l.news q) k))
      (and_from _ _ (and_parts _ _ (order-at sd old (h sd) q k at r Propagation1
      (Spreading First r) refl own (ends_early _ (no_cause _ v)))).1 refl))
  changed (keyset.RollDone r) plain leaves v m =
      on_roll (keyset.RollDone r) r refl plain v m leaves (λ own q k at.
      order-at sd old (h sd) q k at r Done Idle refl own (finishes _ (no_cause _ v)))
  changed c plain leaves v m = still c plain v m leaves (λ r on. absurd (none-some r on))

  pub order-step : (c : keyset.Call) (reply : keyset.Reply) → is_calm old c ≡ true
      → keyset.Step old c reply new → Order sd new
  order-step c reply plain step = step-keeps (Order sd) old new c reply (h sd)
      (changed c plain (leaves-others old new c reply step)) step

pub order-new : (sd : SideOf) (name : List ℕ) → Order sd (new_set name)
order-new sd name = record {
  ph = Idle;
  own = refl;
  rolls = λ q e. refl;
  keys = λ q k e. absurd (none-some k (sym (get-empty (slice_cmp nat_cmp) q) ∙ e));
}

-- ---- at each position

-- a call of a plain list sets nothing, and a key that it adds is in no use
pub nothing_set : (set : KeySetParts) (c : Call) → sets_nothing set (call_of c) ≡ true
    → is_calm set (call_of c) ≡ true
nothing_set set c p = grind arith

module _ {name : List ℕ} {calls : List Call} {entries : List Entry} (run : IsRun name calls entries)
    (plain : SetsNothing name calls entries) where
  pub in-order : (n : ℕ) (sd : SideOf) → Order sd (world_at name calls entries n).set
  in-order n = (kept-by name calls entries
      (λ set. RollsTogether set.rolls × ((sd : SideOf) → Order sd set))
      (together-new name, λ sd. order-new sd name)
      (λ n c e ci ei before. let step = (run.each n c e ci ei).step in (
        together-step _ _ (call_of c) (reply_of e.reply) before.0 step,
        λ sd. order-step _ _ before.0 before.1 sd (call_of c) (reply_of e.reply)
            (nothing_set (world_at name calls entries n).set c (plain n c ci)) step,
      )) n).1

-- ---- between the rolls

pub settles-between : {name : List ℕ} {calls : List Call} {entries : List Entry}
    → IsRun name calls entries → SettlesBetweenRolls name calls entries
settles-between {name} {calls} {entries} run only n le none q k at =
    let set = (world_at name calls entries n).set in
    let idle = λ (sd : SideOf). in-order-idle sd set (in-order run (sets-nothing run only) n sd) q k
    at (λ r e. no_some (phase_of set.rolls r) (none r)) in
    settled_by k.keytype (dates k) (idle Keys) (idle Zone)

-- ---- waits

ttl_of : (h : Half) (ttl : ℕ) → ttl_in h (Some (cache_expire h ttl)) ≡ Some ttl
ttl_of h ttl = grind arith

-- no key that a wait checks lacks its stamp, so it is over once enough time has passed
pub by-time : (set : KeySetParts) → ((s : SideOf) → Order s set) → (r : RollType) (half : Half)
    (ttl now : ℕ) → phase_of set.rolls r ≡ Some (cache_expire half ttl)
    → keyset.wait_clearance r half now set
    ≡ waits.early_by (longest_left r half ttl now set.keys)
by-time set h r half ttl now phase =
    let none : some_key (lacks_stamp r half) set.keys ≡ false = false_from_ne_true _ lacks in
    rw (phase, ttl_of half ttl, none) refl
  where
    lacks : some_key (lacks_stamp r half) set.keys ≡ true → ⊥
    lacks e =
        let f = some_key-found (lacks_stamp r half) set.keys e in
        let x = and_parts (checked r half f.1.keytype) (is_none (stamp_read r half f.1)) f.3 in
        let fit = λ (sd : SideOf) (own : affects sd r ≡ true). in-order-at sd set (h sd) f.0 f.1 f.2
        r (cache_expire half ttl) (Expiring half r) (expiring-at r half ttl) own phase in
        let there = stamp_there r half f.1.keytype (dates f.1) x.0 fit in
        grind (arith, reads-stamp r half f.1.timestamps, there, x.1)

never_barred : (set : KeySetParts) → ((s : SideOf) → Order s set)
    → (r : RollType) (half : Half) (now : ℕ)
    → keyset.wait_clearance r half now set ≡ waits.Barred WrongKeyState → ⊥
never_barred set h r half now = by half (phase_of set.rolls r) refl
  where
    by : (half : Half) (o : Option RollState) → phase_of set.rolls r ≡ o
        → keyset.wait_clearance r half now set ≡ waits.Barred WrongKeyState → ⊥
    by First (Some (CacheExpire1 ttl)) p e =
        left-unbarred _ WrongKeyState (sym (by-time set h r First ttl now p) ∙ e)
    by Second (Some (CacheExpire2 ttl)) p e =
        left-unbarred _ WrongKeyState (sym (by-time set h r Second ttl now p) ∙ e)
    by half o p e = let none = sym (ap (λ o. waits.wait_in_phase r half (ttl_in half o) now
        set.keys) p) ∙ e in cc

pub never-misses : {name : List ℕ} {calls : List Call} {entries : List Entry}
    → IsRun name calls entries → NeverMissesStamp name calls entries
never-misses {name} {calls} {entries} run only n roll half now wait refused =
    let old = (world_at name calls entries n).set in
    let step = subst (λ r. keyset.Step old (keyset.Wait roll half now) r
    (world_at name calls entries (suc n)).set) refused
    (step-made run n (keyset.Wait roll half now) wait) in
    never_barred old (in-order run (sets-nothing run only) n) roll half now
    (let said = step.0 in grind arith)
