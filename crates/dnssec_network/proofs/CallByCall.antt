-- Runs of algorithm rolls that are written down call by call: what each call leaves, by the entries
-- of the keys. For `WholeSets`.
use Rattle.std.proofs.Common.{◌≡◌, ℕ, zero, suc, ◌<◌, ◌^◌, Bool, true, false, T}
use Rattle.std.proofs.Common.{List, [], ◌∷◌, ◌++◌, map, filter, length, Option, None, Some}
use Rattle.std.proofs.Common.{refl, sym, ap, ◌∙◌, arith, Global, String, Vec, Ordering}
use Rattle.std.proofs.Common.{slice_index, nat_eq, fold, length-append, true≢false, max}
use Rattle.std.proofs.{lemmas.List.length-map, StringFromBytes.spelled}
use Rattle.std.proofs.lemmas.Str.{IsUtf8-from_ascii}
use Rattle.std.specs.Cmp.Lexicographic.{slice_cmp, nat_list_cmp_total}
use Rattle.std.specs.FinMap.{entries, empty, from_entries, from_sorted, find, get}
use Rattle.std.specs.FinMap.{is_sorted, same_map, entries-from_sorted, get-from_entries}
use Rattle.std.specs.FinMap.{get-from_sorted, nat_cmp-IsAntisymmetric, slice_cmp-IsAntisymmetric}
use Rattle.std.specs.{List.list_any, Ordering.nat_cmp, String.string_vec, formers.vec.Vec.holding}
use Rattle.dnssec_key.specs.declared.kind.KeyType.{KeyType}
use Rattle.dnssec_key.specs.declared.roll.RollState.{RollState, TheVariants.Done}
use Rattle.dnssec_key.specs.declared.roll.RollType.{RollType, TheVariants.AlgorithmRoll}
use Rattle.dnssec_key.specs.{Key.KeyParts, declared.roll.Half.Half}
use Rattle.dnssec_zone.specs.{Keys.Keys, Lists.Lists, Lists.no_lists, Refusals.add_refusal}
use Rattle.dnssec_zone.specs.Rolls.{Rolls, no_rolls, with_phase}
use Rattle.dnssec_zone.specs.Start.{conflict, new_fault, old_fault, some_listed, suitability_fault}
use Rattle.dnssec_zone.specs.Start.{serves_as_new, PresentKskRole, PresentZskRole}
use Rattle.dnssec_zone.specs.Wait.{Clear, barred_by, lacks_stamp, time_left, wait_in_phase}
use Rattle.dnssec_keyset.specs.KeySet.{KeySetParts}
use Rattle.dnssec_keyset.specs.Step as keyset
use Rattle.dnssec_run.proofs.Grow.{run_more, run_none, world_more, world_none}
use Rattle.dnssec_run.specs.declared.call.Call.{Call, TheVariants.RollDone}
use Rattle.dnssec_run.specs.declared.record.{Entry.Entry, Published.Published, Reply.Reply}
use Rattle.dnssec_run.specs.Published.{Id, IsPublished, World, id_of, in_dnskey, in_ds}
use Rattle.dnssec_run.specs.Published.{keys_where, signs_dnskey, signs_zone}
use Rattle.dnssec_run.specs.Record.{IsRun, call_moment, call_of, is_accepted, mark_after, reply_of}
use Rattle.dnssec_run.specs.Record.{world_after, world_at}
use Rattle.dnssec_run.specs.declared.record.Reply.TheVariants as reply

-- ---- texts and lists in memory

abbrev pub letter : {X : Type 0} → X → ℕ
letter x = 97

pub letters : {X : Type 0} (xs : List X) (i : ℕ) → slice_index (map letter xs) i < 128
letters [] i = omega arith
letters (x ∷ xs) zero = omega arith
letters (x ∷ xs) (suc i) = letters xs i

pub low : (b : ℕ) → b < 128 → (i : ℕ) → slice_index (b ∷ []) i < 128
low b small zero = small
low b small (suc i) = omega arith

module _ (heap : Global) where
  -- a text of one letter
  abbrev pub named : (b : ℕ) → b < 128 → String Global
  named b small = spelled heap (b ∷ []) ∣ IsUtf8-from_ascii (b ∷ []) (low b small) ∣₁ (omega arith)

  -- the list as a vector
  abbrev pub held : {X : Type 0} (xs : List X) → length xs < 2 ^ 63 → Vec X Global
  held xs few =
      let long : length (map letter xs) ≡ length xs = length-map xs letter in
      let fits : length (map letter xs) < 2 ^ 63 = rw long few in
      holding (string_vec (spelled heap (map letter xs)
      ∣ IsUtf8-from_ascii (map letter xs) (letters xs) ∣₁ fits)) xs (long, omega arith)

-- ---- maps by their entries

abbrev pub Entries : Type 0
Entries = List (List ℕ × KeyParts)

abbrev pub order : List ℕ → List ℕ → Ordering
order = slice_cmp nat_cmp

pub entries-of : (es : Entries) → T (is_sorted order es)
    → entries (from_entries {R = order} es) ≡ es
entries-of es up = ap entries (same_map nat_list_cmp_total
    (slice_cmp-IsAntisymmetric nat_cmp-IsAntisymmetric) (from_entries es) (from_sorted es)
    (λ q. get-from_entries nat_list_cmp_total es q ∙ sym (get-from_sorted order es q up)))
    ∙ entries-from_sorted order es up

pub gets : (es : Entries) → get (from_entries {R = order} es) ≡ (λ q. find order q es)
gets es = λ i q. get-from_entries nat_list_cmp_total es q i

-- ---- a run, call by call

-- the algorithm roll in a phase, and no other roll
abbrev pub rolls_in : Option RollState → Rolls
rolls_in phase = with_phase no_rolls AlgorithmRoll phase

pub again : (p q : Option RollState) → with_phase (rolls_in p) AlgorithmRoll q ≡ rolls_in q
again p q = λ i roll. each roll i
  where
    each : (roll : RollType) → with_phase (rolls_in p) AlgorithmRoll q roll ≡ rolls_in q roll
    each roll = grind arith

resting : rolls_in None ≡ no_rolls
resting = λ i roll. each roll i
  where
    each : (roll : RollType) → rolls_in None roll ≡ no_rolls roll
    each roll = grind arith

module _ (name : List ℕ) where
  abbrev pub set_of : Keys → Rolls → Lists → KeySetParts
  set_of keys rolls lists = record { name = name; keys = keys; rolls = rolls; lists = lists }

  abbrev pub with_adds : (List ℕ → ℕ) → KeySetParts → World
  with_adds added set = record { set = set; added = added }

  -- what is there, by the entries of its keys
  abbrev pub world_of : Entries → Option RollState → Lists → (List ℕ → ℕ) → World
  world_of es phase lists added =
      with_adds added (set_of (from_entries es) (rolls_in phase) lists)

  -- a run whose last position has these keys, this phase and these adds
  pub record Reached (cs : List Call) (entries : List Entry) (es : Entries)
      (phase : Option RollState) (added : List ℕ → ℕ) : Type 0 where
    pub lists : Lists
    pub run : IsRun name cs entries
    pub here : world_at name cs entries (length cs) ≡ world_of es phase lists added

  abbrev pub entry_of : Call → Reply → Published → Entry
  entry_of c r p = record {
    reply = r;
    moment = call_moment c;
    mark = mark_after c r;
    published = p;
  }

  pub begun : Reached [] [] [] None (λ q. 0)
  begun = record {
    lists = no_lists;
    run = run_none name;
    here = world_none name []
        ∙ (λ i. with_adds (λ q. 0) (set_of empty (resting' i) no_lists));
  }
    where
      resting' : no_rolls ≡ rolls_in None
      resting' = sym resting

  step-of : (old new : KeySetParts) (c : Call) (r : Reply) → is_accepted r ≡ true
      → keyset.clearance old (call_of c) ≡ Clear → reply_of r ≡ keyset.accepted_reply (call_of c)
      → new ≡ keyset.after (call_of c) old → keyset.Step old (call_of c) (reply_of r) new
  step-of old new c reply.Done accepted clear same next = (clear, same, next)
  step-of old new c (reply.Actions actions) accepted clear same next = (clear, same, next)
  step-of old new c (reply.Refused cause) accepted clear same next =
      absurd (true≢false (sym accepted))

  module _ (cs : List Call) (entries : List Entry) (es : Entries) (phase : Option RollState)
      (added : List ℕ → ℕ) (c : Call) (r : Reply) (p : Published)
      (fs : Entries) (next : Option RollState) (lists : Lists) (more : List ℕ → ℕ) where
    pub goes-on : (at : Reached cs entries es phase added) → is_accepted r ≡ true
        → keyset.clearance (world_of es phase at.lists added).set (call_of c) ≡ Clear
        → reply_of r ≡ keyset.accepted_reply (call_of c)
        → (world_of fs next lists more).set
        ≡ keyset.after (call_of c) (world_of es phase at.lists added).set
        → world_of fs next lists more
        ≡ world_after (suc (length cs)) (world_of es phase at.lists added) c r
        → IsPublished p (world_of fs next lists more)
        → Reached (cs ++ c ∷ []) (entries ++ entry_of c r p ∷ []) fs next more
    goes-on at accepted clear same after world shows = record {
      lists = lists;
      run = run_more name cs entries c (entry_of c r p) (world_of fs next lists more) at.run
          (rw at.here world) (rw at.here (record {
            step = step-of _ _ c r accepted clear same after;
            mark = refl;
            moment = refl;
            published = shows;
          }));
      here = ap (world_at name (cs ++ c ∷ []) (entries ++ entry_of c r p ∷ []))
          (length-append cs (c ∷ []) ∙ omega arith)
          ∙ world_more name cs entries c (entry_of c r p) at.run.count ∙ rw at.here (sym world);
    }

  -- ---- what bars no call

  pub add-clear : (es : Entries) (q : List ℕ) (tag : ℕ) → T (is_sorted order es)
      → list_any (λ k. nat_eq k.key_tag tag) (map (λ e. e.1) es) ≡ false → find order q es ≡ None
      → barred_by (add_refusal (from_entries es) q tag) ≡ Clear
  add-clear es q tag up none gone =
      rw (entries-of es up, none, get-from_entries nat_list_cmp_total es q, gone) refl

  pub wait-clear : (half : Half) (ttl now : ℕ) (es : Entries) → T (is_sorted order es)
      → list_any (lacks_stamp AlgorithmRoll half) (map (λ e. e.1) es) ≡ false
      → fold max 0 (map (time_left AlgorithmRoll half ttl now) (map (λ e. e.1) es)) ≡ 0
      → wait_in_phase AlgorithmRoll half (Some ttl) now (from_entries es) ≡ Clear
  wait-clear half ttl now es up none over = rw (entries-of es up, none, over) refl

  suits : (keys : Keys) (olds news : List (List ℕ))
      → some_listed (serves_as_new PresentKskRole) (get keys) news ≡ true
      → some_listed (serves_as_new PresentZskRole) (get keys) news ≡ true
      → suitability_fault AlgorithmRoll keys olds news ≡ None
  suits keys olds news a b = rw (a, b) refl

  pub start-clear : (es : Entries) (lists : Lists) (olds news : List (List ℕ)) (now : ℕ)
      → old_fault AlgorithmRoll (λ q. find order q es) olds ≡ None
      → new_fault AlgorithmRoll (λ q. find order q es) olds [] news ≡ None
      → some_listed (serves_as_new PresentKskRole) (λ q. find order q es) news ≡ true
      → some_listed (serves_as_new PresentZskRole) (λ q. find order q es) news ≡ true
      → keyset.clearance (world_of es None lists (λ q. 0)).set
      (keyset.StartRoll AlgorithmRoll olds news now) ≡ Clear
  unfolding conflict
  start-clear es lists olds news now old new a b =
      let at : List ℕ → Option KeyParts = get (from_entries es) in
      let no_old : old_fault AlgorithmRoll at olds ≡ None = rw (gets es) old in
      let no_new : new_fault AlgorithmRoll at olds [] news ≡ None = rw (gets es) new in
      let ksk : some_listed (serves_as_new PresentKskRole) at news ≡ true = rw (gets es) a in
      let zsk : some_listed (serves_as_new PresentZskRole) at news ≡ true = rw (gets es) b in
      rw (no_old, no_new, suits (from_entries es) olds news ksk zsk) refl

  -- ---- what a call leaves

  abbrev pub by : (List ℕ → KeyParts → KeyParts) → Entries → Entries
  by f es = map (λ (e : List ℕ × KeyParts). (e.0, f e.0 e.1)) es

  moved : (f : List ℕ → KeyParts → KeyParts) (es : Entries) → T (is_sorted order es)
      → keyset.keys_by f (from_entries es) ≡ from_entries (by f es)
  moved f es up = ap (λ (es : Entries). from_entries (by f es)) (entries-of es up)

  -- the set after a start, a report or a wait
  pub leaves : (f : List ℕ → KeyParts → KeyParts) (es : Entries) (phase next : Option RollState)
      (lists : Lists) → T (is_sorted order es)
      → set_of (from_entries (by f es)) (rolls_in next) lists
      ≡ set_of (keyset.keys_by f (from_entries es)) (with_phase (rolls_in phase) AlgorithmRoll next)
      lists
  leaves f es phase next lists up =
      λ i. set_of (sym (moved f es up) i) (sym (again phase next) i) lists

  abbrev pub ids : (KeyType → Bool) → Entries → (List ℕ → ℕ) → List Id
  ids passes es added = map (λ (e : List ℕ × KeyParts). (e.0, added e.0))
      (filter (λ (e : List ℕ × KeyParts). passes e.1.keytype) es)

  shown : (passes : KeyType → Bool) (es : Entries) (phase : Option RollState) (lists : Lists)
      (added : List ℕ → ℕ) → T (is_sorted order es)
      → ids passes es added ≡ keys_where passes (world_of es phase lists added)
  shown passes es phase lists added up =
      ap (λ (es : Entries). ids passes es added) (sym (entries-of es up))

  -- the published sets are those of these keys, which stand in order
  abbrev pub Shows : Published → Entries → (List ℕ → ℕ) → Type 0
  Shows p es added = T (is_sorted order es)
      × (map id_of p.ds.items ≡ ids in_ds es added)
      × (map id_of p.dnskey.items ≡ ids in_dnskey es added)
      × (map id_of p.dnskey_signers.items ≡ ids signs_dnskey es added)
      × (map id_of p.zone_signers.items ≡ ids signs_zone es added)

  pub shows : (p : Published) (es : Entries) (phase : Option RollState) (lists : Lists)
      (added : List ℕ → ℕ) → Shows p es added → IsPublished p (world_of es phase lists added)
  shows p es phase lists added h = record {
    ds = h.1 ∙ shown in_ds es phase lists added h.0;
    dnskey = h.2 ∙ shown in_dnskey es phase lists added h.0;
    dnskey_signers = h.3 ∙ shown signs_dnskey es phase lists added h.0;
    zone_signers = h.4 ∙ shown signs_zone es phase lists added h.0;
  }

  module _ (cs : List Call) (entries : List Entry) (es : Entries) (phase : Option RollState)
      (added : List ℕ → ℕ) (c : Call) (r : Reply) (p : Published) (next : Option RollState) where
    -- a start, a report or a wait
    pub rolled : (f : List ℕ → KeyParts → KeyParts) (at : Reached cs entries es phase added)
        → T (is_sorted order es) → is_accepted r ≡ true
        → ((lists : Lists)
        → keyset.clearance (world_of es phase lists added).set (call_of c) ≡ Clear)
        → reply_of r ≡ keyset.accepted_reply (call_of c)
        → ((lists : Lists) → keyset.after (call_of c) (world_of es phase lists added).set
        ≡ set_of (keyset.keys_by f (from_entries es))
        (with_phase (rolls_in phase) AlgorithmRoll next)
        (keyset.after (call_of c) (world_of es phase lists added).set).lists)
        → ((lists : Lists) → world_after (suc (length cs)) (world_of es phase lists added) c r
        ≡ with_adds added (keyset.after (call_of c) (world_of es phase lists added).set))
        → Shows p (by f es) added
        → Reached (cs ++ c ∷ []) (entries ++ entry_of c r p ∷ []) (by f es) next added
    rolled f at up accepted clear same after world shown =
        let lists : Lists = (keyset.after (call_of c) (world_of es phase at.lists added).set).lists
        in
        let set : (world_of (by f es) next lists added).set
        ≡ keyset.after (call_of c) (world_of es phase at.lists added).set =
        leaves f es phase next lists up ∙ sym (after at.lists) in
        goes-on cs entries es phase added c r p (by f es) next lists added at accepted
        (clear at.lists) same set
        (ap (with_adds added) set ∙ sym (world at.lists)) (shows p (by f es) next lists added shown)

  -- the end of a roll
  pub ended : (cs : List Call) (entries : List Entry) (es : Entries) (added : List ℕ → ℕ)
      (r : Reply) (p : Published) (at : Reached cs entries es (Some Done) added)
      → is_accepted r ≡ true → reply_of r ≡ keyset.Actions []
      → ((lists : Lists) → world_after (suc (length cs)) (world_of es (Some Done) lists added)
      (RollDone AlgorithmRoll) r ≡ with_adds added (set_of (from_entries es)
      (with_phase (rolls_in (Some Done)) AlgorithmRoll None) lists))
      → Shows p es added
      → Reached (cs ++ RollDone AlgorithmRoll ∷ [])
      (entries ++ entry_of (RollDone AlgorithmRoll) r p ∷ []) es None added
  ended cs entries es added r p at accepted same world shown =
      let rolls : rolls_in None ≡ with_phase (rolls_in (Some Done)) AlgorithmRoll None =
      sym (again (Some Done) None) in
      goes-on cs entries es (Some Done) added (RollDone AlgorithmRoll) r p es None at.lists added at
      accepted refl same
      (λ i. set_of (from_entries es) (rolls i) at.lists)
      ((λ i. with_adds added (set_of (from_entries es) (rolls i) at.lists))
      ∙ sym (world at.lists)) (shows p es None at.lists added shown)
