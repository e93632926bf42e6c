-- What the recorder knows of the keys goes along with each call.
use Rattle.std.proofs.Common.{◌≡◌, ℕ, true, false, List, refl, sym, ap, ◌∙◌, ◌∷◌, subst}
use Rattle.std.proofs.Common.{[], ◌++◌, arith, suc, length, Some, inl, inr}
use Rattle.std.proofs.Common.{length-append}
use Rattle.std.specs.Prelude.{Bool, Option, None, if◌then◌else◌}
use Rattle.std.specs.{Option.option_map, Str.bytes_eq, Cmp.Lexicographic.bytes_decides}
use Rattle.std.specs.{FinMap.get, FinMap.get-empty}
use Rattle.std.specs.{Ordering.nat_cmp, Cmp.Lexicographic.slice_cmp}
use Rattle.std.proofs.lemmas.Bool.{cases_Bool}
use Rattle.dnssec_key.specs.{Key.KeyParts, Setters.set_by}
use Rattle.dnssec_keyset.specs.KeySet.{KeySetParts, new_set}
use Rattle.dnssec_keyset.specs.Step.{Set, after, after_reply}
use Rattle.dnssec_keyset.proofs.After.{after-changes}
use Rattle.dnssec_run.specs.Adds.{listing_in, reread, set_listing}
use Rattle.dnssec_run.specs.declared.{call.Call.Call, record.Entry.Entry, record.Outcome.Outcome}
use Rattle.dnssec_run.specs.{ByList.ByList, declared.lists.KeyListing.KeyListing}
use Rattle.dnssec_run.specs.declared.{lists.Shown.Shown}
use Rattle.dnssec_run.specs.declared.record.{Reply.Reply, Reply.TheVariants.Refused}
use Rattle.dnssec_run.specs.declared.record.{Mark.TheVariants.Other}
use Rattle.dnssec_run.specs.declared.lists.Shown.TheVariants as lists
use Rattle.dnssec_run.specs.Lists.{all_say, any_list, at_list, choose, lists_said, lists_with}
use Rattle.dnssec_run.specs.Lists.{passing, shows}
use Rattle.dnssec_run.specs.Published.{IsPublished, World}
use Rattle.dnssec_run.specs.Record.{call_moment, call_of, reply_of, is_accepted, mark_of, world_at}
use Rattle.dnssec_run.specs.Record.{mark_after, reference_added, with_added, world_after, new_world}
use Rattle.dnssec_run.specs.Recorder.{Agrees, ChangesOnly, Leaves, Records, SaysOutcome}
use Rattle.dnssec_run.specs.Recorder.{SaysShown, listing_after, listing_for, listing_renewed}
use Rattle.dnssec_run.specs.Recorder.{reference_deleted, reference_set}
use Rattle.dnssec_run.specs.declared.running.Recorder.{Recorder}
use Rattle.dnssec_run.proofs.Effects.{added-free, looked-up, moved_key, put_at}
use Rattle.dnssec_run.proofs.Grow.{run_more, world_more}
use Rattle.dnssec_zone.specs.Wait as waits
use Rattle.dnssec_keyset.specs.Step as keyset

-- ---- a key that comes is noted, and one that goes isn't known any more

-- what is known of a key before its flags are read again: the lists that had it
abbrev pub listing_was : ℕ → Option KeyParts → KeyParts → KeyListing
listing_was n was k = record { added = n; shown = lists_with was }

-- the listings are those of the keys that are there, with the lists that had them
abbrev pub AreNoted : (List ℕ → Option KeyListing) → World → World → Type 0
AreNoted at v w = (q : List ℕ) →
    at q ≡ option_map (listing_was (w.added q) (get v.set.keys q)) (get w.set.keys q)

was-known : (n : ℕ) (o : Option KeyParts) (f : KeyParts → KeyParts)
    → option_map (listing_for n) o ≡ option_map (listing_was n o) (option_map f o)
was-known n None f = refl
was-known n (Some k) f = refl

module _ (n : ℕ) (w : World) (at : List ℕ → Option KeyListing)
    (agrees : (q : List ℕ) → at q ≡ option_map (listing_for (w.added q)) (get w.set.keys q)) where
  looked : (c : keyset.Call) (q : List ℕ) → get (after c w.set).keys q
      ≡ put_at c q (option_map (moved_key w.set c q) (get w.set.keys q))
  looked c q = looked-up w.set (after c w.set) c (after-changes w.set c) q

  next : (c : keyset.Call) → keyset.clearance w.set c ≡ waits.Clear → (q : List ℕ)
      → listing_after n (reference_added c) (reference_deleted c) at q
      ≡ option_map (listing_was (with_added n (reference_added c) w.added q) (get w.set.keys q))
      (get (after c w.set).keys q)
  next (keyset.AddKey r k) v q = elim (cases_Bool (bytes_eq r q)) [
    | inl t ↦ rw (looked (keyset.AddKey r k) q, t, added-free w.set r k v q t) refl
    | inr t ↦ rw (looked (keyset.AddKey r k) q, t) (agrees q ∙ was-known _ _ _)
  ]
  next (keyset.DeleteKey r) v q = elim (cases_Bool (bytes_eq r q)) [
    | inl t ↦ rw (looked (keyset.DeleteKey r) q, t) refl
    | inr t ↦ rw (looked (keyset.DeleteKey r) q, t) (agrees q ∙ was-known _ _ _)
  ]
  next c v q =
      agrees q ∙ was-known (w.added q) (get w.set.keys q) (moved_key w.set c q)
      ∙ ap (option_map (listing_was (w.added q) (get w.set.keys q))) (sym (looked c q))

-- ---- then it is read which lists have a key

pub same-with : (o u : Option KeyParts) → ((s : Shown) → passing (shows s) o ≡ passing (shows s) u)
    → lists_with o ≡ lists_with u
same-with o u same = λ i. record {
  ds = same lists.Ds i;
  dnskey = same lists.Dnskey i;
  dnskey_signers = same lists.DnskeySigners i;
  zone_signers = same lists.ZoneSigners i;
}

now-known : (n : ℕ) (o u : Option KeyParts) → lists_with o ≡ lists_with u
    → option_map (listing_was n o) u ≡ option_map (listing_for n) u
now-known n o None same = refl
now-known n o (Some k) same = λ i. Some (record { added = n; shown = same i })

reread-known : (n : ℕ) (o u : Option KeyParts)
    → option_map (reread u) (option_map (listing_was n o) u) ≡ option_map (listing_for n) u
reread-known n o None = refl
reread-known n o (Some k) = refl

set-known : (n : ℕ) (o u : Option KeyParts) (touched is : ByList)
    → choose touched is (lists_with o) ≡ lists_with u
    → option_map (set_listing touched is) (option_map (listing_was n o) u)
    ≡ option_map (listing_for n) u
set-known n o None touched is same = refl
set-known n o (Some k) touched is same = λ i. Some (record { added = n; shown = same i })

-- the lists that are touched have a key if it is said so, and the others as before
chosen : (touched is : ByList) (o u : Option KeyParts)
    → ((s : Shown) → at_list touched s ≡ true → passing (shows s) u ≡ at_list is s)
    → ((s : Shown) → at_list touched s ≡ false → passing (shows s) u ≡ passing (shows s) o)
    → choose touched is (lists_with o) ≡ lists_with u
chosen touched is o u some none = λ i. record {
  ds = one touched.ds (some lists.Ds) (none lists.Ds) i;
  dnskey = one touched.dnskey (some lists.Dnskey) (none lists.Dnskey) i;
  dnskey_signers = one touched.dnskey_signers (some lists.DnskeySigners)
      (none lists.DnskeySigners) i;
  zone_signers = one touched.zone_signers (some lists.ZoneSigners) (none lists.ZoneSigners) i;
}
  where
    one : (t : Bool) {a b c : Bool} → (t ≡ true → c ≡ a) → (t ≡ false → c ≡ b)
        → (if t then a else b) ≡ c
    one true some none = sym (some refl)
    one false some none = sym (none refl)

said-so : (says : Option Bool) (touched : ByList) (r : List ℕ) (set : KeySetParts)
    → SaysShown says touched (Some r) set → (s : Shown) → at_list touched s ≡ true
    → passing (shows s) (get set.keys r) ≡ at_list (lists_said says (get set.keys r)) s
said-so None touched r set so s t = of s
  where
    of : (s : Shown) → passing (shows s) (get set.keys r) ≡ at_list (lists_with (get set.keys r)) s
    of lists.Ds = refl
    of lists.Dnskey = refl
    of lists.DnskeySigners = refl
    of lists.ZoneSigners = refl
said-so (Some b) touched r set so s t = so b refl s t ∙ all b s
  where
    all : (b : Bool) (s : Shown) → b ≡ at_list (all_say b) s
    all b lists.Ds = refl
    all b lists.Dnskey = refl
    all b lists.DnskeySigners = refl
    all b lists.ZoneSigners = refl

none-touched : (touched : ByList) → any_list touched ≡ false → (s : Shown)
    → at_list touched s ≡ false
none-touched touched none s = grind arith

module _ (v w : World) (touched : ByList) (says : Option Bool) (at : List ℕ → Option KeyListing)
    (noted : AreNoted at v w) (leaves : Leaves touched v w) where
  -- a key that was set by hand is in the lists that are said
  pub by-hand : (r : List ℕ) → SaysShown says touched (Some r) w.set
      → choose touched (lists_said says (get w.set.keys r)) (lists_with (get v.set.keys r))
      ≡ lists_with (get w.set.keys r)
  by-hand r so = chosen touched (lists_said says (get w.set.keys r)) (get v.set.keys r)
      (get w.set.keys r) (said-so says touched r w.set so) (λ s no. leaves s no r)

  pub not-touched : any_list touched ≡ false → (q : List ℕ)
      → lists_with (get v.set.keys q) ≡ lists_with (get w.set.keys q)
  not-touched none q = same-with (get v.set.keys q) (get w.set.keys q)
      (λ s. sym (leaves s (none-touched touched none s) q))

  renewed : (only : Option (List ℕ)) → ChangesOnly only v w → SaysShown says touched only w.set
      → (q : List ℕ) → listing_renewed only touched says w.set at q
      ≡ option_map (listing_for (w.added q)) (get w.set.keys q)
  renewed None other so q = rw (noted q)
      (reread-known (w.added q) (get v.set.keys q) (get w.set.keys q))
  renewed (Some r) other so q = elim (cases_Bool (bytes_eq r q)) [
    | inl t ↦ rw (t, noted q, (bytes_decides r q).0 t) (set-known (w.added q) (get v.set.keys q)
        (get w.set.keys q) touched (lists_said says (get w.set.keys q))
        (subst (λ r. choose touched (lists_said says (get w.set.keys r))
        (lists_with (get v.set.keys r)) ≡ lists_with (get w.set.keys r))
        ((bytes_decides r q).0 t) (by-hand r so)))
    | inr t ↦ rw (t, noted q) (now-known (w.added q) (get v.set.keys q) (get w.set.keys q)
        (ap lists_with (sym (other.others q t))))
  ]

  -- so the listings are those of the keys, with the lists that have them now
  pub all-renewed : (only : Option (List ℕ)) (later : List ℕ → Option KeyListing)
      → ChangesOnly only v w → SaysShown says touched only w.set
      → ((q : List ℕ) → later q ≡ (if any_list touched
      then listing_renewed only touched says w.set at q else at q))
      → (q : List ℕ) → later q ≡ option_map (listing_for (w.added q)) (get w.set.keys q)
  all-renewed only later other so is q = elim (cases_Bool (any_list touched)) [
    | inl t ↦ is q ∙ rw t (renewed only other so q)
    | inr t ↦ is q ∙ rw (t, noted q) (now-known (w.added q) (get v.set.keys q)
        (get w.set.keys q) (not-touched t q))
  ]

-- ---- calls

-- an accepted call
pub noted-accepted : (n : ℕ) (w : World) (old new : KeySetParts)
    (at later : List ℕ → Option KeyListing) (call : Call) (reply : Reply) → is_accepted reply ≡ true
    → keyset.clearance old (call_of call) ≡ waits.Clear
    → Agrees old at w → new ≡ after_reply (reply_of reply) (call_of call) old
    → ((q : List ℕ) → later q ≡ listing_after n (reference_added (call_of call))
    (reference_deleted (call_of call)) at q)
    → AreNoted later w (world_after n w call reply) × (new ≡ (world_after n w call reply).set)
noted-accepted n w old new at later call (Refused cause) ok clear agrees step notes = cc
noted-accepted n w old new at later call _ ok clear agrees step notes = (
  λ q. notes q ∙ next n w at agrees.listings (call_of call)
      (subst (λ set. keyset.clearance set (call_of call) ≡ waits.Clear) agrees.same clear) q,
  step ∙ ap (after (call_of call)) agrees.same,
)

-- a refused call
pub agrees-refused : (n : ℕ) (w : World) (old new : KeySetParts) (at : List ℕ → Option KeyListing)
    (call : Call) (reply : Reply) → is_accepted reply ≡ false
    → Agrees old at w → new ≡ after_reply (reply_of reply) (call_of call) old
    → Agrees new at (world_after n w call reply)
agrees-refused n w old new at call (Refused cause) ok agrees step =
    record { same = step ∙ agrees.same; listings = agrees.listings }
agrees-refused n w old new at call _ ok agrees step = cc

-- the mark of a call that was accepted, and of one that wasn't
pub mark-accepted : (call : Call) (reply : Reply) → is_accepted reply ≡ true → mark_of call
    ≡ mark_after call reply
mark-accepted call reply ok = grind arith

pub mark-refused : (call : Call) (reply : Reply) → is_accepted reply ≡ false → Other
    ≡ mark_after call reply
mark-refused call reply ok = grind arith

-- what is there after a call, as the key set sees it
abbrev world_then : ℕ → World → keyset.Call → Reply → World
world_then n w c reply = record {
  set = after_reply (reply_of reply) c w.set;
  added = if is_accepted reply then with_added n (reference_added c) w.added else w.added;
}

unchanged : (r q : List ℕ) (f : KeyParts → KeyParts) (o : Option KeyParts) → bytes_eq r q ≡ false
    → option_map (λ (k : KeyParts). if bytes_eq r q then f k else k) o ≡ o
unchanged r q f o apart = grind arith

-- a call that sets a key by hand changes no other, and adds none
pub changes-only : (n : ℕ) (w : World) (call : Call) (reply : Reply)
    → ChangesOnly (reference_set (call_of call)) w (world_after n w call reply)
changes-only n w call reply = by (call_of call) reply
  where
    by : (c : keyset.Call) (reply : Reply)
        → ChangesOnly (reference_set c) w (world_then n w c reply)
    by (Set r setting) (Refused cause) = record { others = λ q apart. refl; added = λ q. refl }
    by (Set r setting) _ = record {
      others = λ q apart. (after-changes w.set (Set r setting)).keys q
          ∙ unchanged r q (set_by setting) (get w.set.keys q) apart;
      added = λ q. refl;
    }
    by _ _ = tt

-- a new key set, without keys
pub agrees-new : (name : List ℕ) (set : KeySetParts) (at : List ℕ → Option KeyListing)
    → set ≡ new_set name → ((q : List ℕ) → at q ≡ None) → Agrees set at (new_world name)
agrees-new name set at is none = record {
  same = is;
  listings = λ q. none q
      ∙ sym (ap (option_map (listing_for 0)) (get-empty (slice_cmp nat_cmp) q));
}

-- a recorder that made one more call has its entry too
pub records-more : (name : List ℕ) (calls : List Call) (entries : List Entry) (r s : Recorder)
    (x : Call) (o : Outcome) (e : Entry) → Records name calls entries r → SaysOutcome e o
    → s.at ≡ suc r.at → keyset.Step r.keyset (call_of x) (reply_of o.reply) s.keyset
    → o.mark ≡ mark_after x o.reply → o.moment ≡ call_moment x
    → Agrees s.keyset (listing_in s.added.kept)
    (world_after s.at (world_at name calls entries (length calls)) x o.reply)
    → IsPublished e.published
    (world_after s.at (world_at name calls entries (length calls)) x o.reply)
    → Records name (calls ++ x ∷ []) (entries ++ e ∷ []) s
records-more name calls entries r s x o e so says at step mark moment agrees shown =
    let here : s.at ≡ suc (length calls) = omega (arith, at, so.at, so.run.count) in
    let before = world_at name calls entries (length calls) in
    let next : world_after s.at before x o.reply
    ≡ world_after (suc (length calls)) before x e.reply =
    (λ i. world_after (here i) before x (sym says.reply i)) in
    let count : length (calls ++ x ∷ []) ≡ suc (length calls) =
    let l = length-append calls (x ∷ []) in omega arith in
    let ends = next ∙ sym (world_more name calls entries x e so.run.count)
    ∙ ap (world_at name (calls ++ x ∷ []) (entries ++ e ∷ [])) (sym count) in
    record {
      run = run_more name calls entries x e _ so.run next (record {
        step = subst (λ (t : KeySetParts × KeySetParts × Reply).
            keyset.Step t.0 (call_of x) (reply_of t.2) t.1)
            (λ i. (so.agrees.same i, agrees.same i, sym says.reply i)) step;
        mark = says.mark ∙ mark ∙ ap (mark_after x) (sym says.reply);
        moment = says.moment ∙ moment;
        published = shown;
      });
      at = let l = length-append entries (e ∷ []) in omega (arith, here, so.run.count);
      agrees = rw (← ends) agrees;
    }
