-- A recorder that makes one more call has its entry too, and says what it changes: for `advance`.
use Rattle.std.proofs.Common.{◌≡◌, ◌≤◌, ℕ, suc, Bool, true, false, List, [], ◌∷◌, ◌++◌, Some}
use Rattle.std.proofs.Common.{None, refl, sym, ap, ◌∙◌, subst, arith, inl, inr, length}
use Rattle.std.proofs.Common.{length-append}
use Rattle.std.specs.Prelude.{Option, if◌then◌else◌, is_some}
use Rattle.std.specs.{FinMap.get}
use Rattle.std.proofs.lemmas.Bool.{cases_Bool, true≢false}
use Rattle.dnssec_keyset.specs.KeySet.{KeySetParts}
use Rattle.dnssec_keyset.proofs.After.{step-after}
use Rattle.dnssec_run.specs.Adds.{AreListed, IsInOrder, listing_in}
use Rattle.dnssec_run.specs.{Changes.LeadTo, Changes.add_of, Lists.lists_with}
use Rattle.dnssec_run.specs.{Lists.any_list, Lists.same_lists, Lists.shows}
use Rattle.dnssec_run.specs.declared.{adds.Kept.Kept, call.Call.Call, record.Entry.Entry}
use Rattle.dnssec_run.specs.declared.{record.Outcome.Outcome, running.Recorder.Recorder}
use Rattle.dnssec_run.specs.{ByList.ByList, declared.lists.Change.Change}
use Rattle.dnssec_run.specs.Published.{World, keys_where}
use Rattle.dnssec_run.specs.Record.{call_moment, call_of, is_accepted, mark_after, reference_added}
use Rattle.dnssec_run.specs.Record.{reply_of, world_after, world_at}
use Rattle.dnssec_run.specs.Recorder.{Agrees, Leaves, Records, Renews, SaysOutcome}
use Rattle.dnssec_run.specs.Recorder.{SaysShown, changes_of, is_any, listing_after, may_change}
use Rattle.dnssec_run.specs.Recorder.{reference_deleted, reference_set}
use Rattle.dnssec_run.specs.Safe.{position_at, position_of}
use Rattle.dnssec_run.proofs.{Apart.worlds-apart, Asked.Changes.entry-list, Asked.Changes.list-is}
use Rattle.dnssec_run.proofs.{Asked.Changes.places, Effects.accepted_step, Effects.refused_step}
use Rattle.dnssec_run.proofs.{Grow.world_front, Grow.world_more, Listed.listed-published}
use Rattle.dnssec_run.proofs.Moved.{AreApart, Told, leads}
use Rattle.dnssec_run.proofs.Next.{agrees-refused, all-renewed, changes-only}
use Rattle.dnssec_run.proofs.Next.{noted-accepted, records-more}
use Rattle.dnssec_run.proofs.Told.{gone, has-none, same-self, told}
use Rattle.dnssec_keyset.specs.Step as keyset

-- ---- whether anything has changed

none-any : (changes : List Change) → is_any changes ≡ false → changes ≡ []
none-any [] none = refl
none-any (c ∷ cs) none = absurd (true≢false none)

any-some : (changes : List Change) → is_any changes ≡ true → changes ≡ [] → ⊥
any-some changes some none = true≢false (sym some ∙ ap is_any none)

module _ (only : Option (List ℕ)) (touched : ByList) (says : Option Bool) (set : KeySetParts)
    (old new : Kept) (changes : List Change) (changed : Bool)
    (so : Renews only touched says set old new changes changed) where
  pub unchanged : changed ≡ false → changes ≡ []
  unchanged none = elim (cases_Bool (any_list touched)) [
    | inl t ↦ by only (sym (so.changed_is
        ∙ ap (λ b. if b then may_change only changes else false) t) ∙ none)
    | inr t ↦ so.changes_are
        ∙ ap (λ b. if b then changes_of only touched says set old else []) t
  ]
    where
      by : (only : Option (List ℕ)) → may_change only changes ≡ false → changes ≡ []
      by None none = absurd (true≢false none)
      by (Some r) none = none-any changes none

  pub asks-all : only ≡ None → changed ≡ any_list touched
  asks-all none = so.changed_is ∙ ap (λ o. if any_list touched then may_change o changes else false)
      none ∙ same (any_list touched)
    where
      same : (b : Bool) → (if b then true else false) ≡ b
      same b = grind arith

  pub some-change : is_some only ≡ true → changed ≡ true → changes ≡ [] → ⊥
  some-change some yes_ none = by only some (any_list touched) (sym so.changed_is ∙ yes_)
    where
      by : (only : Option (List ℕ)) → is_some only ≡ true → (b : Bool)
          → (if b then may_change only changes else false) ≡ true → ⊥
      by None some b yes_ = true≢false (sym some)
      by (Some r) some true yes_ = any-some changes yes_ none
      by (Some r) some false yes_ = true≢false (sym yes_)

-- ---- one more call

module _ (name : List ℕ) (calls : List Call) (entries : List Entry) (r s : Recorder) (x : Call)
    (o : Outcome) (e : Entry) (so : Records name calls entries r) (says : SaysOutcome e o)
    (listed : AreListed e.published s.added.kept) (at : s.at ≡ suc r.at)
    (step : keyset.Step r.keyset (call_of x) (reply_of o.reply) s.keyset)
    (mark : o.mark ≡ mark_after x o.reply) (moment : o.moment ≡ call_moment x) where
  abbrev before : World
  before = world_at name calls entries (length calls)

  abbrev after : World
  after = world_after s.at before x o.reply

  -- the record goes on, and the changes lead to its next position
  abbrev Goes : Type 0
  Goes = Records name (calls ++ x ∷ []) (entries ++ e ∷ []) s
      × LeadTo add_of s.changes.items (position_at entries (length entries)) (position_of e)

  -- the step, between the worlds of the record
  made : s.keyset ≡ after.set → keyset.Step before.set (call_of x) (reply_of o.reply) after.set
  made same = subst (λ (t : KeySetParts × KeySetParts).
      keyset.Step t.0 (call_of x) (reply_of o.reply) t.1) (λ i. (so.agrees.same i, same i)) step

  goes : Agrees s.keyset (listing_in s.added.kept) after → Told before after s.changes.items → Goes
  goes agrees changes =
      let shown = listed-published s.added.kept s.added.in_order after agrees.listings
      e.published listed in
      let next = records-more name calls entries r s x o e so says at step mark moment agrees
      shown in
      let run = next.run in
      let longer = length-append entries (e ∷ []) in
      let was : world_at name (calls ++ x ∷ []) (entries ++ e ∷ []) (length calls) ≡ before =
      world_front name calls (x ∷ []) entries (e ∷ []) (length calls) (omega arith)
      (omega (arith, so.run.count)) in
      let is : world_at name (calls ++ x ∷ []) (entries ++ e ∷ []) (suc (length calls)) ≡ after =
      world_more name calls entries x e so.run.count ∙ (λ i. world_after
      (let here : suc (length calls) ≡ s.at = omega (arith, at, so.at, so.run.count) in here i)
      before x (says.reply i)) in
      let m : length calls ≤ length (entries ++ e ∷ []) = omega (arith, longer, so.run.count) in
      let n : suc (length calls) ≤ length (entries ++ e ∷ []) =
      omega (arith, longer, so.run.count) in
      let apart = subst (λ (w : World × World). AreApart w.0 w.1) (λ i. (was i, is i))
      (worlds-apart run (length calls) (suc (length calls)) m n) in
      let apart_now = subst (λ (w : World). AreApart w w) is
      (worlds-apart run (suc (length calls)) (suc (length calls)) n n) in (
        next,
        leads before after s.changes.items changes
            (places s.at before after x o.reply (made agrees.same) refl) apart apart_now
            (position_at entries (length entries)) (position_of e)
            (λ list. list-is so.run list (length entries) (omega arith)
            ∙ ap (λ n. keys_where (shows list) (world_at name calls entries n)) so.run.count)
            (λ list. entry-list list e after shown),
      )

  -- a refused call changes nothing
  pub goes-refused : is_accepted o.reply ≡ false → s.added ≡ r.added → s.changes.items ≡ [] → Goes
  goes-refused refused same none =
      let agrees = subst (λ added. Agrees s.keyset (listing_in added.kept) after) (sym same)
      (agrees-refused s.at before r.keyset s.keyset (listing_in r.added.kept) x o.reply refused
      so.agrees (step-after r.keyset s.keyset (call_of x) (reply_of o.reply) step)) in
      let stays = refused_step before.set after.set (call_of x) o.reply refused
      (made agrees.same) in
      goes agrees (subst (Told before after) (sym none) record {
        each = λ c c_in. absurd (has-none c c_in);
        all = λ q other. absurd (true≢false (sym (same-self (lists_with (get after.set.keys q)))
            ∙ ap (λ (set : KeySetParts). same_lists (lists_with (get set.keys q))
            (lists_with (get after.set.keys q))) stays ∙ other));
      })

  -- an accepted call notes the key that it adds or deletes, and then reads which lists have keys
  module _ (ok : is_accepted o.reply ≡ true) (noted : Kept) (up : IsInOrder noted)
      (notes : (q : List ℕ) → listing_in noted q
      ≡ listing_after s.at (reference_added (call_of x)) (reference_deleted (call_of x))
      (listing_in r.added.kept) q)
      (touched : ByList) (said : Option Bool) (changed : Bool)
      (left : s.keyset ≡ after.set → Leaves touched before after)
      (so_said : SaysShown said touched (reference_set (call_of x)) s.keyset)
      (renews : Renews (reference_set (call_of x)) touched said s.keyset noted s.added.kept
      s.changes.items changed) where
    pub goes-accepted : Goes
    goes-accepted =
        let clear = (accepted_step r.keyset s.keyset (call_of x) o.reply ok step).0 in
        let known = noted-accepted s.at before r.keyset s.keyset (listing_in r.added.kept)
        (listing_in noted) x o.reply ok clear so.agrees
        (step-after r.keyset s.keyset (call_of x) (reply_of o.reply) step) notes in
        let there = accepted_step before.set after.set (call_of x) o.reply ok (made known.1) in
        let says_so = subst (λ set. SaysShown said touched (reference_set (call_of x)) set)
        known.1 so_said in
        let renewed = subst (λ set. Renews (reference_set (call_of x)) touched said set noted
        s.added.kept s.changes.items changed) known.1 renews in
        let only = changes-only s.at before x o.reply in
        goes (record {
          same = known.1;
          listings = all-renewed before after touched said (listing_in noted) known.0
              (left known.1) (reference_set (call_of x)) (listing_in s.added.kept) only says_so
              renewed.listings;
        }) (subst (Told before after) (sym renewed.changes_are)
        (told before after touched said noted up known.0 (left known.1)
        (gone before.set after.set (call_of x) there.0 there.1) (reference_set (call_of x)) only
        says_so))
