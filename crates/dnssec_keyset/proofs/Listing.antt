-- What starts have listed, after each call: the entries that are kept agree with the keys, and mean
-- the lists of the step.
use Rattle.std.proofs.Common.{arith, ◌≡◌, ℕ, not, List, [], Some, None, Ok, Err, refl, sym, ap}
use Rattle.dnssec_key.specs.declared.roll.Half.{Half}
use Rattle.dnssec_key.specs.declared.roll.Half.TheVariants.{First, Second}
use Rattle.dnssec_key.specs.RollTable.{after_start, after_report, after_wait}
use Rattle.dnssec_zone.specs.Inner.Entries.{EntriesAgree, lists_of, without_tag, without_roll}
use Rattle.dnssec_zone.specs.Inner.Entries.{entries_at_start, entries_after_report, has_entry}
use Rattle.dnssec_zone.specs.Lists.{Lists, listed_by, without, with_listed, listed_at_start}
use Rattle.dnssec_zone.proofs.Listing.References.{means-mapped, means-added, means-removed}
use Rattle.dnssec_zone.proofs.Listing.References.{forgotten, has_entry-is, there-filter}
use Rattle.dnssec_zone.proofs.Listing.Starts.{lists_of-started, there-started, news-kept}
use Rattle.std.proofs.Common.{subst, ◌∙◌}
use Rattle.std.specs.{Prelude.Result, Prelude.OnOk, Prelude.OnErr, Prelude.if◌then◌else◌}
use Rattle.std.specs.{Option.option_map, Str.bytes_eq, FinMap.get}
use Rattle.dnssec_base.specs.declared.error.Error.{Error}
use Rattle.dnssec_key.specs.{RollTable.after_early_end, RollTable.old_at_start}
use Rattle.dnssec_key.specs.{RollTable.new_at_start, declared.roll.RollType.RollType, Key.KeyParts}
use Rattle.dnssec_key.specs.{Setters.Setting, Setters.set_by}
use Rattle.dnssec_zone.specs.Lists.{nothing_listed, lists_after_report}
use Rattle.dnssec_zone.specs.declared.rolls.Part.TheVariants.{Old, New}
use Rattle.dnssec_zone.specs.Inner.Entries.{is_of, is_of_roll}
use Rattle.dnssec_zone.specs.{declared.rolls.ListedKey.ListedKey, Keys.Keys}
use Rattle.dnssec_zone.specs.{Refusals.Answers, Refusals.add_refusal, Start.is_listed}
use Rattle.dnssec_zone.proofs.Listing.Starts.{lists_of-reported, lists_of-taken_out}
use Rattle.dnssec_zone.proofs.Tags.{kept_at, kept_set, kept_unmarked}
use Rattle.dnssec_keyset.specs.{KeySet.KeySetParts, Step.start_refusal}
use Rattle.dnssec_keyset.proofs.{Allowed.came_in, Laws.no_add, Moves.kept_started}
use Rattle.dnssec_keyset.proofs.{Sides.starts-clear}

-- the entries agree with the keys, and mean these lists
abbrev pub Listing : Keys → List ListedKey → Lists → Type 0
Listing keys es lists = EntriesAgree keys es × (lists_of keys es ≡ lists)

-- what is listed for a roll is taken out
taken_out : (roll : RollType) (keys : Keys) (es : List ListedKey) → EntriesAgree keys es
    → EntriesAgree keys (without_roll roll es)
taken_out roll keys es agree = record {
  apart = agree.apart;
  there = there-filter keys (λ e. not (is_of_roll roll e)) es agree.there;
}

-- a key is changed by hand, and isn't forgotten
pub set-kept : {old new : Keys} {es : List ListedKey} → EntriesAgree old es → (r : List ℕ)
    (setting : Setting) → ((q : List ℕ) → get new q
    ≡ option_map (λ k. if bytes_eq r q then set_by setting k else k) (get old q))
    → Listing new es (lists_of old es)
set-kept {old} {new} {es} agree r setting is =
    means-mapped (λ q k. if bytes_eq r q then set_by setting k else k)
    (λ q k. kept_at (set_by setting) (kept_set setting) (bytes_eq r q) k) old new is es agree

module _ {old : Keys} {es : List ListedKey} (agree : EntriesAgree old es) (new : Keys) where
  -- a key comes in, or none does
  pub added : (r : List ℕ) (x : KeyParts) (o : Result (Unit {0}) Error)
      → Answers (add_refusal old r x.key_tag) o
      → OnOk o ((q : List ℕ) → get new q ≡ (if bytes_eq r q then Some x else get old q))
      → OnErr o (new ≡ old) → Listing new es (lists_of old es)
  added r x (Err e) reply ok err =
      subst (λ keys. Listing keys es (lists_of old es)) (sym err) (agree, refl)
  added r x (Ok u) reply ok err =
      let free = no_add old r x.key_tag (came_in _ u reply) in
      means-added old new r x free.1 free.0 ok es agree

  -- a key that has the tag
  module _ (r : List ℕ) (tag : ℕ)
      (has : option_map (λ (k : KeyParts). k.key_tag) (get old r) ≡ Some tag) where
    found : (x : KeyParts) × (get old r ≡ Some x) × (x.key_tag ≡ tag)
    found = grind (arith, has)

    -- it is changed by hand, and forgotten
    pub set-forgotten : (setting : Setting) → ((q : List ℕ) → get new q
        ≡ option_map (λ k. if bytes_eq r q then set_by setting k else k) (get old q))
        → Listing new (without_tag tag es) (without r (lists_of old es))
    set-forgotten setting is =
        rw (← found.2)
        (let kept = forgotten old es agree r found.0 found.1 in
        let means = set-kept kept.0 r setting is in
        (means.0, means.1 ∙ kept.1))

    -- it goes, and is forgotten
    pub removed : ((q : List ℕ) → get new q ≡ (if bytes_eq r q then None else get old q))
        → Listing new (without_tag tag es) (without r (lists_of old es))
    removed is = rw (← found.2) (means-removed old es agree r found.0 found.1 new is)

  -- all keys go on
  pub waited : (roll : RollType) (half : Half) (now : ℕ)
      → ((q : List ℕ) → get new q ≡ option_map (after_wait roll half now) (get old q))
      → Listing new es (lists_of old es)
  waited roll half now is =
      means-mapped (λ q. after_wait roll half now) (λ q k. refl) old new is es agree

  -- all keys are stamped by a report
  pub reported : (roll : RollType) (half : Half) (now : ℕ)
      → ((q : List ℕ) → get new q ≡ option_map (after_report roll half now) (get old q))
      → Listing new (entries_after_report roll half es)
      (lists_after_report roll half (lists_of old es))
  reported roll half now is =
      let means =
      means-mapped (λ q. after_report roll half now) (λ q k. refl) old new is es agree in (
        kept half means.0,
        lists_of-reported new roll half es ∙ ap (lists_after_report roll half) means.1,
      )
    where
      kept : (half : Half) → EntriesAgree new es
          → EntriesAgree new (entries_after_report roll half es)
      kept First agree = taken_out roll new es agree
      kept Second agree = agree

  -- a start is undone
  module _ (roll : RollType) (is : (q : List ℕ) → get new q
      ≡ option_map (λ k. after_early_end roll (has_entry roll Old k.key_tag es)
      (has_entry roll New k.key_tag es) k) (get old q)) where
    pub undone : Listing new (without_roll roll es)
        (with_listed (lists_of old es) roll nothing_listed)
    undone =
        let means = means-mapped (λ q k. after_early_end roll (has_entry roll Old k.key_tag es)
        (has_entry roll New k.key_tag es) k) (λ q k. kept_unmarked roll _ _ k) old new is es
        agree in (
          taken_out roll new es means.0,
          lists_of-taken_out new roll es
              ∙ ap (λ lists. with_listed lists roll nothing_listed) means.1,
        )

    pub undone-keys : (q : List ℕ) → get new q ≡ option_map (after_early_end roll
        (is_listed (listed_by (lists_of old es) roll).olds q)
        (is_listed (listed_by (lists_of old es) roll).news q)) (get old q)
    undone-keys q =
        let listed : (k : KeyParts) → get old q ≡ Some k
        → (has_entry roll Old k.key_tag es ≡ is_listed (listed_by (lists_of old es) roll).olds q)
        × (has_entry roll New k.key_tag es ≡ is_listed (listed_by (lists_of old es) roll).news q) =
        λ k f. (
          has_entry-is old agree.apart q k f (is_of roll Old) es agree.there,
          has_entry-is old agree.apart q k f (is_of roll New) es agree.there,
        ) in
        grind (arith, is q, listed)

-- the keys are marked by a start, the old ones first
module _ (set : KeySetParts) {es : List ListedKey} (agree : EntriesAgree set.keys es)
    (mid new : Keys) (roll : RollType) (olds news : List (List ℕ)) (now : ℕ)
    (one : (q : List ℕ) → get mid q
    ≡ option_map (λ k. if is_listed olds q then old_at_start k else k) (get set.keys q))
    (two : (q : List ℕ) → get new q
    ≡ option_map (λ k. if is_listed news q then new_at_start roll now k else k) (get mid q)) where
  pub started-keys : (q : List ℕ) → get new q
      ≡ option_map (after_start roll now (is_listed olds q) (is_listed news q)) (get set.keys q)
  started-keys q = grind (arith, one q, two q)

  pub started : start_refusal roll set olds news ≡ None
      → Listing new (entries_at_start set.keys roll olds news es)
      (with_listed (lists_of set.keys es) roll (listed_at_start set.keys olds news))
  started none =
      let third = (starts-clear roll set olds news none).1 in
      let kept : EntriesAgree set.keys (entries_at_start set.keys roll olds news es) = record {
        apart = agree.apart;
        there = there-started set.keys roll olds news es agree.there;
      } in
      let means = means-mapped
      (λ q. after_start roll now (is_listed olds q) (is_listed news q))
      (λ q k. kept_started roll now (is_listed olds q) (is_listed news q) k) set.keys new
      started-keys (entries_at_start set.keys roll olds news es) kept in (
        means.0,
        means.1 ∙ lists_of-started set.keys roll olds news agree.apart
            (news-kept roll set.keys olds [] news third) es,
      )
