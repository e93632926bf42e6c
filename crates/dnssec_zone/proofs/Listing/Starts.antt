-- What a start lists, and what a report or an early end takes back.
use Rattle.std.proofs.Common.{◌≡◌, ℕ, Bool, true, false, not, List, [], ◌∷◌, ◌++◌, Some, None, refl}
use Rattle.std.proofs.Common.{sym, ap, ◌∙◌, arith}
use Rattle.std.proofs.lemmas.Bool.{and_parts, and_right, cond_both}
use Rattle.std.proofs.lemmas.List.{append-nil, Elements.filter-append}
use Rattle.std.specs.{Prelude.Option, Prelude.filter, Option.option_map_or, Option.option_or}
use Rattle.std.specs.FinMap.{get}
use Rattle.dnssec_key.specs.declared.roll.Half.{Half}
use Rattle.dnssec_key.specs.declared.roll.Half.TheVariants.{First, Second}
use Rattle.dnssec_key.specs.{declared.roll.RollType.RollType, State.is_kept, Key.KeyParts}
use Rattle.dnssec_key.specs.Key.{all_states}
use Rattle.dnssec_zone.specs.Inner.Entries.{is_of, is_of_roll, without_roll, entry_of}
use Rattle.dnssec_zone.specs.Inner.Entries.{entries_of, entries_at_start, entries_after_report}
use Rattle.dnssec_zone.specs.Inner.Entries.{references_of, lists_of, AreThere}
use Rattle.dnssec_zone.specs.Lists.{Listed, with_listed, others, nothing_listed, has_kept_key}
use Rattle.dnssec_zone.specs.Lists.{listed_at_start, lists_after_report, same_part}
use Rattle.dnssec_zone.specs.declared.rolls.{ListedKey.ListedKey, Part.Part, Part.TheVariants.Old}
use Rattle.dnssec_zone.specs.{declared.rolls.Part.TheVariants.New, Keys.Keys, Keys.TagsApart}
use Rattle.dnssec_zone.specs.{Rolls.same_roll, Start.new_entry_fault, Start.new_fault}
use Rattle.dnssec_zone.proofs.Listing.References.{names, reference_of-is, there-append}
use Rattle.dnssec_zone.proofs.Listing.References.{there-filter}
use Rattle.dnssec_zone.proofs.{Phases.same_roll-is, Phases.same-itself, Tests.some_or_none}
use Rattle.dnssec_base.specs.declared.error.Error.{Error}

-- ---- the entries of one roll

-- a test that passes nothing of what is cut finds as much as before
filter-within : (p w : ListedKey → Bool) → ((e : ListedKey) → w e ≡ false → p e ≡ false)
    → (es : List ListedKey) → filter p (filter w es) ≡ filter p es
filter-within p w out [] = refl
filter-within p w out (e ∷ es) = grind (arith, out e, filter-within p w out es)

-- a test that refuses what a start lists finds none there
none_of : (keys : Keys) (roll : RollType) (of : Part) (p : ListedKey → Bool)
    → ((tag : ℕ) → p record { roll = roll; part = of; key_tag = tag } ≡ false)
    → (qs : List (List ℕ)) → filter p (entries_of keys roll of qs) ≡ []
none_of keys roll of p fails [] = refl
none_of keys roll of p fails (q ∷ qs) = grind (arith, fails, none_of keys roll of p fails qs)

-- those of another roll are the same
module _ (roll other : RollType) (apart : same_roll roll other ≡ false) where
  without_other : (part : Part) (es : List ListedKey)
      → filter (is_of other part) (without_roll roll es) ≡ filter (is_of other part) es
  without_other part = filter-within (is_of other part) (λ e. not (is_of_roll roll e))
      (λ e out. grind (arith, apart, same_roll-is other e.roll))

  none_of_other : (keys : Keys) (of part : Part) (qs : List (List ℕ))
      → filter (is_of other part) (entries_of keys roll of qs) ≡ []
  none_of_other keys of part = none_of keys roll of (is_of other part)
      (λ tag. grind (arith, apart, same_roll-is other roll, same-itself roll))

-- ---- a roll's own entries

none_of_same : (roll : RollType) (part : Part) (es : List ListedKey)
    → filter (is_of roll part) (without_roll roll es) ≡ []
none_of_same roll part [] = refl
none_of_same roll part (e ∷ es) = grind (arith, none_of_same roll part es)

-- what a start lists as one part isn't of the other
none_of_part : (keys : Keys) (roll : RollType) (of part : Part) → same_part part of ≡ false
    → (qs : List (List ℕ)) → filter (is_of roll part) (entries_of keys roll of qs) ≡ []
none_of_part keys roll of part differs = none_of keys roll of (is_of roll part)
    (λ tag. and_right (same_roll roll roll) (same_part part of) differs)

module _ (keys : Keys) (differ : TagsApart keys) (roll : RollType) (part : Part)
    (itself : same_part part part ≡ true) where
  -- what a start lists are the references whose keys are not old
  references_of-listed : (qs : List (List ℕ))
      → references_of keys roll part (entries_of keys roll part qs)
      ≡ filter (has_kept_key keys) qs
  references_of-listed [] = refl
  references_of-listed (q ∷ qs) =
      grind (
        arith,
        same-itself roll,
        itself,
        reference_of-is keys differ q,
        references_of-listed qs,
      )

there-listed : (keys : Keys) (roll : RollType) (part : Part) (qs : List (List ℕ))
    → AreThere keys (entries_of keys roll part qs)
there-listed keys roll part [] = tt
there-listed keys roll part (q ∷ qs) = there-append keys (entry_of roll part (get keys q))
    (entries_of keys roll part qs) (some_or_none (λ o. AreThere keys (entry_of roll part o))
    (get keys q) (λ e. tt) (λ k is. cond_both (all_states is_kept k.keytype)
    (record { roll = roll; part = part; key_tag = k.key_tag } ∷ []) [] (AreThere keys)
    (λ t. ((q, k, is, refl), tt)) (λ t. tt))) (there-listed keys roll part qs)

-- ---- a start, and what takes it back

module _ (keys : Keys) (roll : RollType) where
  lists_of-put : (es fs : List ListedKey) (listed : Listed)
      → references_of keys roll Old fs ≡ listed.olds
      → references_of keys roll New fs ≡ listed.news
      → ((other : RollType) → same_roll roll other ≡ false → (part : Part)
      → filter (is_of other part) fs ≡ filter (is_of other part) es)
      → lists_of keys fs ≡ with_listed (lists_of keys es) roll listed
  lists_of-put es fs listed olds news others = λ i other. cond_both (same_roll roll other) listed
      (lists_of keys es other) (λ l. lists_of keys fs other ≡ l)
      (λ t. ap (lists_of keys fs) (sym (same_roll-is roll other t))
      ∙ (λ i. record { olds = olds i; news = news i }))
      (λ t. λ i. record {
        olds = names keys (others other t Old i);
        news = names keys (others other t New i);
      }) i

  -- nothing is kept for the roll any more
  pub lists_of-taken_out : (es : List ListedKey) → lists_of keys (without_roll roll es)
      ≡ with_listed (lists_of keys es) roll nothing_listed
  lists_of-taken_out es = lists_of-put es (without_roll roll es) nothing_listed
      (ap (names keys) (none_of_same roll Old es)) (ap (names keys) (none_of_same roll New es))
      (λ other t part. without_other roll other t part es)

  -- what a report leaves
  pub lists_of-reported : (half : Half) (es : List ListedKey)
      → lists_of keys (entries_after_report roll half es)
      ≡ lists_after_report roll half (lists_of keys es)
  lists_of-reported First es = lists_of-taken_out es
  lists_of-reported Second es = refl

  module _ (olds news : List (List ℕ)) where
    -- what a start lists, each new key being one that is not old
    pub lists_of-started : TagsApart keys → filter (has_kept_key keys) news ≡ news
        → (es : List ListedKey) → lists_of keys (entries_at_start keys roll olds news es)
        ≡ with_listed (lists_of keys es) roll (listed_at_start keys olds news)
    lists_of-started differ fresh es = lists_of-put es _ (listed_at_start keys olds news)
        (rw (
          filter-append,
          filter-append,
          none_of_same roll Old es,
          none_of_part keys roll New Old refl news,
          append-nil,
        )
        (references_of-listed keys differ roll Old refl olds))
        (rw (
          filter-append,
          filter-append,
          none_of_same roll New es,
          none_of_part keys roll Old New refl olds,
        )
        (references_of-listed keys differ roll New refl news ∙ fresh))
        (λ other t part. rw (
          filter-append,
          filter-append,
          without_other roll other t part es,
          none_of_other roll other t keys Old part olds,
          none_of_other roll other t keys New part news,
        ) (append-nil _ ∙ append-nil _))

    pub there-started : (es : List ListedKey) → AreThere keys es
        → AreThere keys (entries_at_start keys roll olds news es)
    there-started es there = there-append keys _ _
        (there-append keys _ _ (there-filter keys (λ e. not (is_of_roll roll e)) es there)
        (there-listed keys roll Old olds)) (there-listed keys roll New news)

-- ---- the new keys of a start are not old

-- if there is no cause among two, neither applies
pub none_of_both : (a b : Option Error) → option_or a b ≡ None → (a ≡ None) × (b ≡ None)
none_of_both None b h = (refl, h)
none_of_both (Some x) b h = cc

module _ (roll : RollType) (keys : Keys) (olds : List (List ℕ)) where
  accepted-kept : (o : Option KeyParts) (taken : Bool) → new_entry_fault roll o taken ≡ None
      → option_map_or (λ (k : KeyParts). all_states is_kept k.keytype) o false ≡ true
  accepted-kept o taken h = grind (arith, and_parts)

  pub news-kept : (earlier news : List (List ℕ))
      → new_fault roll (get keys) olds earlier news ≡ None
      → filter (has_kept_key keys) news ≡ news
  news-kept earlier [] none = refl
  news-kept earlier (q ∷ qs) none =
      let both = none_of_both _ _ none in
      grind (arith, accepted-kept (get keys q) _ both.0, news-kept (earlier ++ q ∷ []) qs both.1)
