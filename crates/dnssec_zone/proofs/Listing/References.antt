-- The references that the entries mean, as keys come, go and change.
use Rattle.std.proofs.Common.{◌≡◌, ℕ, Bool, true, false, not, List, [], ◌∷◌, ◌++◌, map, Some, None}
use Rattle.std.proofs.Common.{refl, sym, ap, ◌∙◌, arith, Bor, ◌+◌, ◌<◌, length, take, get_or}
use Rattle.dnssec_zone.specs.Inner.Entries.{is_of, without_tag, entry_of, entries_of}
use Rattle.dnssec_zone.specs.Inner.Entries.{first_with, reference_of, lists_of}
use Rattle.dnssec_zone.proofs.Tags.{apart-mapped, apart-added, apart-removed, there-mapped}
use Rattle.std.proofs.lemmas.Bool.Decides.{nat_tests}
use Rattle.std.proofs.lemmas.List.{append-nil, append_assoc}
use Rattle.std.specs.Prelude.{T, nat_eq, filter, if◌then◌else◌, ◌&&◌}
use Rattle.std.specs.FinMap.{find, entries, get, get-entries, entries_sorted}
use Rattle.std.specs.Cmp.Lexicographic.{slice_cmp, bytes_decides}
use Rattle.std.specs.{Option.option_map, Str.bytes_eq, Ordering.nat_cmp, FinMap.Entries.is_sorted}
use Rattle.std.specs.List.{list_any}
use Rattle.dnssec_key.specs.{declared.roll.RollType.RollType, Key.KeyParts}
use Rattle.dnssec_zone.specs.Inner.Entries.{IsThere, AreThere, EntriesAgree}
use Rattle.dnssec_zone.specs.{Keys.Keys, Keys.TagsApart, Keys.has_tag, Lists.without, Lists.others}
use Rattle.dnssec_zone.specs.declared.rolls.{ListedKey.ListedKey, Part.Part, Part.TheVariants.Old}
use Rattle.dnssec_zone.specs.declared.rolls.Part.TheVariants.{New}
use Rattle.dnssec_zone.specs.{Start.is_listed, Start.texts}
use Rattle.dnssec_zone.proofs.{Tags.there-removed, Quantified.here-found, Quantified.later-found}
use Rattle.dnssec_zone.proofs.{Quantified.same_key, Quantified.second, Marks.texts-more}

-- one reference more
pub entries_of-more : (keys : Keys) (roll : RollType) (part : Part) (qs : List (List ℕ))
    (q : List ℕ) → entries_of keys roll part (qs ++ q ∷ [])
    ≡ entries_of keys roll part qs ++ entry_of roll part (get keys q)
entries_of-more keys roll part [] q = append-nil _
entries_of-more keys roll part (p ∷ qs) q = rw (entries_of-more keys roll part qs q, append_assoc)

-- and the one at i of a caller's list, after those before it
pub entries_of-at : (keys : Keys) (roll : RollType) (part : Part) (rs : List (Bor (List ℕ))) (i : ℕ)
    (d : Bor (List ℕ)) → i < length rs → entries_of keys roll part (texts (take (i + 1) rs))
    ≡ entries_of keys roll part (texts (take i rs)) ++ entry_of roll part
    (get keys (get_or rs i d).now)
entries_of-at keys roll part rs i d h = ap (entries_of keys roll part) (texts-more rs i d h)
    ∙ entries_of-more keys roll part (texts (take i rs)) (get_or rs i d).now

-- the references that entries mean
abbrev pub names : Keys → List ListedKey → List (List ℕ)
names keys = map (λ (e : ListedKey). reference_of keys e.key_tag)

-- ---- the reference of a tag

-- the first key with a tag is there, and has it
first_found : (tag : ℕ) (es : List (List ℕ × KeyParts)) → T (is_sorted (slice_cmp nat_cmp) es)
    → (q : List ℕ) (k : KeyParts) → find (slice_cmp nat_cmp) q es ≡ Some k → k.key_tag ≡ tag
    → option_map (λ (l : KeyParts). l.key_tag) (find (slice_cmp nat_cmp) (first_with tag es) es)
    ≡ Some tag
first_found tag [] s q k f is = cc
first_found tag (e ∷ es) s q k f is = grind (
  arith,
  nat_tests,
  same_key,
  second,
  here-found e es,
  later-found e es s,
  first_found tag es,
)

-- a key's tag has its reference
pub reference_of-is : (keys : Keys) → TagsApart keys → (q : List ℕ) (k : KeyParts)
    → get keys q ≡ Some k → reference_of keys k.key_tag ≡ q
reference_of-is keys differ q k found =
    let one = first_found k.key_tag (entries keys) (entries_sorted keys) q k
    (sym (get-entries keys q) ∙ found) refl in
    grind (
      arith,
      one,
      found,
      get-entries keys (reference_of keys k.key_tag),
      differ (reference_of keys k.key_tag) q,
    )

module _ (keys : Keys) (differ : TagsApart keys) (q : List ℕ) (k : KeyParts)
    (found : get keys q ≡ Some k) where
  -- a tag that is there is the key's if and only if its reference is the key's
  same_tag-is : (tag : ℕ) → IsThere keys tag → nat_eq tag k.key_tag
      ≡ bytes_eq q (reference_of keys tag)
  same_tag-is tag there =
      let is : reference_of keys tag ≡ there.0 =
      ap (reference_of keys) (sym there.3) ∙ reference_of-is keys differ there.0 there.1 there.2 in
      grind (arith, bytes_decides, nat_tests, is, differ there.0 q there.1 k there.2 found)

  -- an entry that passes has the key's tag if and only if its reference is listed
  pub has_entry-is : (p : ListedKey → Bool) (es : List ListedKey) → AreThere keys es
      → list_any (λ e. p e && nat_eq e.key_tag k.key_tag) es
      ≡ is_listed (names keys (filter p es)) q
  has_entry-is p [] there = refl
  has_entry-is p (e ∷ es) there =
      grind (arith, same_tag-is e.key_tag there.0, has_entry-is p es there.1)

  -- what is left without its tag are the other references
  pub others-is : (p : ListedKey → Bool) (es : List ListedKey) → AreThere keys es
      → names keys (filter p (without_tag k.key_tag es)) ≡ others q (names keys (filter p es))
  others-is p [] there = refl
  others-is p (e ∷ es) there = grind (arith, same_tag-is e.key_tag there.0, others-is p es there.1)

-- ---- the lists that are meant

-- a list is cut, and each entry is of a key, of the same set or another
there-cut : (old new : Keys) (p : ListedKey → Bool)
    → ((e : ListedKey) → p e ≡ true → IsThere old e.key_tag → IsThere new e.key_tag)
    → (es : List ListedKey) → AreThere old es → AreThere new (filter p es)
there-cut old new p stays [] there = tt
there-cut old new p stays (e ∷ es) there = grind (arith, stays e, there-cut old new p stays es)

pub there-filter : (keys : Keys) (p : ListedKey → Bool) (es : List ListedKey) → AreThere keys es
    → AreThere keys (filter p es)
there-filter keys p = there-cut keys keys p (λ e t there. there)

pub there-append : (keys : Keys) (es fs : List ListedKey) → AreThere keys es → AreThere keys fs
    → AreThere keys (es ++ fs)
there-append keys [] fs one two = two
there-append keys (e ∷ es) fs one two = (one.0, there-append keys es fs one.1 two)

-- the keys of one set are in another too, under their references and with their tags
module _ (some all : Keys) (differ : TagsApart some) (apart : TagsApart all)
    (within : (tag : ℕ) → (o : IsThere some tag)
    → (l : KeyParts) × (get all o.0 ≡ Some l) × (l.key_tag ≡ tag)) where
  there-within : (es : List ListedKey) → AreThere some es → AreThere all es
  there-within [] there = tt
  there-within (e ∷ es) there = let l = within e.key_tag there.0 in
      ((there.0.0, l.0, l.1, l.2), there-within es there.1)

  reference_of-within : (tag : ℕ) → IsThere some tag → reference_of all tag ≡ reference_of some tag
  reference_of-within tag o =
      let l = within tag o in
      ap (reference_of all) (sym l.2) ∙ reference_of-is all apart o.0 l.0 l.1
      ∙ sym (ap (reference_of some) (sym o.3) ∙ reference_of-is some differ o.0 o.1 o.2)

  lists_of-within : (es : List ListedKey) → AreThere some es → lists_of all es ≡ lists_of some es
  lists_of-within es there = λ i roll. record {
    olds = same (is_of roll Old) es there i;
    news = same (is_of roll New) es there i;
  }
    where
      same : (p : ListedKey → Bool) (es : List ListedKey) → AreThere some es
          → names all (filter p es) ≡ names some (filter p es)
      same p [] there = refl
      same p (e ∷ es) there =
          grind (arith, reference_of-within e.key_tag there.0, same p es there.1)

-- what is kept afterwards, and means the same
abbrev pub MeansTheSame : Keys → Keys → List ListedKey → Type 0
MeansTheSame old new es = EntriesAgree new es × (lists_of new es ≡ lists_of old es)

means-within : (old new : Keys) (es : List ListedKey) → EntriesAgree old es → TagsApart new
    → ((tag : ℕ) → (o : IsThere old tag) → (l : KeyParts) × (get new o.0 ≡ Some l)
    × (l.key_tag ≡ tag)) → MeansTheSame old new es
means-within old new es agree apart within = (
  record { apart = apart; there = there-within old new agree.apart apart within es agree.there },
  lists_of-within old new agree.apart apart within es agree.there,
)

-- keys are changed, and keep their tags
pub means-mapped : (f : List ℕ → KeyParts → KeyParts) → ((q : List ℕ) (k : KeyParts)
    → (f q k).key_tag ≡ k.key_tag) → (old new : Keys)
    → ((q : List ℕ) → get new q ≡ option_map (f q) (get old q)) → (es : List ListedKey)
    → EntriesAgree old es → MeansTheSame old new es
means-mapped f keeps old new is es agree = means-within old new es agree
    (apart-mapped old new f keeps is agree.apart) (there-mapped old new f keeps is)

-- another key comes in, with another tag
pub means-added : (old new : Keys) (r : List ℕ) (x : KeyParts) → get old r ≡ None
    → has_tag x.key_tag old ≡ false
    → ((q : List ℕ) → get new q ≡ (if bytes_eq r q then Some x else get old q))
    → (es : List ListedKey) → EntriesAgree old es → MeansTheSame old new es
means-added old new r x absent free is es agree = means-within old new es agree
    (apart-added old new r x absent is free agree.apart)
    (λ tag o. (o.1, grind (arith, bytes_decides, absent, is o.0, o.2), o.3))

-- the key at r is forgotten
module _ (keys : Keys) (es : List ListedKey) (agree : EntriesAgree keys es) (r : List ℕ)
    (x : KeyParts) (found : get keys r ≡ Some x) where
  lists_of-forgotten : lists_of keys (without_tag x.key_tag es) ≡ without r (lists_of keys es)
  lists_of-forgotten = λ i roll. record {
    olds = others-is keys agree.apart r x found (is_of roll Old) es agree.there i;
    news = others-is keys agree.apart r x found (is_of roll New) es agree.there i;
  }

  -- though it stays
  pub forgotten : EntriesAgree keys (without_tag x.key_tag es)
      × (lists_of keys (without_tag x.key_tag es) ≡ without r (lists_of keys es))
  forgotten = (
    record {
      apart = agree.apart;
      there = there-filter keys (λ e. not (nat_eq e.key_tag x.key_tag)) es agree.there;
    },
    lists_of-forgotten,
  )

  -- as it is gone
  pub means-removed : (new : Keys)
      → ((q : List ℕ) → get new q ≡ (if bytes_eq r q then None else get keys q))
      → EntriesAgree new (without_tag x.key_tag es)
      × (lists_of new (without_tag x.key_tag es) ≡ without r (lists_of keys es))
  means-removed new is =
      let apart : TagsApart new = apart-removed keys new r is agree.apart in
      let there : AreThere new (without_tag x.key_tag es) =
      there-cut keys new (λ e. not (nat_eq e.key_tag x.key_tag)) stays es agree.there in (
        record { apart = apart; there = there },
        sym (lists_of-within new keys apart agree.apart
            (λ tag o. (o.1, grind (arith, is o.0, o.2), o.3)) _ there)
            ∙ lists_of-forgotten,
      )
    where
      stays : (e : ListedKey) → not (nat_eq e.key_tag x.key_tag) ≡ true → IsThere keys e.key_tag
          → IsThere new e.key_tag
      stays e other o =
          (o.0, o.1, there-removed keys new r is x found _ (grind (arith, nat_tests)) o, o.3)
