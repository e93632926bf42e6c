-- Reports are by notes also of the network in which caches hold DS sets for so many seconds more as
-- validators keep their algorithms.
use Rattle.std.proofs.Common.{◌≡◌, ℕ, suc, ◌+◌, ◌*◌, ◌≤◌, Bool, true, false}
use Rattle.std.proofs.Common.{List, [], ◌∷◌, Option, None, Some, Ok, map, max}
use Rattle.std.proofs.Common.{refl, sym, ap, subst, ◌∙◌, arith, fold, if◌then◌else◌}
use Rattle.std.proofs.lemmas.Bool.{le-leb}
use Rattle.std.specs.Option.{is_none, ok_or}
use Rattle.std.specs.Prelude.{◌&&◌, nat_le, nat_lt, unwrap_or}
use Rattle.dnssec_key.specs.declared.roll.RollType.{RollType}
use Rattle.dnssec_run.specs.declared.caches.SetKind.{SetKind as Kind}
use Rattle.dnssec_run.specs.declared.caches.SetKind.TheVariants as code
use Rattle.dnssec_run.specs.Safe.{SetKind, Ds, Dnskey, ZoneSigners, kind_of, retires}
use Rattle.dnssec_network.specs.declared.fact.{Fact.Fact, News.News}
use Rattle.dnssec_network.specs.declared.fact.News.TheVariants.{Published, Everywhere}
use Rattle.dnssec_network.specs.Facts.{Before, AreTrue, AreTrueFrom, news_of, ttl_before}
use Rattle.dnssec_network.specs.Network.{Network}
use Rattle.dnssec_network.specs.Reports.{due, due_of, higher}
use Rattle.dnssec_network.specs.Spread.{after, due_for, expired_after, first_spread}
use Rattle.dnssec_network.specs.Spread.{known, seconds_left, seconds_until}
use Rattle.dnssec_policy.{specs.Kept.keeping, proofs.Dues.due-parts, proofs.Spreads.Spread}

-- ---- the same notes, with a higher TTL for each DS set

abbrev raise : ℕ → News → News
raise s (Published position ttl moment) = Published position (ttl + s) moment
raise s (Everywhere moment) = Everywhere moment

abbrev raise_of : ℕ → Kind → News → News
raise_of s code.Ds news = raise s news
raise_of s code.Dnskey news = news
raise_of s code.ZoneSigners news = news

abbrev pub kept_fact : ℕ → Fact → Fact
kept_fact s fact = record { kind = fact.kind; news = raise_of s fact.kind fact.news }

abbrev pub kept_before : ℕ → Before → Before
kept_before s b = record { ds = b.ds + s; dnskey = b.dnskey; zone = b.zone }

module _ (s : ℕ) where
  abbrev kept : List Fact → List Fact
  kept facts = map (kept_fact s) facts

  ds-one : (k : Kind) (news : News) (facts : List Fact)
      → news_of Ds (kept facts) ≡ map (raise s) (news_of Ds facts)
      → news_of Ds (kept (record { kind = k; news = news } ∷ facts))
      ≡ map (raise s) (news_of Ds (record { kind = k; news = news } ∷ facts))
  ds-one code.Ds news facts e = ap (λ (ns : List News). raise s news ∷ ns) e
  ds-one code.Dnskey news facts e = e
  ds-one code.ZoneSigners news facts e = e

  ds-news : (facts : List Fact) → news_of Ds (kept facts) ≡ map (raise s) (news_of Ds facts)
  ds-news [] = refl
  ds-news (fact ∷ facts) = ds-one fact.kind fact.news facts (ds-news facts)

  dnskey-news : (facts : List Fact) → news_of Dnskey (kept facts) ≡ news_of Dnskey facts
  dnskey-news [] = refl
  dnskey-news (fact ∷ facts) = grind (arith, dnskey-news facts)

  zone-news : (facts : List Fact) → news_of ZoneSigners (kept facts) ≡ news_of ZoneSigners facts
  zone-news [] = refl
  zone-news (fact ∷ facts) = grind (arith, zone-news facts)

  -- ---- they are true of that network

  module _ (network : Network) (time : ℕ) where
    ds-true : (n : ℕ) (news : List News) → AreTrueFrom network Ds time n news
        → AreTrueFrom (keeping s network) Ds time n (map (raise s) news)
    ds-true n [] are = are
    ds-true n (Published position ttl moment ∷ later) are =
        (are.0, omega (arith, are.1), are.2, ds-true (suc n) later are.3)
    ds-true n (Everywhere moment ∷ later) are = (are.0, ds-true n later are.1)

    -- of a kind whose TTLs stay
    others-true : (kind : SetKind) → (keeping s network).ttl kind ≡ network.ttl kind → (n : ℕ)
        (news : List News) → AreTrueFrom network kind time n news
        → AreTrueFrom (keeping s network) kind time n news
    others-true kind same n [] are = are
    others-true kind same n (Published position ttl moment ∷ later) are = (
      are.0,
      subst (λ (t : ℕ → ℕ). t (suc n) ≤ ttl) (sym same) are.1,
      are.2,
      others-true kind same (suc n) later are.3,
    )
    others-true kind same n (Everywhere moment ∷ later) are =
        (are.0, others-true kind same n later are.1)

    pub still-true : (before : Before) (facts : List Fact) → AreTrue before facts network time
        → AreTrue (kept_before s before) (kept facts) (keeping s network) time
    still-true before facts are Ds =
        let le = (are Ds).0 in (
          omega (arith, le),
          subst (AreTrueFrom (keeping s network) Ds time 0) (sym (ds-news facts))
              (ds-true 0 (news_of Ds facts) (are Ds).1),
        )
    still-true before facts are Dnskey = (
      (are Dnskey).0,
      subst (AreTrueFrom (keeping s network) Dnskey time 0) (sym (dnskey-news facts))
          (others-true Dnskey refl 0 (news_of Dnskey facts) (are Dnskey).1),
    )
    still-true before facts are ZoneSigners = (
      (are ZoneSigners).0,
      subst (AreTrueFrom (keeping s network) ZoneSigners time 0) (sym (zone-news facts))
          (others-true ZoneSigners refl 0 (news_of ZoneSigners facts) (are ZoneSigners).1),
    )

  -- ---- what is due by them

  abbrev raised : Option ℕ → Option ℕ
  raised None = None
  raised (Some ttl) = Some (ttl + s)

  abbrev higher-spread : ℕ → Spread → Spread
  higher-spread expired a = record {
    position = a.position;
    ttl = a.ttl + s;
    older = raised a.older;
    seen = a.seen;
    expired = expired;
  }

  abbrev Within : ℕ → Spread → Type 0
  Within expired a = expired ≤ a.expired + s * 1_000_000_000

  older-next : (ttl : ℕ) (o : Option ℕ) (t : Bool)
      → (if t then Some (max (unwrap_or (raised o) 0) (ttl + s)) else raised o)
      ≡ raised (if t then Some (max (unwrap_or o 0) ttl) else o)
  older-next ttl None true =
      let same : max 0 (ttl + s) ≡ max 0 ttl + s = omega arith in ap Some same
  older-next ttl (Some n) true =
      let same : max (n + s) (ttl + s) ≡ max n ttl + s = omega arith in ap Some same
  older-next ttl o false = refl

  expired-next : (moment : ℕ) (o : Option ℕ) (e x : ℕ) → e ≤ x + s * 1_000_000_000
      → expired_after moment (raised o) e ≤ expired_after moment o x + s * 1_000_000_000
  expired-next moment None e x le = le
  expired-next moment (Some ttl) e x le = omega (arith, le)

  spread-kept : (base : ℕ) (news : List News) (a : Spread) (e : ℕ) → Within e a
      → (d : ℕ) × (fold (after base) (higher-spread e a) (map (raise s) news)
      ≡ higher-spread d (fold (after base) a news)) × Within d (fold (after base) a news)
  spread-kept base [] a e le = (e, refl, le)
  spread-kept base (Published position ttl moment ∷ later) a e le =
      let next = after base a (Published position ttl moment) in
      let rest = spread-kept base later next e le in
      let same : after base (higher-spread e a) (Published position (ttl + s) moment)
      ≡ higher-spread e next =
      ap (λ (o : Option ℕ). record {
        position = position;
        ttl = ttl + s;
        older = o;
        seen = a.seen;
        expired = e;
      }) (older-next a.ttl a.older (nat_lt a.position base)) in
      (rest.0, ap (λ (b : Spread). fold (after base) b (map (raise s) later)) same ∙ rest.1, rest.2)
  spread-kept base (Everywhere moment ∷ later) a e le =
      spread-kept base later (after base a (Everywhere moment))
      (expired_after moment (raised a.older) e) (expired-next moment a.older e a.expired le)

  left-kept : (e x now : ℕ) → e ≤ x + s * 1_000_000_000
      → seconds_left e now ≤ seconds_left x now + s
  left-kept e x now le = omega (arith, le)

  module _ (now x : ℕ) (small : x + s ≤ 4_294_967_295) where
    left-due : (e end : ℕ) → e ≤ end + s * 1_000_000_000 → (t : Bool)
        → (if t then Some (seconds_left end now) else None) ≡ Some x
        → (y : ℕ) × (seconds_until e now ≡ Some y) × (y ≤ x + s)
    left-due e end le true is =
        let left : seconds_left end now ≡ x = cc in
        let less = left-kept e end now le in
        let fits : seconds_left e now ≤ 4_294_967_295 = omega (arith, left, less, small) in (
          seconds_left e now,
          rw (le-leb (seconds_left e now) 4_294_967_295 fits) refl,
          omega (arith, left, less),
        )
    left-due e end le false is = absurd (cc)

    still-none : (o : Option ℕ) → is_none (raised o) ≡ is_none o
    still-none None = refl
    still-none (Some ttl) = refl

    due-for : (base : ℕ) (a : Spread) (e : ℕ) → Within e a → due_for base a now ≡ Some x
        → (y : ℕ) × (due_for base (higher-spread e a) now ≡ Some y) × (y ≤ x + s)
    due-for base a e le is =
        let found = on (nat_le base a.position && is_none a.older && nat_le a.seen now) is in
        let same : due_for base (higher-spread e a) now
        ≡ (if nat_le base a.position && is_none a.older && nat_le a.seen now
        then seconds_until e now else None) =
        ap (λ (b : Bool). if nat_le base a.position && b && nat_le a.seen now
        then seconds_until e now else None) (still-none a.older) in
        (found.0, same ∙ found.1, found.2)
      where
        on : (t : Bool) → (if t then seconds_until a.expired now else None) ≡ Some x
            → (y : ℕ) × ((if t then seconds_until e now else None) ≡ Some y) × (y ≤ x + s)
        on true h = left-due e a.expired le
            (nat_le (seconds_left a.expired now) 4_294_967_295) h
        on false h = absurd (cc)

  some-due : (o : Option ℕ) (x : ℕ) → ok_or o code.Ds ≡ Ok x → o ≡ Some x
  some-due None x e = absurd (cc)
  some-due (Some n) x e = let same : n ≡ x = cc in ap Some same

  module _ (before : Before) (facts : List Fact) (now : ℕ) where
    ds-due : (t : Bool) (base x : ℕ) → (t ≡ true → x + s ≤ 4_294_967_295)
        → due_of before facts code.Ds t base now ≡ Ok x
        → (y : ℕ) × (due_of (kept_before s before) (kept facts) code.Ds t base now ≡ Ok y)
        × (y ≤ (if t then x + s else x))
    ds-due false base x small is = (x, is, omega arith)
    ds-due true base x small is =
        let a = known base before.ds (news_of Ds facts) in
        let found = spread-kept base (news_of Ds facts) (first_spread before.ds) 0 (omega arith) in
        let d = due-for now x (small refl) base a found.0 found.2
        (some-due (due_for base a now) x is) in
        let same : known base (before.ds + s) (news_of Ds (kept facts)) ≡ higher-spread found.0 a =
        ap (λ (ns : List News). known base (before.ds + s) ns) (ds-news facts) ∙ found.1 in (
          d.0,
          ap (λ (b : Spread). ok_or (due_for base b now) code.Ds) same
              ∙ ap (λ (o : Option ℕ). ok_or o code.Ds) d.1,
          d.2,
        )

    -- of a kind that is noted as before
    others-due : (kind : Kind)
        → ttl_before (kept_before s before) (kind_of kind) ≡ ttl_before before (kind_of kind)
        → news_of (kind_of kind) (kept facts) ≡ news_of (kind_of kind) facts
        → (t : Bool) (base : ℕ) → due_of (kept_before s before) (kept facts) kind t base now
        ≡ due_of before facts kind t base now
    others-due kind first news true base = λ i. ok_or
        (due_for base (known base (first i) (news i)) now) kind
    others-due kind first news false base = refl

    pub still-due : (roll : RollType) (second : Bool) (from : SetKind → ℕ) (least : ℕ)
        → (retires roll second Ds ≡ true → least + s ≤ 4_294_967_295)
        → due before facts roll second from now ≡ Ok least
        → (y : ℕ) × (due (kept_before s before) (kept facts) roll second from now ≡ Ok y)
        × (y ≤ (if retires roll second Ds then least + s else least))
    still-due roll second from least small is =
        let p = due-parts before facts roll second from now least is in
        let most = p.6 in
        let d = ds-due (retires roll second Ds) (from Ds) p.0
        (λ t. omega (arith, small t, most)) p.3 in
        let dnskey = others-due code.Dnskey refl (dnskey-news facts) (retires roll second Dnskey)
        (from Dnskey) ∙ p.4 in
        let zone = others-due code.ZoneSigners refl (zone-news facts)
        (retires roll second ZoneSigners) (from ZoneSigners) ∙ p.5 in
        let le = d.2 in (
          max (max d.0 p.1) p.2,
          (λ i. higher (higher (d.1 i) (dnskey i)) (zone i)),
          by (retires roll second Ds) d.0 p.0 p.1 p.2 most le,
        )
      where
        by : (t : Bool) (y x b c : ℕ) → max (max x b) c ≡ least → y ≤ (if t then x + s else x)
            → max (max y b) c ≤ (if t then least + s else least)
        by true y x b c most le = omega (arith, most, le)
        by false y x b c most le = omega (arith, most, le)
