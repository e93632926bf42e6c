-- A report with a lower TTL than the one that is due may be false: a network in which it is.
-- The sight that decides which TTL is due comes first, and the older version that servers may have
-- given until then.
use Rattle.std.proofs.Common.{Bool, List, None, Option, Result, Some, [], ap, arith, false, inl}
use Rattle.std.proofs.Common.{inr, refl, subst, suc, sym, true, zero, ℕ, ◌*◌, ◌+◌, ◌<◌, ◌∙◌, ◌∷◌}
use Rattle.std.proofs.Common.{◌≡◌, ◌≤◌, ◌⊎◌}
use Rattle.std.proofs.lemmas.{Bool.cases_lt, Option.none-some}
use Rattle.std.specs.Prelude.{fold, if◌then◌else◌, max, min, nat_lt, ◌-◌}
use Rattle.dnssec_key.specs.declared.roll.RollType.{RollType}
use Rattle.dnssec_run.specs.Safe.{SetKind, kind_of, retires}
use Rattle.dnssec_run.specs.declared.caches.SetKind.{SetKind as Kind}
use Rattle.dnssec_network.proofs.Noted.{HasTtl, due-for, some-due}
use Rattle.dnssec_network.specs.Facts.{Before, AreTrue, AreTrueFrom, news_of, ttl_before}
use Rattle.dnssec_network.specs.Least.{ComeInOrder, MayBeFalse}
use Rattle.dnssec_network.specs.Network.{Network, NeverGoesBack}
use Rattle.dnssec_network.specs.{Notes.first_newest, Reports.due_of, Reports.higher, Spread.after}
use Rattle.dnssec_network.specs.Spread.{due_for, expired_after, first_spread, known, end_of}
use Rattle.dnssec_network.specs.declared.fact.{Fact.Fact, News.News}
use Rattle.dnssec_network.specs.declared.fact.News.TheVariants.{Everywhere, Published}
use Rattle.dnssec_network.specs.declared.{progress.Newest.Newest, spread.Spread.Spread}
use Rattle.dnssec_run.specs.declared.caches.SetKind.TheVariants as code
use Rattle.dnssec_network.proofs.chain.least_ttl_is_due.Goals as goal

-- ---- the versions that are noted

-- position and TTL of the version that comes k after the newest, which has these
abbrev noted : ℕ × ℕ → List News → ℕ → ℕ × ℕ
noted now [] k = now
noted now (Published position ttl moment ∷ later) zero = now
noted now (Published position ttl moment ∷ later) (suc k) = noted (position, ttl) later k
noted now (Everywhere moment ∷ later) k = noted now later k

noted-now : (now : ℕ × ℕ) (news : List News) → noted now news 0 ≡ now
noted-now now [] = refl
noted-now now (Published position ttl moment ∷ later) = refl
noted-now now (Everywhere moment ∷ later) = noted-now now later

-- the newest version that is published at a time, after version n
abbrev reached : ℕ → List News → ℕ → ℕ
reached n [] time = n
reached n (Published position ttl moment ∷ later) time =
    if nat_lt time moment then n else reached (suc n) later time
reached n (Everywhere moment ∷ later) time = reached n later time

at-least : (n : ℕ) (news : List News) (time : ℕ) → n ≤ reached n news time
at-least n [] time = omega arith
at-least n (Everywhere moment ∷ later) time = at-least n later time
at-least n (Published position ttl moment ∷ later) time = grind (arith, at-least (suc n) later time)

-- no version is published before one that precedes it
rises : (n : ℕ) (news : List News) (early late : ℕ) → early ≤ late
    → reached n news early ≤ reached n news late
rises n [] early late le = omega arith
rises n (Everywhere moment ∷ later) early late le = rises n later early late le
rises n (Published position ttl moment ∷ later) early late le =
    grind (arith, rises (suc n) later early late le, at-least (suc n) later late)

-- ---- positions don't go back

none-falls : (base : ℕ) (now : ℕ × ℕ) (newest : Newest) (news : List News)
    → ComeInOrder base now.0 newest news → (j k : ℕ) → j ≤ k
    → base ≤ (noted now news j).0 → base ≤ (noted now news k).0
none-falls base now newest [] order j k le h = h
none-falls base now newest (Published position ttl moment ∷ later) order zero zero le h = h
none-falls base now newest (Published position ttl moment ∷ later) order zero (suc k) le h =
    let first = noted-now (position, ttl) later in
    grind (arith, none-falls base (position, ttl) _ later order.2 0 k, first, order.1)
none-falls base now newest (Published position ttl moment ∷ later) order (suc j) zero le h =
    absurd (omega arith)
none-falls base now newest (Published position ttl moment ∷ later) order (suc j) (suc k) le h =
    none-falls base (position, ttl) _ later order.2 j k (omega arith) h
none-falls base now newest (Everywhere moment ∷ later) order j k le h =
    none-falls base now _ later order.2 j k le h

-- ---- the sights before a time are of versions up to v

abbrev Clear : ℕ → ℕ → ℕ → List News → Type 0
Clear e v n [] = Unit {0}
Clear e v n (Published position ttl moment ∷ later) = Clear e v (suc n) later
Clear e v n (Everywhere moment ∷ later) = (moment < e → n ≤ v) × Clear e v n later

-- if there are none before it
clear-later : (base last e v n : ℕ) (newest : Newest) (news : List News)
    → ComeInOrder base last newest news → e ≤ newest.seen → Clear e v n news
clear-later base last e v n newest [] order le = tt
clear-later base last e v n newest (Published position ttl moment ∷ later) order le =
    clear-later base position e v (suc n) _ later order.2 le
clear-later base last e v n newest (Everywhere moment ∷ later) order le =
    grind (arith, order.1, clear-later base last e v n _ later order.2)

-- ---- a sight from which on older versions expire last

-- the versions from number n on are those of the news
abbrev Has : (ℕ → ℕ × ℕ) → ℕ → ℕ × ℕ → List News → Type 0
Has version n now news = (m k : ℕ) → m ≡ n + k → version m ≡ noted now news k

-- what is published follows the news, once the newest version of before is published
abbrev Follows : (ℕ → ℕ) → ℕ → ℕ → List News → Type 0
Follows whole n published news = (time : ℕ) → (whole time ≤ reached n news time)
    × (published ≤ time → whole time ≡ reached n news time)

has-next : (version : ℕ → ℕ × ℕ) (n at lives moment : ℕ) (now : ℕ × ℕ) (later : List News)
    → Has version n now (Published at lives moment ∷ later)
    → Has version (suc n) (at, lives) later × version (suc n) ≡ (at, lives)
has-next version n at lives moment now later has =
    (λ m k e. has m (suc k) (omega arith), has (suc n) 1 (omega arith) ∙ noted-now _ later)

follows-on : (whole : ℕ → ℕ) (n published at lives moment : ℕ) (later : List News)
    → published ≤ moment → Follows whole n published (Published at lives moment ∷ later)
    → Follows whole (suc n) moment later
follows-on whole n published at lives moment later le follows time =
    grind (arith, follows time, at-least (suc n) later time)

-- the second from which it is expired rises only to the end of the TTL that is noted
risen : (moment expired : ℕ) (o : Option ℕ) → (expired_after moment o expired ≡ expired)
    ⊎ ((ttl : ℕ) × (o ≡ Some ttl) × (expired_after moment o expired ≡ end_of moment ttl))
risen moment expired None = inl refl
risen moment expired (Some ttl) = elim (cases_lt expired (end_of moment ttl)) [
  | inl more ↦ inr (ttl, refl, omega (arith, more))
  | inr less ↦ inl (omega (arith, less))
]

module _ (version : ℕ → ℕ × ℕ) (whole : ℕ → ℕ) (base : ℕ) where
  -- an older version that servers may still give has the TTL that is noted; number `first` was the
  -- newest when all were last seen to give it
  abbrev Older : ℕ → ℕ → Option ℕ → Type 0
  Older n first o = (m : ℕ) → o ≡ Some m
      → (v : ℕ) × (v < n) × ((version v).0 < base) × ((version v).1 ≡ m) × (first ≤ v)

  -- at e all servers had left version v, from which on it expires last
  abbrev ExpiresLast : ℕ → ℕ → ℕ → Type 0
  ExpiresLast v e expired = ((version v).0 < base) × (expired ≡ end_of e (version v).1)
      × (0 < e) × (v ≤ whole (e - 1))

  -- so it is if more is expired than before
  abbrev Decides : ℕ → ℕ → List News → ℕ → ℕ → Type 0
  Decides n first news before expired = (v : ℕ) × (e : ℕ) × Clear e v n news × (first ≤ v)
      × ((expired ≡ before) ⊎ ExpiresLast v e expired)

  decided : (n first : ℕ) (newest : Newest) (s : Spread) (news : List News)
      → Has version n (s.position, s.ttl) news → first ≤ n → Older n first s.older
      → ComeInOrder base s.position newest news → Follows whole n newest.published news
      → Decides n first news s.expired (fold (after base) s news).expired
  decided n first newest s [] has low older order follows = (n, 0, tt, low, inl refl)
  decided n first newest s (Published at lives moment ∷ later) has low older order follows =
      let is : version n ≡ (s.position, s.ttl) = has n 0 (omega arith) in
      let next = has-next version n at lives moment (s.position, s.ttl) later has in
      decided (suc n) first _ (after base s (Published at lives moment)) later next.0
      (omega (arith, low))
      (λ m e.
      let was : (s.older ≡ Some m) ⊎ ((s.position < base) × (s.ttl ≡ m)) = grind (arith, e) in
      elim was [
        | inl old ↦ let o = older m old in (o.0, omega (arith, o.1), o.2, o.3, o.4)
        | inr newly ↦ (n, omega arith, rw is newly.0, rw is newly.1, low)
      ]) order.2 (follows-on whole n newest.published at lives moment later order.0 follows)
  decided n first newest s (Everywhere moment ∷ later) has low older order follows =
      let d = decided n n _ (after base s (Everywhere moment)) later has (omega arith)
      (λ m e. absurd (none-some m e)) order.2 follows in
      let last : ℕ = (fold (after base) s (Everywhere moment ∷ later)).expired in
      let stays : (last ≡ s.expired) ⊎ ExpiresLast d.0 d.1 last
      → Decides n first (Everywhere moment ∷ later) s.expired last =
      λ h. (d.0, d.1, (λ lt. d.3, d.2), omega (arith, low, d.3), h) in
      elim d.4 [
        | inl same ↦ elim (risen moment s.expired s.older) [
          | inl kept ↦ stays (inl (same ∙ kept))
          | inr rose ↦
              let o = older rose.0 rose.1 in
              let more = at-least n (Everywhere moment ∷ later) (moment - 1) in
              let is = (follows (moment - 1)).1 (omega (arith, order.0)) in
              let clear = clear-later base s.position moment o.0 n _ later order.2 (omega arith) in
              let ends = same ∙ rose.2 ∙ ap (λ ttl. end_of moment ttl) (sym o.3) in (
                o.0,
                moment,
                (λ lt. absurd (omega (arith, lt)), clear),
                o.4,
                inr (o.2, ends, omega (arith, order.0), omega (arith, o.1, is, more)),
              )
        ]
        | inr last ↦ stays (inr last)
      ]

-- ---- a network in which that version is given up to just before that sight

-- the version that is given at a time: none after v before the time e
abbrev capped : ℕ → ℕ → ℕ → ℕ → ℕ
capped v e whole time = if nat_lt time e then min whole v else whole

module _ (network : Network) (kind : SetKind) (base v e : ℕ) (whole : ℕ → ℕ)
    (given : (server time : ℕ) → network.version kind server time ≡ capped v e (whole time) time)
  where
    -- position and TTL of a version
    abbrev version : ℕ → ℕ × ℕ
    version m = (network.position kind m, network.ttl kind m)

    -- the news are true of versions that are given so
    are-true : (until last n : ℕ) (now : ℕ × ℕ) (newest : Newest) (news : List News)
        → Has version n now news → ComeInOrder base last newest news
        → Follows whole n newest.published news → Clear e v n news
        → AreTrueFrom network kind until n news
    are-true until last n now newest [] has order follows clear = tt
    are-true until last n now newest (Published at lives moment ∷ later) has order follows clear =
        let next = has-next version n at lives moment now later has in
        let ttl = ap (λ (p : ℕ × ℕ). p.1) next.1 in (
          ap (λ (p : ℕ × ℕ). p.0) next.1,
          omega (arith, ttl),
          (λ server time serves by lt. grind (arith, given server time, (follows time).0)),
          are-true until at (suc n) (at, lives) _ later next.0 order.2
              (follows-on whole n newest.published at lives moment later order.0 follows) clear,
        )
    are-true until last n now newest (Everywhere moment ∷ later) has order follows clear =
        let whole_is = (follows moment).1 in
        let more = at-least n (Everywhere moment ∷ later) moment in (
          (λ server serves by.
              grind (arith, given server moment, whole_is, order.0, more, clear.0)),
          are-true until last n now _ later has order.2 follows clear.1,
        )

module _ (before : Before) (facts : List Fact) (from : SetKind → ℕ)
    (order : (kind : SetKind) → ComeInOrder (from kind) 0 first_newest (news_of kind facts)) where
  -- position and TTL of each version
  abbrev version_of : SetKind → ℕ → ℕ × ℕ
  version_of kind = noted (0, ttl_before before kind) (news_of kind facts)

  abbrev whole_of : SetKind → ℕ → ℕ
  whole_of kind time = reached 0 (news_of kind facts) time

  has-all : (kind : SetKind)
      → Has (version_of kind) 0 (0, ttl_before before kind) (news_of kind facts)
  has-all kind m k e =
      let same : m ≡ k = omega (arith, e) in
      ap (version_of kind) same

  follows-all : (kind : SetKind) → Follows (whole_of kind) 0 0 (news_of kind facts)
  follows-all kind time = (omega arith, λ from. refl)

  -- the version of a kind that is given last, and until when
  decides : (kind : SetKind) → Decides (version_of kind) (whole_of kind) (from kind) 0 0
      (news_of kind facts) 0
      (known (from kind) (ttl_before before kind) (news_of kind facts)).expired
  decides kind = decided (version_of kind) (whole_of kind) (from kind) 0 0 first_newest
      (first_spread (ttl_before before kind)) (news_of kind facts) (has-all kind) (omega arith)
      (λ m none. absurd (none-some m none)) (order kind) (follows-all kind)

  abbrev slowest : Network
  slowest = record {
    made = λ n. 0;
    start = 0;
    first = 0;
    inception = λ kind m. 0;
    expiration = λ kind m. 0;
    servers = λ kind. 1;
    version = λ kind server time. capped (decides kind).0 (decides kind).1 (whole_of kind time)
        time;
    position = λ kind m. (version_of kind m).0;
    ttl = λ kind m. (version_of kind m).1;
  }

  all-true : (until : ℕ) → AreTrue before facts slowest until
  all-true until kind = (
    rw (noted-now (0, ttl_before before kind) (news_of kind facts)) (omega arith),
    are-true slowest kind (from kind) (decides kind).0 (decides kind).1 (whole_of kind)
        (λ server time. refl) until 0 0 (0, ttl_before before kind) first_newest
        (news_of kind facts) (has-all kind) (order kind) (follows-all kind) (decides kind).2,
  )

  goes-not-back : (kind : SetKind) (until : ℕ) → NeverGoesBack slowest kind (from kind) until
  goes-not-back kind until = record {
    servers = λ server early late serves le by.
        grind (arith, rises 0 (news_of kind facts) early late le);
    versions = λ v w t le by given. none-falls (from kind) (0, ttl_before before kind) first_newest
        (news_of kind facts) (order kind) v w le;
  }

  -- if a report with a TTL of less is too short for a kind
  may-be-false : (roll : RollType) (second : Bool) (kind : Kind) (speaks : Bool) (now less : ℕ)
      → retires roll second (kind_of kind) ≡ speaks
      → HasTtl (λ ttl. less < ttl) (due_of before facts kind speaks (from (kind_of kind)) now)
      → MayBeFalse before facts roll second from now less
  may-be-false roll second kind false now less speaks lt = absurd (omega (arith, lt))
  may-be-false roll second kind true now less speaks more =
      let of : SetKind = kind_of kind in
      let base : ℕ = from of in
      let s : Spread = known base (ttl_before before of) (news_of of facts) in
      let ttl = some-due (λ ttl. less < ttl) kind (due_for base s now) more in
      let left = (due-for base s now ttl.0 ttl.1).3 in
      let d = decides of in
      elim d.4 [
        | inl none ↦ absurd (omega (arith, left, ttl.2, none))
        | inr last ↦ record {
          network = slowest;
          are_true = all-true;
          kind = of;
          speaks = speaks;
          back = goes-not-back of;
          v = d.0;
          time = max (now + less * 1_000_000_000) (d.1 - 1);
          over = omega arith;
          held = record {
            since = d.1 - 1;
            given = (0, omega arith, grind (arith, last.2, last.3));
            got = omega arith;
            lasts = omega (arith, left, ttl.2, last.1, last.2);
          };
          older = last.0;
        }
      ]

-- the highest of three TTLs is one of them
one-of : (less : ℕ) (a b c : Result ℕ Kind) → HasTtl (λ ttl. less < ttl) (higher (higher a b) c)
    → HasTtl (λ ttl. less < ttl) a ⊎ HasTtl (λ ttl. less < ttl) b ⊎ HasTtl (λ ttl. less < ttl) c
one-of less a b c lt = grind arith

pub returns : goal.returns
returns c before facts roll second from moment ttl less order e lt =
    let part : Kind → Result ℕ Kind = λ kind.
    due_of before facts kind (retires roll second (kind_of kind)) (from (kind_of kind)) moment in
    let of : (kind : Kind) → HasTtl (λ ttl. less < ttl) (part kind)
    → MayBeFalse before facts roll second from moment less = λ kind more.
    may-be-false before facts from order roll second kind (retires roll second (kind_of kind))
    moment less refl more in
    elim (one-of less (part code.Ds) (part code.Dnskey) (part code.ZoneSigners)
    (subst (HasTtl (λ ttl. less < ttl)) (sym e) lt)) [
      | inl ds ↦ of code.Ds ds
      | inr others ↦ elim others [
        | inl dnskey ↦ of code.Dnskey dnskey
        | inr zone ↦ of code.ZoneSigners zone
      ]
    ]
