-- Prompt servers, and notes of what they give, meet all premises.
use Rattle.std.proofs.Common.{Bool, List, None, Ok, Option, Some, [], ap, arith, false, length}
use Rattle.std.proofs.Common.{refl, subst, suc, sym, true, zero, ℕ, ◌+◌, ◌<◌, ◌∷◌, ◌∙◌, ◌≡◌, ◌≤◌}
use Rattle.std.specs.{Option.ok_or, Prelude.fold, Prelude.max, Prelude.◌-◌}
use Rattle.dnssec_key.specs.declared.roll.RollType.{RollType}
use Rattle.dnssec_run.proofs.{Chain.History.base-lies-below, Since.origin-le}
use Rattle.dnssec_run.specs.Origins.{origin}
use Rattle.dnssec_run.specs.Safe.{Dnskey, Ds, SetKind, ZoneSigners, kind_of, retires}
use Rattle.dnssec_run.specs.declared.record.Entry.{Entry}
use Rattle.dnssec_run.specs.declared.caches.SetKind.{SetKind as Kind}
use Rattle.dnssec_run.specs.declared.caches.SetKind.TheVariants as code
use Rattle.dnssec_network.proofs.{Held.report-within, Noted.noted_reports}
use Rattle.dnssec_network.specs.Facts.{Before, AreTrueFrom, news_of, ttl_before}
use Rattle.dnssec_network.specs.Models.{IsByTheClock, NoTtlBelow, PremisesCanBeMet, made_since}
use Rattle.dnssec_network.specs.{Models.prompt, Reports.higher}
use Rattle.dnssec_network.specs.Network.{IsNetworkOf, Network, NoneLiesAhead, ReportsAreTrue}
use Rattle.dnssec_network.specs.Reports.{NoneGoesBack, ReportsAreByNotes, due, due_of}
use Rattle.dnssec_network.specs.Spread.{after, due_for, end_of, first_spread, known, seconds_left}
use Rattle.dnssec_network.specs.Validity.{IsRenewed}
use Rattle.dnssec_network.specs.declared.fact.{Fact.Fact, News.News}
use Rattle.dnssec_network.specs.declared.fact.News.TheVariants.{Everywhere, Published}
use Rattle.dnssec_network.specs.declared.spread.Spread.{Spread}

module _ (first start ttl : ℕ) where
  -- ---- what is noted: each position from p on, m of them, is everywhere once it is published

  news_from : ℕ → ℕ → List News
  news_from p zero = []
  news_from p (suc m) = Published p ttl (made_since first start p)
      ∷ Everywhere (made_since first start p) ∷ news_from (suc p) m

  abbrev fact : Kind → News → Fact
  fact kind news = record { kind = kind; news = news }

  facts_from : ℕ → ℕ → List Fact
  facts_from p zero = []
  facts_from p (suc m) = fact code.Ds (Published p ttl (made_since first start p))
      ∷ fact code.Ds (Everywhere (made_since first start p))
      ∷ fact code.Dnskey (Published p ttl (made_since first start p))
      ∷ fact code.Dnskey (Everywhere (made_since first start p))
      ∷ fact code.ZoneSigners (Published p ttl (made_since first start p))
      ∷ fact code.ZoneSigners (Everywhere (made_since first start p))
      ∷ facts_from (suc p) m

  -- of each kind the same
  news-of : (kind : SetKind) (p m : ℕ) → news_of kind (facts_from p m) ≡ news_from p m
  unfolding facts_from news_from
  news-of kind p zero = refl
  news-of Ds p (suc m) = grind (arith, news-of Ds (suc p) m)
  news-of Dnskey p (suc m) = grind (arith, news-of Dnskey (suc p) m)
  news-of ZoneSigners p (suc m) = grind (arith, news-of ZoneSigners (suc p) m)

  -- ---- that is true

  module _ (time : ℕ) (entries : List Entry) (within : first ≤ length entries) where
    news-true : (kind : SetKind) (k p m : ℕ) → first + k ≡ p → p + m ≤ suc (length entries)
        → AreTrueFrom (prompt first start ttl time (length entries)) kind time k (news_from p m)
    unfolding news_from
    news-true kind k p zero at fits = tt
    news-true kind k p (suc m) at fits = (
      omega (arith, at),
      omega arith,
      (λ server t serves by lt. grind (arith, lt, at)),
      (
        (λ server serves by. grind (arith, fits, at)),
        news-true kind (suc k) (suc p) m (omega (arith, at)) (omega (arith, fits)),
      ),
    )

  -- ---- what is due by it

  -- before position p is published, what is older than the step at `base` is over with its TTL
  record Settles (base p : ℕ) (s : Spread) : Type 0 where
    older : s.older ≡ None
    ttl_is : s.ttl ≡ ttl
    early : s.position < base → p ≤ max first base
    over : s.expired ≤ end_of (made_since first start base) ttl
    seen : s.seen ≤ made_since first start p

  abbrev next : ℕ → ℕ → Spread → Spread
  next base p s = after base (after base s (Published p ttl (made_since first start p)))
      (Everywhere (made_since first start p))

  settles-on : (base p : ℕ) (s : Spread) → Settles base p s → Settles base (suc p) (next base p s)
  settles-on base p s is = record {
    older = refl;
    ttl_is = refl;
    early = λ lt. omega (arith, lt);
    over = grind (arith, is.older, is.ttl_is, is.early, is.over);
    seen = omega arith;
  }

  settles : (base p m q : ℕ) (s : Spread) → p + m ≡ q → Settles base p s
      → Settles base q (fold (after base) s (news_from p m))
  unfolding news_from
  settles base p zero q s e is = subst (λ q. Settles base q s) (omega (arith, e)) is
  settles base p (suc m) q s e is =
      settles base (suc p) m q (next base p s) (omega (arith, e)) (settles-on base p s is)

  last-is : (base p m q : ℕ) (s : Spread) → p + m ≡ q
      → (fold (after base) s (news_from p (suc m))).position ≡ q
  unfolding news_from
  last-is base p zero q s e = omega (arith, e)
  last-is base p (suc m) q s e = last-is base (suc p) m q (next base p s) (omega (arith, e))

  last-of : (base p k q : ℕ) (s : Spread) → 0 < k → p + k ≡ suc q
      → (fold (after base) s (news_from p k)).position ≡ q
  last-of base p zero q s lt e = absurd (omega (arith, lt))
  last-of base p (suc m) q s lt e = last-is base p m q s (omega (arith, e))

  -- after the step and up to the position before a report
  due-is : (base at : ℕ) → first < at → base < at → ttl ≤ 4_294_967_295
      → (least : ℕ) × (least ≤ ttl)
      × (due_for base (known base ttl (news_from first (at - first))) (made_since first start at)
      ≡ Some least)
  due-is base at lt below fits =
      let is = settles base first (at - first) at (first_spread ttl) (omega (arith, lt)) (record {
        older = refl;
        ttl_is = refl;
        early = λ lt. omega arith;
        over = omega arith;
        seen = omega arith;
      }) in
      let position = last-of base first (at - first) (at - 1) (first_spread ttl) (omega (arith, lt))
      (omega (arith, lt)) in
      let s : Spread = known base ttl (news_from first (at - first)) in
      let left : ℕ = seconds_left s.expired (made_since first start at) in
      let little : left ≤ ttl = omega (arith, is.over, lt, below) in (
        left,
        little,
        grind (arith, is.older, is.seen, position, little, fits, below),
      )

-- ---- all premises

-- the highest of three TTLs, or of some of them, is within what is most
highest-is : (from : SetKind → ℕ) (now limit : ℕ) (roll : RollType) (second : Bool)
    (before : Before) (facts : List Fact)
    → ((kind : Kind) → (least : ℕ) × (least ≤ limit)
    × (due_of before facts kind true (from (kind_of kind)) now ≡ Ok least))
    → (most : ℕ) × (most ≤ limit) × (due before facts roll second from now ≡ Ok most)
highest-is from now limit roll second before facts e =
    let ds = of code.Ds (retires roll second Ds) in
    let dnskey = of code.Dnskey (retires roll second Dnskey) in
    let zone = of code.ZoneSigners (retires roll second ZoneSigners) in (
      max (max ds.0 dnskey.0) zone.0,
      omega (arith, ds.1, dnskey.1, zone.1),
      λ i. higher (higher (ds.2 i) (dnskey.2 i)) (zone.2 i),
    )
  where
    of : (kind : Kind) (speaks : Bool) → (least : ℕ) × (least ≤ limit)
        × (due_of before facts kind speaks (from (kind_of kind)) now ≡ Ok least)
    of kind false = (0, omega arith, refl)
    of kind true = e kind

module _ (first start ttl time : ℕ) (entries : List Entry) (within : first ≤ length entries)
    (late : start ≤ time) (fits : ttl ≤ 4_294_967_295) (clock : IsByTheClock first start entries)
    (low : NoTtlBelow first ttl entries) where
  abbrev net : Network
  net = prompt first start ttl time (length entries)

  is : IsNetworkOf entries net time
  is = record {
    in_order = λ m n le here by. omega (arith, le);
    started = late;
    before = λ kind v held.
        let given = held.given in
        let at : v ≤ 1 = grind (arith, given.2, held.got) in
        record {
          begun = omega arith;
          recorded = omega (arith, within, at);
          made = omega (arith, at);
        };
    since = λ kind server t serves from by. record {
      begun = omega arith;
      recorded = grind (arith, within, from);
      made = grind (arith, within, from);
    };
  }

  ahead : NoneLiesAhead entries net time
  ahead n moment made at = omega (arith, clock n moment at)

  back : NoneGoesBack entries net time
  back r kind speaks = record {
    servers = λ server early late serves le by. grind (arith, le);
    versions = λ v w t le by given h. omega (arith, le, h);
  }

  renewed : IsRenewed net time
  renewed kind server t serves by counts = (omega arith, omega (arith, by))

  abbrev noted : ℕ → List Fact
  noted at = facts_from first start ttl first (at - first)

  abbrev earlier : Before
  earlier = record { ds = ttl; dnskey = ttl; zone = ttl }

  earlier-is : (kind : SetKind) → ttl_before earlier kind ≡ ttl
  earlier-is Ds = refl
  earlier-is Dnskey = refl
  earlier-is ZoneSigners = refl

  each-due : (base at least : ℕ) (kind : Kind)
      → due_for base (known base ttl (news_from first start ttl first (at - first)))
      (made_since first start at) ≡ Some least
      → due_of earlier (noted at) kind true base (made_since first start at) ≡ Ok least
  each-due base at least kind e = ap (λ (o : Option ℕ). ok_or o kind) ((λ i. due_for base
      (known base (earlier-is (kind_of kind) i)
      (news-of first start ttl (kind_of kind) first (at - first) i))
      (made_since first start at)) ∙ e)

  notes : ReportsAreByNotes entries net time
  notes r =
      let lies = base-lies-below entries r.roll r.at r.base r.base_is in
      let from : SetKind → ℕ = λ kind. origin entries kind r.base in
      let here = report-within entries r.at r.ttl r.roll r.second r.mark in
      let most = highest-is from (made_since first start r.at) ttl r.roll r.second earlier
      (noted r.at) (λ kind.
      let base : ℕ = from (kind_of kind) in
      let some = due-is first start ttl base r.at r.after
      (omega (arith, lies, origin-le entries (kind_of kind) r.base)) fits in
      (some.0, some.1, each-due base r.at some.0 kind some.2)) in
      record {
        before = earlier;
        facts = noted r.at;
        are_true = λ kind. (
          omega (arith, earlier-is kind),
          subst (λ news. AreTrueFrom net kind time 0 news)
              (sym (news-of first start ttl kind first (r.at - first)))
              (news-true first start ttl time entries within kind 0 first (r.at - first)
              (omega arith) (omega (arith, here))),
        );
        least = most.0;
        is_due = subst (λ now. due earlier (noted r.at) r.roll r.second from now ≡ Ok most.0)
            (sym (clock r.at r.moment r.moment_is)) most.2;
        enough = omega (arith, most.1, low r.at r.ttl r.roll r.second r.after r.mark);
      }

  reports : ReportsAreTrue entries net time
  reports = noted_reports entries net time back notes

pub premises_can_be_met : PremisesCanBeMet
premises_can_be_met first start ttl time entries within late fits clock low = record {
  is = is first start ttl time entries within late fits clock low;
  reports = reports first start ttl time entries within late fits clock low;
  notes = notes first start ttl time entries within late fits clock low;
  back = back first start ttl time entries within late fits clock low;
  ahead = ahead first start ttl time entries within late fits clock low;
  renewed = renewed first start ttl time entries within late fits clock low;
}
