-- How long a report counts, and that it is said once all servers have its sets.
use Rattle.std.proofs.Common.{◌≡◌, ℕ, ◌+◌, ◌≤◌, Bool, true, false, List, [], ◌∷◌, Option, None}
use Rattle.std.proofs.Common.{Some, Ok, max, refl, sym, ap, subst, ◌∙◌, arith, fold, if◌then◌else◌}
use Rattle.std.proofs.lemmas.Bool.{and_parts, le-leb}
use Rattle.std.specs.Option.{is_none, ok_or}
use Rattle.std.specs.Prelude.{◌&&◌, ◌-◌, nat_le, nat_lt, unwrap_or}
use Rattle.std.specs.List.{list_all}
use Rattle.dnssec_key.specs.declared.roll.{RollType.RollType, Half.Half}
use Rattle.dnssec_key.specs.declared.roll.Half.TheVariants.{First, Second}
use Rattle.dnssec_key.specs.RollTable.{is_second}
use Rattle.dnssec_zone.specs.Rolls.{phase_of}
use Rattle.dnssec_keyset.specs.Step as keyset
use Rattle.dnssec_run.specs.declared.caches.SetKind.{SetKind as Kind}
use Rattle.dnssec_run.specs.declared.caches.SetKind.TheVariants as code
use Rattle.dnssec_run.specs.Safe.{SetKind, Ds, Dnskey, ZoneSigners, kind_of, retires}
use Rattle.dnssec_run.specs.{Steps.origin_in, WholeRolls.propagation}
use Rattle.dnssec_network.specs.declared.fact.News.{News}
use Rattle.dnssec_network.specs.declared.fact.News.TheVariants.{Published, Everywhere}
use Rattle.dnssec_network.specs.declared.spread.Reach.{Reach}
use Rattle.dnssec_network.specs.{Facts.moment_of, Facts.news_of, Facts.ttl_before, Reach.reach_of}
use Rattle.dnssec_network.specs.Reports.{due, due_of, higher}
use Rattle.dnssec_network.specs.Spread.{after, due_for, end_of, expired_after, first_spread}
use Rattle.dnssec_network.specs.Spread.{known, seconds_left, seconds_until}
use Rattle.dnssec_network.specs.declared.spread.Reach.TheVariants as reach
use Rattle.dnssec_policy.specs.InProgress.{end_next, once_there, later, report_next}
use Rattle.dnssec_policy.specs.InProgress.{ends_with, once, report_or}
use Rattle.dnssec_policy.specs.Laws.{EndsAreInTime, NoneLiesAheadOf, ReportsAreInTime}
use Rattle.dnssec_policy.specs.{Laws.ReportsCountNoLonger, Next.next_of, Next.phase_next}
use Rattle.dnssec_policy.specs.Todo.{Make, Todo, rank}
use Rattle.dnssec_policy.specs.Ttls.{at_most_due, higher_with, highest_of, if_retired, keeps}
use Rattle.dnssec_policy.specs.{Ttls.lasting, Ttls.report_takes, View.View, View.reach_in}
use Rattle.dnssec_policy.proofs.{Dues.due-parts, InTime.by-rank, Said.may-next, Spreads.Spread}
use Rattle.dnssec_policy.proofs.Order.{roll-said}

-- ---- by the notes of a kind

module _ (now : ℕ) where
  -- no TTL is above this one, and nothing older is held for longer
  record Within (h : ℕ) (a : Spread) : Type 0 where
    ttl : a.ttl ≤ h
    older : unwrap_or a.older 0 ≤ h
    expired : a.expired ≤ end_of now h

  older-within : (h n : ℕ) (o : Option ℕ) (t : Bool) → unwrap_or o 0 ≤ h → n ≤ h
      → unwrap_or (if t then Some (max (unwrap_or o 0) n) else o) 0 ≤ h
  older-within h n o true le less = omega (arith, le, less)
  older-within h n o false le less = le

  seen-within : (h moment expired : ℕ) (o : Option ℕ) → moment ≤ now → unwrap_or o 0 ≤ h
      → expired ≤ end_of now h
      → expired_after moment o expired ≤ end_of now h
  seen-within h moment expired None le less was = was
  seen-within h moment expired (Some ttl) le less was = omega (arith, le, less, was)

  one-more : (base h : ℕ) (a : Spread) (news : News) → Within h a
      → nat_le (moment_of news) now ≡ true
      → Within (higher_with h news) (after base a news)
  one-more base h a (Published position ttl moment) w le =
      let was = w.ttl in let older = w.older in let expired = w.expired in record {
        ttl = omega arith;
        older = older-within (max h ttl) a.ttl a.older (nat_lt a.position base)
            (omega (arith, older))
            (omega (arith, was));
        expired = omega (arith, expired);
      }
  one-more base h a (Everywhere moment) w le = record {
    ttl = w.ttl;
    older = omega arith;
    expired = seen-within h moment a.expired a.older (grind (arith, le)) w.older w.expired;
  }

  all-within : (base : ℕ) (news : List News) (h : ℕ) (a : Spread) → Within h a
      → list_all (λ news. nat_le (moment_of news) now) news ≡ true
      → Within (fold higher_with h news) (fold (after base) a news)
  all-within base [] h a w le = w
  all-within base (one ∷ more) h a w le =
      let both = and_parts (nat_le (moment_of one) now) _ le in
      all-within base more (higher_with h one) (after base a one) (one-more base h a one w both.0)
      both.1

  -- what is left is a second more than the highest TTL, at most
  left-within : (h end : ℕ) → end ≤ end_of now h → seconds_left end now ≤ h + 1
  left-within h end le = omega (arith, le)

  until-within : (h end y : ℕ) → end ≤ end_of now h → seconds_until end now ≡ Some y → y ≤ h + 1
  until-within h end y le is = by (nat_le (seconds_left end now) 4_294_967_295) is
    where
      by : (t : Bool) → (if t then Some (seconds_left end now) else None) ≡ Some y → y ≤ h + 1
      by true e =
          let same : seconds_left end now ≡ y = cc in
          omega (arith, same, left-within h end le)
      by false e = absurd (cc)

  due-within : (base h y : ℕ) (a : Spread) → Within h a → due_for base a now ≡ Some y → y ≤ h + 1
  due-within base h y a w is =
      by (nat_le base a.position && is_none a.older && nat_le a.seen now) is
    where
      by : (t : Bool) → (if t then seconds_until a.expired now else None) ≡ Some y → y ≤ h + 1
      by true e = until-within h a.expired y w.expired e
      by false e = absurd (cc)

  -- sets that are on all servers have a TTL, if 32 bits can hold it
  until-some : (h end : ℕ) → end ≤ end_of now h → h + 1 ≤ 4_294_967_295
      → (y : ℕ) × (seconds_until end now ≡ Some y)
  until-some h end le small =
      let less = left-within h end le in
      let fits : seconds_left end now ≤ 4_294_967_295 = omega (arith, less, small) in
      (seconds_left end now, rw (le-leb (seconds_left end now) 4_294_967_295 fits) refl)

  there-due : (base h : ℕ) (a : Spread) → Within h a → h + 1 ≤ 4_294_967_295
      → reach_of base a now ≡ reach.Everywhere → (y : ℕ) × (due_for base a now ≡ Some y)
  there-due base h a w small is =
      by (nat_lt a.position base) refl (is_none a.older && nat_le a.seen now) refl is
    where
      by : (p : Bool) → nat_lt a.position base ≡ p → (q : Bool)
          → (is_none a.older && nat_le a.seen now) ≡ q
          → (if p then reach.Unpublished else (if q then reach.Everywhere else reach.Spreading))
          ≡ reach.Everywhere → (y : ℕ) × (due_for base a now ≡ Some y)
      by true e q f is = absurd (cc)
      by false e false f is = absurd (cc)
      by false e true f is =
          let on : nat_le base a.position ≡ true =
          le-leb base a.position (grind (arith, e)) in
          let y = until-some h a.expired w.expired small in (
            y.0,
            ap (λ (t : Bool). if t && is_none a.older && nat_le a.seen now
                then seconds_until a.expired now else None) on
                ∙ ap (λ (t : Bool). if t then seconds_until a.expired now else None) f ∙ y.1,
          )

-- a report counts no longer by lower TTLs and a lower one that is due
pub lasts-longer : (h ttl : SetKind → ℕ) → ((kind : SetKind) → h kind ≤ ttl kind)
    → (roll : RollType) (second : Bool) (x y : ℕ) → x ≤ y
    → lasting h roll second x ≤ lasting ttl roll second y
lasts-longer h ttl high roll second x y le = by (retires roll second Ds)
  where
    by : (t : Bool) → (if t then max (x + keeps h) (h ZoneSigners + 1) else x)
        ≤ (if t then max (y + keeps ttl) (ttl ZoneSigners + 1) else y)
    by true = omega (arith, le, high Dnskey, high ZoneSigners)
    by false = omega (arith, le)

-- ---- of the three kinds

module _ (v : View) (ahead : NoneLiesAheadOf v)
    (highest : (kind : SetKind) → v.highest kind ≡ highest_of v.before v.facts kind) where
  abbrev spread : SetKind → ℕ → Spread
  spread kind base = known base (ttl_before v.before kind) (news_of kind v.facts)

  within : (kind : SetKind) (base : ℕ) → Within v.now (v.highest kind) (spread kind base)
  within kind base =
      let ttl = ttl_before v.before kind in
      subst (λ h. Within v.now h (spread kind base)) (sym (highest kind))
      (all-within v.now base (news_of kind v.facts) ttl (first_spread ttl) (record {
        ttl = omega arith;
        older = omega arith;
        expired = omega arith;
      }) (ahead kind))

  kind-due : (kind : Kind) (t : Bool) (base y : ℕ)
      → due_of v.before v.facts kind t base v.now ≡ Ok y
      → y ≤ (if t then v.highest (kind_of kind) else 0) + 1
  kind-due kind false base y is = let same : 0 ≡ y = cc in omega (arith, same)
  kind-due kind true base y is =
      by (due_for base (spread (kind_of kind) base) v.now) refl is
    where
      by : (o : Option ℕ) → due_for base (spread (kind_of kind) base) v.now ≡ o
          → ok_or o kind ≡ Ok y → y ≤ v.highest (kind_of kind) + 1
      by None e is = absurd (cc)
      by (Some n) e is =
          let same : n ≡ y = cc in
          let less = due-within v.now base (v.highest (kind_of kind)) n
          (spread (kind_of kind) base) (within (kind_of kind) base) e in
          omega (arith, same, less)

  module _ (roll : RollType) (second : Bool) where
    abbrev speaks : SetKind → Bool
    speaks kind = retires roll second kind

    pub least-due : (from : SetKind → ℕ) (least : ℕ)
        → due v.before v.facts roll second from v.now ≡ Ok least
        → least ≤ at_most_due v.highest roll second
    least-due from least is =
        let p = due-parts v.before v.facts roll second from v.now least is in
        let ds = kind-due code.Ds (speaks Ds) (from Ds) p.0 p.3 in
        let dnskey = kind-due code.Dnskey (speaks Dnskey) (from Dnskey) p.1 p.4 in
        let zone = kind-due code.ZoneSigners (speaks ZoneSigners) (from ZoneSigners) p.2 p.5 in
        let most = p.6 in
        omega (arith, ds, dnskey, zone, most)

    takes-all : at_most_due v.highest roll second ≤ report_takes v.highest roll second
    takes-all = by (retires roll second Ds)
      where
        by : (t : Bool) → at_most_due v.highest roll second ≤ (if t
            then max (at_most_due v.highest roll second + keeps v.highest)
            (v.highest ZoneSigners + 1) else at_most_due v.highest roll second)
        by true = omega arith
        by false = omega arith

    -- each kind that it speaks of has a TTL once it is on all servers
    kind-there : (kind : Kind) (t : Bool) (base : ℕ)
        → (t ≡ true → v.highest (kind_of kind) + 1 ≤ 4_294_967_295)
        → (t ≡ true → reach_in v kind base ≡ reach.Everywhere)
        → (y : ℕ) × (due_of v.before v.facts kind t base v.now ≡ Ok y)
    kind-there kind false base small there = (0, refl)
    kind-there kind true base small there =
        let y = there-due v.now base (v.highest (kind_of kind)) (spread (kind_of kind) base)
        (within (kind_of kind) base) (small refl) (there refl) in
        (y.0, ap (λ (o : Option ℕ). ok_or o kind) y.1)

    small-kind : (kind : SetKind) → report_takes v.highest roll second ≤ 4_294_967_295
        → if_retired v.highest roll second kind ≤ at_most_due v.highest roll second - 1
        → retires roll second kind ≡ true → v.highest kind + 1 ≤ 4_294_967_295
    small-kind kind small part t =
        let one : if_retired v.highest roll second kind ≡ v.highest kind =
        ap (λ (b : Bool). if b then v.highest kind else 0) t in
        omega (arith, small, part, takes-all, one)

    pub some-due : (from : SetKind → ℕ) → report_takes v.highest roll second ≤ 4_294_967_295
        → ((kind : Kind) → retires roll second (kind_of kind) ≡ true
        → reach_in v kind (from (kind_of kind)) ≡ reach.Everywhere)
        → (least : ℕ) × (due v.before v.facts roll second from v.now ≡ Ok least)
    some-due from small there =
        let ds = kind-there code.Ds (speaks Ds) (from Ds)
        (small-kind Ds small (omega arith)) (there code.Ds) in
        let dnskey = kind-there code.Dnskey (speaks Dnskey) (from Dnskey)
        (small-kind Dnskey small (omega arith)) (there code.Dnskey) in
        let zone = kind-there code.ZoneSigners (speaks ZoneSigners) (from ZoneSigners)
        (small-kind ZoneSigners small (omega arith)) (there code.ZoneSigners) in
        (max (max ds.0 dnskey.0) zone.0, λ i. higher (higher (ds.1 i) (dnskey.1 i)) (zone.1 i))

-- ---- what is said

pub no-longer : ReportsCountNoLonger
no-longer policy v roll half ttl now ahead highest is =
    let m = may-next policy v (keyset.Report roll half ttl now) is in
    let least = least-due v ahead highest roll (is_second half) (origin_in (m.2).origins) m.4 m.5 in
    let le = lasts-longer v.highest v.highest (λ kind. omega arith) roll (is_second half) m.4
    (at_most_due v.highest roll (is_second half)) least in
    omega (arith, le, m.6)

pub in-time : ReportsAreInTime
in-time policy v roll half step ahead highest phase known there small =
    let second = is_second half in
    let from = origin_in step.origins in
    let some = some-due v ahead highest roll second from small there in
    let least = least-due v ahead highest roll second from some.0 some.1 in
    let long = lasting v.highest roll second some.0 in
    let le = lasts-longer v.highest v.highest (λ kind. omega arith) roll second some.0
    (at_most_due v.highest roll second) least in
    let fits : nat_le long 4_294_967_295 ≡ true =
    le-leb long 4_294_967_295 (omega (arith, le, small)) in
    let said : report_next v roll half (v.step roll) ≡ Make (keyset.Report roll half long v.now) =
    ap (report_next v roll half) known
    ∙ ap (report_or v roll half step.origins) some.1
    ∙ ap (λ (t : Bool). if t then Make (keyset.Report roll half long v.now) else later v.now) fits
    in
    let next = on half phase ∙ said in
    by-rank (next_of policy v) (phase_next v roll (phase_of v.set.rolls roll))
    (roll-said policy v roll) (ap rank next)
  where
    on : (half : Half) → phase_of v.set.rolls roll ≡ Some (propagation half)
        → phase_next v roll (phase_of v.set.rolls roll) ≡ report_next v roll half (v.step roll)
    on First e = ap (phase_next v roll) e
    on Second e = ap (phase_next v roll) e

pub ends-in-time : EndsAreInTime
ends-in-time policy v roll base phase last there =
    let todo = Make (keyset.RollDone roll) in
    let zone = there-done code.ZoneSigners todo in
    let all = there-done code.Ds (once_there v roll base code.Dnskey
    (once_there v roll base code.ZoneSigners todo))
    ∙ there-done code.Dnskey (once_there v roll base code.ZoneSigners todo) ∙ zone in
    let next : phase_next v roll (phase_of v.set.rolls roll) ≡ todo =
    ap (phase_next v roll) phase ∙ ap (end_next v roll) last ∙ all in
    by-rank (next_of policy v) (phase_next v roll (phase_of v.set.rolls roll))
    (roll-said policy v roll) (ap rank next)
  where
    there-done : (kind : Kind) (todo : Todo) → once_there v roll base kind todo ≡ todo
    there-done kind todo = by (ends_with roll kind) refl
      where
        by : (t : Bool) → ends_with roll kind ≡ t
            → (if t then once (reach_in v kind base) kind todo else todo) ≡ todo
        by true e = ap (λ (r : Reach). once r kind todo) (there kind e)
        by false e = refl
