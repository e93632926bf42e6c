-- The highest TTLs noted, with one fact more.
use Rattle.std.proofs.Common.{◌≡◌, ℕ, ◌∙◌, ◌++◌, ◌∷◌, List, [], ap, max, sym}
use Rattle.std.proofs.Common.{if◌then◌else◌, Bool, true, false, refl}
use Rattle.std.proofs.lemmas.List.Sums.{fold_push}
use Rattle.dnssec_run.specs.declared.caches.SetKind.{SetKind as Kind}
use Rattle.dnssec_run.specs.declared.caches.SetKind.TheVariants as code
use Rattle.dnssec_run.specs.Safe.{SetKind, Ds, Dnskey, ZoneSigners, kind_of}
use Rattle.dnssec_network.specs.declared.fact.{Fact.Fact, News.News}
use Rattle.dnssec_network.specs.declared.fact.News.TheVariants.{Published, Everywhere}
use Rattle.dnssec_network.specs.Facts.{Before, same_kind, ttl_before}
use Rattle.dnssec_network.proofs.Passed.{after_fact, passed}
use Rattle.dnssec_policy.specs.declared.ttls.HighestTtls.{HighestTtls}
use Rattle.dnssec_policy.specs.Ttls.{AreHighest, after_news, higher_with, highest_of, ttl_in}

-- the fact counts only for its kind
grown : (before : Before) (facts : List Fact) (fact : Fact) (kind : SetKind)
    → highest_of before (facts ++ fact ∷ []) kind
    ≡ (if same_kind (kind_of fact.kind) kind
    then higher_with (highest_of before facts kind) fact.news else highest_of before facts kind)
grown before facts fact kind =
    let first = ttl_before before kind in
    let step = after_fact kind higher_with in
    sym (passed kind higher_with first (facts ++ fact ∷ []))
    ∙ fold_push step first facts fact
    ∙ ap (λ most. step most fact) (passed kind higher_with first facts)

same-twice : (b : Bool) (n : ℕ) → n ≡ (if b then n else n)
same-twice true n = refl
same-twice false n = refl

raised : (h : HighestTtls) (k : Kind) (news : News) (kind : SetKind) (most : ℕ)
    → ttl_in h kind ≡ most → ttl_in (after_news h k news) kind
    ≡ (if same_kind (kind_of k) kind then higher_with most news else most)
raised h code.Ds (Published position ttl moment) Ds most e = ap (λ n. max n ttl) e
raised h code.Ds (Published position ttl moment) Dnskey most e = e
raised h code.Ds (Published position ttl moment) ZoneSigners most e = e
raised h code.Dnskey (Published position ttl moment) Ds most e = e
raised h code.Dnskey (Published position ttl moment) Dnskey most e = ap (λ n. max n ttl) e
raised h code.Dnskey (Published position ttl moment) ZoneSigners most e = e
raised h code.ZoneSigners (Published position ttl moment) Ds most e = e
raised h code.ZoneSigners (Published position ttl moment) Dnskey most e = e
raised h code.ZoneSigners (Published position ttl moment) ZoneSigners most e = ap (λ n. max n ttl) e
raised h k (Everywhere moment) kind most e = e ∙ same-twice (same_kind (kind_of k) kind) most

pub raised-by : (h : HighestTtls) (k : Kind) (news : News) (before : Before) (facts : List Fact)
    → AreHighest before facts h
    → AreHighest before (facts ++ record { kind = k; news = news } ∷ []) (after_news h k news)
raised-by h k news before facts are kind =
    raised h k news kind (highest_of before facts kind) (are kind)
    ∙ sym (grown before facts (record { kind = k; news = news }) kind)
