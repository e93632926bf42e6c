-- A fact that is refused because it was seen before it was published is true of no network.
use Rattle.std.proofs.Common.{List, None, Option, Some, [], arith, refl, subst, suc, ℕ, ◌++◌}
use Rattle.std.proofs.Common.{◌<◌, ◌∙◌, ◌∷◌, ◌≡◌}
use Rattle.std.{proofs.Common.◌≤◌, specs.Prelude.fold}
use Rattle.dnssec_run.specs.{Safe.SetKind, Safe.kind_of, declared.caches.SetKind.SetKind as Kind}
use Rattle.dnssec_network.{proofs.Passed.after_fact, proofs.Passed.passed, specs.Facts.AreTrueFrom}
use Rattle.dnssec_network.specs.Facts.{moment_of, news_of}
use Rattle.dnssec_network.specs.{Network.Network, Notes.first_progress}
use Rattle.dnssec_network.specs.Notes.{newest_after, newest_of, news_refusal, progress_after}
use Rattle.dnssec_network.specs.Notes.{version_refusal}
use Rattle.dnssec_run.specs.Moments.{moment_of_call}
use Rattle.dnssec_network.specs.declared.fact.{Fact.Fact, News.News}
use Rattle.dnssec_network.specs.declared.fact.News.TheVariants.{Everywhere, Published}
use Rattle.dnssec_network.specs.declared.fact.NoteFault.TheVariants.{SeenBeforePublished}
use Rattle.dnssec_network.specs.declared.progress.{Newest.Newest, Progress.Progress}
use Rattle.dnssec_network.proofs.chain.refused_facts_are_untrue.Goals as goal

-- ---- the newest version of a kind, only by its news

abbrev next : Newest → News → Newest
next newest news = newest_after news newest

newest-is : (p : Progress) (kind : Kind) (facts : List Fact)
    → newest_of (fold progress_after p facts) kind
    ≡ fold (after_fact (kind_of kind) next) (newest_of p kind) facts
newest-is p kind [] = refl
newest-is p kind (fact ∷ facts) = grind (arith, newest-is (progress_after p fact) kind facts)

-- ---- what true facts say of it

-- no server gives it before it was published
abbrev Says : Network → SetKind → ℕ → ℕ → Newest → Type 0
Says network kind time n newest = (server t : ℕ) → server < network.servers kind → t ≤ time →
    n ≤ network.version kind server t → newest.published ≤ t

says-on : (network : Network) (kind : SetKind) (time n : ℕ) (newest : Newest)
    (news : List News) (last : News) → Says network kind time n newest
    → AreTrueFrom network kind time n (news ++ last ∷ [])
    → (m : ℕ) × Says network kind time m (fold next newest news)
    × AreTrueFrom network kind time m (last ∷ [])
says-on network kind time n newest [] last says are = (n, says, are)
says-on network kind time n newest (Published position ttl moment ∷ news) last says are =
    says-on network kind time (suc n) _ news last are.2 are.3
says-on network kind time n newest (Everywhere moment ∷ news) last says are =
    says-on network kind time n _ news last says are.1

-- ---- refusals

-- no publication is refused so, and a sight that is refused so came before the publication
untrue : (network : Network) (kind : SetKind) (moments : List ℕ) (time n : ℕ) (newest : Newest)
    (last : News) → 0 < network.servers kind → moment_of last ≤ time
    → Says network kind time n newest
    → AreTrueFrom network kind time n (last ∷ [])
    → news_refusal moments newest last ≡ Some SeenBeforePublished → ⊥
untrue network kind moments time n newest (Published position ttl moment) serves by says are
    refused = by-call (moment_of_call moments position) refused
  where
    by-call : (made : Option ℕ) → version_refusal made newest moment ≡ Some SeenBeforePublished → ⊥
    by-call None refused = absurd cc
    by-call (Some made) refused = grind arith
untrue network kind moments time n newest (Everywhere moment) serves by says are refused =
    grind (arith, says 0 moment serves by (are.0 0 serves by))

-- the news of a kind, with one more fact of it at the end
news-after : (facts : List Fact) (fact : Fact)
    → news_of (kind_of fact.kind) (facts ++ fact ∷ []) ≡ news_of (kind_of fact.kind) facts
    ++ fact.news ∷ []
news-after [] fact = grind arith
news-after (f ∷ facts) fact = grind (arith, news-after facts fact)

pub returns : goal.returns
returns c before facts fact network moments time refused serves by are =
    let kind : SetKind = kind_of fact.kind in
    let first : Newest = newest_of first_progress fact.kind in
    let last = says-on network kind time 0 first (news_of kind facts) fact.news
    (λ server t h by le. grind arith)
    (subst (λ news. AreTrueFrom network kind time 0 news) (news-after facts fact) (are kind).1) in
    untrue network kind moments time last.0 (fold next first (news_of kind facts)) fact.news serves
    by last.1 last.2
    (subst (λ newest. news_refusal moments newest fact.news ≡ Some SeenBeforePublished)
    (newest-is first_progress fact.kind facts ∙ passed kind next first facts) refused)
