-- To go over all facts and pass over those of other kinds is to go over the news of the kind.
use Rattle.std.proofs.Common.{◌≡◌, refl, List, [], ◌∷◌, arith}
use Rattle.std.specs.Prelude.{if◌then◌else◌, fold}
use Rattle.dnssec_run.specs.Safe.{SetKind, kind_of}
use Rattle.dnssec_network.specs.declared.fact.{Fact.Fact, News.News}
use Rattle.dnssec_network.specs.Facts.{news_of, same_kind}

module _ {S : Type 0} (kind : SetKind) (after : S → News → S) where
  -- one fact more, if it is of the kind
  abbrev pub after_fact : S → Fact → S
  after_fact s fact = if same_kind (kind_of fact.kind) kind then after s fact.news else s

  pub passed : (s : S) (facts : List Fact)
      → fold after_fact s facts ≡ fold after s (news_of kind facts)
  passed s [] = refl
  passed s (fact ∷ facts) = grind (arith, passed (after_fact s fact) facts)
