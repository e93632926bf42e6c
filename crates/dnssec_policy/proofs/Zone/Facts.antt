-- Two facts that say the same are one; and the fact that stands on a line.
use Rattle.std.proofs.Common.{◌≡◌, ℕ, zero, suc, ◌<◌, ◌∙◌, ◌∷◌, List, [], Bor, Some, ap, arith}
use Rattle.std.proofs.Common.{get_or, length, map, refl, subst, sym}
use Rattle.std.proofs.lemmas.List.{length-map}
use denote.Bor.{now}
use Rattle.dnssec_script.proofs.Texts.{text_at}
use Rattle.dnssec_script.specs.Script.{Moment, Number, Value}
use Rattle.dnssec_network.specs.declared.fact.{Fact.Fact, News.News}
use Rattle.dnssec_network.specs.declared.fact.News.TheVariants.{Published, Everywhere}
use Rattle.dnssec_network.specs.Facts.{Before}
use Rattle.dnssec_network.specs.Text.Lines.{as_before, as_fact, before_says, fact_says, news_says}
use Rattle.dnssec_network.specs.Text.Reading.{AreFacts, AreNotes}

-- the number that a value has
abbrev number_in : Value → ℕ
number_in (Number n) = n
number_in (Moment t) = t
number_in _ = 0

abbrev number_of : ℕ → List Value → ℕ
number_of i values = number_in (get_or values i (Number 0))

same-news : (m n : News) → news_says m ≡ news_says n → m ≡ n
same-news (Published p t m) (Published q u n) e =
    λ i. Published (number_of 0 (e i).1) (number_of 1 (e i).1) (number_of 2 (e i).1)
same-news (Published p t m) (Everywhere n) e = absurd (omega (arith, ap (λ said. length said.1) e))
same-news (Everywhere m) (Published q u n) e = absurd (omega (arith, ap (λ said. length said.1) e))
same-news (Everywhere m) (Everywhere n) e = λ i. Everywhere (number_of 0 (e i).1)

pub same-fact : (f g : Fact) → fact_says f ≡ fact_says g → f ≡ g
same-fact f g e =
    let kind = ap (λ s. s.0) e in
    let news = same-news f.news g.news (ap (λ s. s.1) e) in
    λ i. record { kind = kind i; news = news i }

pub same-before : (a b : Before) → before_says a ≡ before_says b → a ≡ b
same-before a b e = λ i. record {
  ds = ap (number_of 0) e i;
  dnskey = ap (number_of 1) e i;
  zone = ap (number_of 2) e i;
}

-- ---- the facts of lines

-- these facts stand on these lines
abbrev pub AreOn : List (Bor (List ℕ)) → List Fact → Type 0
AreOn lines facts = map as_fact (map now lines) ≡ map (λ (f : Fact). Some (fact_says f)) facts

pub as-many : (lines : List (Bor (List ℕ))) (facts : List Fact) → AreOn lines facts
    → length lines ≡ length facts
as-many lines facts said =
    sym (length-map (map now lines) as_fact ∙ length-map lines now) ∙ ap length said
    ∙ length-map facts (λ (f : Fact). Some (fact_says f))

pub fact-at : (lines : List (Bor (List ℕ))) (facts : List Fact) (i : ℕ) → AreOn lines facts
    → i < length lines
    → (f : Fact) × (as_fact (text_at lines i) ≡ Some (fact_says f)) × (f ≡ get_or facts i f)
fact-at [] facts i said within = absurd (omega arith)
fact-at (l ∷ ls) [] i said within = cc
fact-at (l ∷ ls) (f ∷ fs) zero said within =
    let here : as_fact l.now ≡ Some (fact_says f) = cc in (f, here, refl)
fact-at (l ∷ ls) (f ∷ fs) (suc i) said within =
    let rest : AreOn ls fs = cc in fact-at ls fs i rest (omega arith)

-- ---- the lines of notes

pub no-notes : (moments : List ℕ) (lines : List (Bor (List ℕ))) (before : Before)
    (facts : List Fact) → length lines ≡ 0 → AreNotes moments (map now lines) before facts → ⊥
no-notes moments [] before facts none are = are
no-notes moments (line ∷ lines) before facts none are = absurd (omega arith)

pub first-line : (moments : List ℕ) (lines rest : List (Bor (List ℕ))) (first : Bor (List ℕ))
    (before : Before) (facts : List Fact) → lines ≡ first ∷ rest
    → AreNotes moments (map now lines) before facts
    → (as_before first.now ≡ Some (before_says before)) × AreFacts moments (map now rest) facts
first-line moments lines rest first before facts split are =
    subst (λ (ls : List (Bor (List ℕ))). AreNotes moments (map now ls) before facts) split are
