-- The lines of notes: what a line says, and which bytes are notes.
use Rattle.std.specs.Prelude.{ℕ, if◌then◌else◌, List, [], ◌∷◌}
use Rattle.std.specs.Prelude.{codes, Option, None, Some, option_and_then}
use Rattle.std.specs.{Option.option_map, Str.bytes_eq}
use Rattle.dnssec_run.specs.declared.caches.SetKind.{SetKind}
use Rattle.dnssec_run.specs.declared.caches.SetKind.TheVariants.{Ds, Dnskey, ZoneSigners}
use Rattle.dnssec_network.specs.declared.fact.{Fact.Fact, News.News}
use Rattle.dnssec_network.specs.declared.fact.News.TheVariants as news
use Rattle.dnssec_script.specs.Script.{Form, Value, Number, Moment, as_number, as_time, as_ttl}
use Rattle.dnssec_script.specs.Script.{fields_of, first_field, values_of}
use Rattle.dnssec_network.specs.declared.text.line.FactWord.{FactWord}
use Rattle.dnssec_network.specs.declared.text.line.FactWord.TheVariants.{Published, Everywhere}
use Rattle.dnssec_network.specs.Facts.{Before}

-- ---- words

-- the value with this name, of two values with their names
abbrev pub either_named : {T : Type 0} → List ℕ → List ℕ × T → List ℕ × T → Option T
either_named name one other =
    if bytes_eq name one.0 then Some one.1
    else (if bytes_eq name other.0 then Some other.1 else None)

-- the words of facts
unfoldable pub word_named : List ℕ → Option FactWord
word_named name = either_named name (codes "published", Published) (codes "everywhere", Everywhere)

-- the kinds of sets
unfoldable pub kind_named : List ℕ → Option SetKind
kind_named name =
    if bytes_eq name (codes "ds") then Some Ds
    else (if bytes_eq name (codes "dnskey") then Some Dnskey
    else (if bytes_eq name (codes "zone") then Some ZoneSigners else None))

abbrev pub kind_name : SetKind → List ℕ
kind_name Ds = codes "ds"
kind_name Dnskey = codes "dnskey"
kind_name ZoneSigners = codes "zone"

-- ---- what a line says

-- the number of a call
abbrev pub as_position : Form
as_position = as_number 18446744073709551615

-- what the fields after a word and a kind have to be
abbrev pub forms_after : FactWord → List Form
forms_after Published = as_position ∷ as_ttl ∷ as_time ∷ []
forms_after Everywhere = as_time ∷ []

-- what such fields say, with their word
abbrev pub news_after : FactWord → List (List ℕ) → Option (FactWord × List Value)
news_after word fields =
    option_map (λ values. (word, values)) (values_of (forms_after word) fields)

-- the word that stands first, and the fields after it
abbrev pub word_at : List (List ℕ) → Option (FactWord × List (List ℕ))
word_at [] = None
word_at (name ∷ fields) = option_map (λ w. (w, fields)) (word_named name)

-- the kind that stands first, and the fields after it
abbrev pub kind_at : List (List ℕ) → Option (SetKind × List (List ℕ))
kind_at [] = None
kind_at (name ∷ fields) = option_map (λ k. (k, fields)) (kind_named name)

-- what a line says of a fact: its kind, its word, and what the fields after them say
unfoldable pub as_fact : List ℕ → Option (SetKind × (FactWord × List Value))
as_fact line =
    option_and_then (λ w.
    option_and_then (λ k. option_map (λ said. (k.0, said)) (news_after w.0 k.1)) (kind_at w.1))
    (word_at (fields_of line))

-- news in the words of notes
abbrev pub news_says : News → FactWord × List Value
news_says (news.Published position ttl moment) =
    (Published, Number position ∷ Number ttl ∷ Moment moment ∷ [])
news_says (news.Everywhere moment) = (Everywhere, Moment moment ∷ [])

-- a fact in the words of notes
abbrev pub fact_says : Fact → SetKind × (FactWord × List Value)
fact_says fact = (fact.kind, news_says fact.news)

-- ---- the first line

abbrev pub before_forms : List Form
before_forms = as_ttl ∷ as_ttl ∷ as_ttl ∷ []

-- what the first line says: the TTLs of DS sets, DNSKEY sets and the zone from before the first
-- call
unfoldable pub as_before : List ℕ → Option (List Value)
as_before line =
    option_and_then
    (λ x. if bytes_eq x.0 (codes "before") then values_of before_forms x.1 else None)
    (first_field (fields_of line))

abbrev pub before_says : Before → List Value
before_says before =
    Number before.ds ∷ Number before.dnskey ∷ Number before.zone ∷ []
