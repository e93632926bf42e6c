-- More calls refuse no fact that fewer took.
use Rattle.std.proofs.Common.{List, None, Option, Some, [], refl, subst, suc, sym, zero, ℕ, ◌++◌}
use Rattle.std.proofs.{Common.◌∙◌, Common.◌∷◌, Common.◌≡◌, lemmas.Option.slice_get_within}
use Rattle.dnssec_run.proofs.{Grow.front, Latest.moments-outlast}
use Rattle.dnssec_run.specs.Moments.{moment_of_call, moments_of}
use Rattle.dnssec_network.specs.Notes.{news_refusal, version_refusal}
use Rattle.dnssec_network.specs.declared.fact.{Fact.Fact, News.News}
use Rattle.dnssec_network.specs.declared.fact.News.TheVariants.{Everywhere, Published}
use Rattle.dnssec_network.specs.declared.progress.Newest.{Newest}
use Rattle.dnssec_network.specs.{Text.Reading.AreTaken, Text.Reading.HasTaken, Notes.NotesParts}
use Rattle.dnssec_network.proofs.text.session.notes_outlast_calls.Goals as goal

-- the moment of a call that was made stays
kept : (moments rest : List ℕ) (n moment : ℕ) → moment_of_call moments n ≡ Some moment
    → moment_of_call (moments ++ rest) n ≡ Some moment
kept moments rest zero moment is = absurd cc
kept moments rest (suc n) moment is =
    front moments rest n (slice_get_within moments n moment is) ∙ is

still : (moments rest : List ℕ) (newest : Newest) (news : News)
    → news_refusal moments newest news ≡ None → news_refusal (moments ++ rest) newest news ≡ None
still moments rest newest (Published position ttl moment) taken =
    by (moment_of_call moments position) refl taken
  where
    by : (made : Option ℕ) → moment_of_call moments position ≡ made
        → version_refusal made newest moment ≡ None
        → version_refusal (moment_of_call (moments ++ rest) position) newest moment ≡ None
    by None is taken = absurd cc
    by (Some made) is taken = rw (kept moments rest position made is) taken
still moments rest newest (Everywhere moment) taken = taken

taken-outlast : (moments rest : List ℕ) (old facts : List Fact) → AreTaken moments old facts
    → AreTaken (moments ++ rest) old facts
taken-outlast moments rest old [] taken = taken
taken-outlast moments rest old (fact ∷ facts) taken = (
  still moments rest _ fact.news taken.0,
  taken-outlast moments rest (old ++ fact ∷ []) facts taken.1,
)

outlast : (moments rest : List ℕ) (lines : List (List ℕ)) (noted : Option NotesParts)
    → HasTaken moments lines noted → HasTaken (moments ++ rest) lines noted
outlast moments rest [] noted taken = taken
outlast moments rest (first ∷ lines) noted taken =
    let are = taken.2.1 in
    let still = taken-outlast moments rest [] taken.0.facts are.taken in
    (taken.0, taken.1, (taken.2.0, record { said = are.said; taken = still }))

pub returns : goal.returns
returns c entries more lines noted taken =
    let on = moments-outlast entries more in
    subst (λ moments. HasTaken moments lines noted) (sym on.1)
    (outlast (moments_of entries) on.0 lines noted taken)
