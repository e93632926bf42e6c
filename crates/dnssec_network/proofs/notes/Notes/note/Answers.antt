-- A refusal is no lack of memory.
use Rattle.std.proofs.Common.{Bool, Err, List, None, Option, Result, Some, false, sym, true, ℕ}
use Rattle.std.proofs.Common.{◌∙◌, ◌≡◌, ◌≢◌}
use Rattle.std.specs.Prelude.{if◌then◌else◌, nat_lt}
use Rattle.dnssec_network.specs.{Notes.news_refusal, Notes.version_refusal, declared.fact.News.News}
use Rattle.dnssec_network.specs.declared.fact.News.TheVariants.{Everywhere, Published}
use Rattle.dnssec_network.specs.declared.fact.NoteFault.{NoteFault}
use Rattle.dnssec_network.specs.declared.fact.NoteFault.TheVariants.{MomentFalls, OutOfMemory}
use Rattle.dnssec_network.specs.declared.fact.NoteFault.TheVariants.{PublishedBeforeCall}
use Rattle.dnssec_network.specs.declared.fact.NoteFault.TheVariants.{SeenBeforePublished}
use Rattle.dnssec_network.specs.declared.progress.Newest.{Newest}
use Rattle.dnssec_network.proofs.notes.Notes.note.Goals as goal

fall_no : (b : Bool) → (if b then Some MomentFalls else None) ≢ Some OutOfMemory
fall_no true same = cc
fall_no false same = cc

early_no : (b falls : Bool) → (if b then Some PublishedBeforeCall
    else (if falls then Some MomentFalls else None)) ≢ Some OutOfMemory
early_no true falls = λ same. cc
early_no false falls = fall_no falls

seen_no : (b falls : Bool) → (if b then Some SeenBeforePublished
    else (if falls then Some MomentFalls else None)) ≢ Some OutOfMemory
seen_no true falls = λ same. cc
seen_no false falls = fall_no falls

version_no : (made : Option ℕ) (newest : Newest) (moment : ℕ)
    → version_refusal made newest moment ≢ Some OutOfMemory
version_no None newest moment = λ same. cc
version_no (Some made) newest moment =
    early_no (nat_lt moment made) (nat_lt moment newest.published)

no_memory : (moments : List ℕ) (newest : Newest) (news : News)
    → news_refusal moments newest news ≢ Some OutOfMemory
no_memory moments newest (Published position ttl moment) = version_no _ newest moment
no_memory moments newest (Everywhere moment) =
    seen_no (nat_lt moment newest.published) (nat_lt moment newest.seen)

same_fault : (T : Type 0) (fault : NoteFault)
    → ◌≡◌ {A = Result T NoteFault} (Err fault) (Err OutOfMemory) → Some fault ≡ Some OutOfMemory
same_fault T fault is = cc

pub returns-in-Some-clause-memory : goal.returns-in-Some-clause-memory
returns-in-Some-clause-memory c = λ is.
    absurd (no_memory c.args.moments.now _ c.args.news
    (sym c.refusal.ensures ∙ c.in-Some.is ∙ same_fault _ c.in-Some.fault is))
