-- That the TTL which is due is the least: with a lower one a report may be false.
use Rattle.std.specs.Prelude.{◌≡◌, ℕ, ◌+◌, ◌*◌, ◌<◌, ◌≤◌, Bool, true, List, [], ◌∷◌, Ok}
use Rattle.dnssec_key.specs.declared.roll.RollType.{RollType}
use Rattle.dnssec_run.specs.Safe.{SetKind, retires}
use Rattle.dnssec_network.specs.declared.fact.{Fact.Fact, News.News}
use Rattle.dnssec_network.specs.declared.fact.News.TheVariants.{Published, Everywhere}
use Rattle.dnssec_network.specs.declared.progress.Newest.{Newest}
use Rattle.dnssec_network.specs.Facts.{Before, AreTrue, news_of}
use Rattle.dnssec_network.specs.Network.{MayBeHeld, Network, NeverGoesBack}
use Rattle.dnssec_network.specs.{Notes.first_newest, Notes.newest_after, Reports.due}

-- The news of a kind come one after another, after a version with the sets of the position `last`.
abbrev pub ComeInOrder : ℕ → ℕ → Newest → List News → Type 0
ComeInOrder base last newest [] = Unit {0}
-- no version is published before the one that precedes it, and none goes back to before `base`
ComeInOrder base last newest (Published position ttl moment ∷ later) =
    (newest.published ≤ moment) × (base ≤ last → base ≤ position)
    × ComeInOrder base position (newest_after (Published position ttl moment) newest) later
-- a version is seen everywhere only after it was published, and no earlier than the one seen before
ComeInOrder base last newest (Everywhere moment ∷ later) =
    (newest.published < moment) × (newest.seen ≤ moment)
    × ComeInOrder base last (newest_after (Everywhere moment) newest) later

-- By these facts a report may be false: there is a network of which they are true at all times, and
-- in which nothing ever goes back to before the sets that the step left; and a cache holds what the
-- report retires, after its TTL has passed.
pub record MayBeFalse (before : Before) (facts : List Fact) (roll : RollType) (second : Bool)
    (from : SetKind → ℕ) (moment ttl : ℕ) : Type 0 where
  pub network : Network
  pub are_true : (time : ℕ) → AreTrue before facts network time
  pub kind : SetKind
  pub speaks : retires roll second kind ≡ true
  pub back : (time : ℕ) → NeverGoesBack network kind (from kind) time
  pub v : ℕ
  pub time : ℕ
  pub over : moment + ttl * 1_000_000_000 ≤ time
  pub held : MayBeHeld network kind v time
  pub older : network.position kind v < from kind

-- A report with a lower TTL than the one that is due may be false.
abbrev pub LeastTtlIsDue : Type 0
LeastTtlIsDue =
    (before : Before) (facts : List Fact) (roll : RollType) (second : Bool)
    (from : SetKind → ℕ) (moment ttl less : ℕ) →
    ((kind : SetKind) → ComeInOrder (from kind) 0 first_newest (news_of kind facts)) →
    due before facts roll second from moment ≡ Ok ttl →
    less < ttl →
    MayBeFalse before facts roll second from moment less
