-- What is known of a zone at a moment.
use Rattle.std.specs.Prelude.{ℕ, Option, List}
use Rattle.dnssec_key.specs.declared.roll.RollType.{RollType}
use Rattle.dnssec_keyset.specs.{KeySet.KeySetParts, declared.wait.WaitEnd.WaitEnd}
use Rattle.dnssec_run.specs.declared.{caches.SetKind.SetKind, running.LastStep.LastStep}
use Rattle.dnssec_run.specs.Safe.{SetKind as SafeKind, kind_of}
use Rattle.dnssec_network.specs.declared.{fact.Fact.Fact, spread.Reach.Reach}
use Rattle.dnssec_network.specs.Facts.{Before, news_of, ttl_before}
use Rattle.dnssec_network.specs.{Reach.reach_of, Spread.known}

pub record View : Type 0 where
  pub set : KeySetParts
  pub step : RollType → Option LastStep  -- a roll's last start or first wait
  pub last : RollType → Option ℕ  -- the position of its last second wait
  pub end : RollType → Option WaitEnd  -- when its wait is over
  pub highest : SafeKind → ℕ  -- the highest TTL noted of a kind
  pub before : Before
  pub facts : List Fact
  pub now : ℕ

-- how far the sets of a kind have come that came at a position
abbrev pub reach_in : View → SetKind → ℕ → Reach
reach_in v kind base = reach_of base
    (known base (ttl_before v.before (kind_of kind)) (news_of (kind_of kind) v.facts)) v.now
