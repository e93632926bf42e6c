-- What is derived of the keys agrees with them.
use Rattle.dnssec_zone.specs.Inner.TagIndex.{has}
use Rattle.dnssec_zone.specs.declared.derived.Derived.{Derived}
use Rattle.dnssec_zone.specs.Keys.{Keys}
use Rattle.dnssec_zone.specs.Inner.Counts.{CountsAgree, AreCountable}
use Rattle.dnssec_zone.specs.Inner.Reported.{AreKnown}
use Rattle.dnssec_zone.specs.Inner.Tags.{TagsAgree}

-- the tags, the counts, and what is known of the waits in progress; also that there are no more
-- keys than a count can tell
abbrev pub IsDerived : Derived → Keys → Type 0
IsDerived d keys =
    TagsAgree (has d.tags) keys × CountsAgree d.counts keys × AreKnown d.waits keys
    × AreCountable keys
