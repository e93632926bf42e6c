-- The keys that have been marked so far, with their tags and counts.
use Rattle.std.proofs.Common.{take}
use Rattle.dnssec_zone.specs.Inner.{KeyMark.marked, Counts.CountsAgree, Counts.AreCountable}
use Rattle.dnssec_zone.specs.{Inner.TagIndex.has, Inner.Tags.TagsAgree, Keys.keys_in_map}
use Rattle.dnssec_zone.proofs.Marks.{IsMarked}
use Rattle.dnssec_zone.proofs.keys.Keys.mark.Given as goal

-- the keys so far are marked, and the tags and counts are theirs
abbrev pub invariant-loop-reference : goal.invariant-loop-reference
invariant-loop-reference l =
    let keys = keys_in_map l.self-inside.map in
    TagsAgree (has l.self-inside.derived.tags) keys
    × CountsAgree l.self-inside.derived.counts keys × AreCountable keys
    × IsMarked (marked l.mark) (take l.reference-index l.references)
    (keys_in_map l.initial.self-inside.map) keys
