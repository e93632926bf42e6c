-- The texts of refused facts.
use Rattle.std.specs.Prelude.{ℕ, List, codes}
use Rattle.dnssec_network.specs.declared.fact.NoteFault.{NoteFault, TheVariants.CallNotMade}
use Rattle.dnssec_network.specs.declared.fact.NoteFault.TheVariants.{PublishedBeforeCall}
use Rattle.dnssec_network.specs.declared.fact.NoteFault.TheVariants.{SeenBeforePublished}
use Rattle.dnssec_network.specs.declared.fact.NoteFault.TheVariants.{MomentFalls, OutOfMemory}

-- what is said if memory runs out
abbrev pub memory_text : List ℕ
memory_text = codes "out of memory"

-- the text of each cause
abbrev pub fault_text : NoteFault → List ℕ
fault_text CallNotMade = codes "no such call yet"
fault_text PublishedBeforeCall = codes "published before its call"
fault_text SeenBeforePublished = codes "seen before it was published"
fault_text MomentFalls = codes "moment before the last one"
fault_text OutOfMemory = memory_text
