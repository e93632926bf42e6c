-- The highest TTLs are those of the same lines.
use Rattle.std.proofs.Common.{List, ap, map, subst, sym, ℕ, ◌∙◌}
use denote.Bor.{now}
use Rattle.dnssec_network.specs.Text.Reading.{AreNotes}
use Rattle.dnssec_policy.proofs.automatic.zone_notes.ZoneNotes.read.Goals as goal

pub returns-clause-highest : goal.returns-clause-highest
returns-clause-highest c =
    let notes = c.in_ok-notes.notes in let moments = c.args.moments.now in
    let lines = ap (map now) c.deref.ensures.value ∙ c.in_ok-lines.ensures in
    c.highest_in-highest.ensures moments notes.before notes.facts
    (subst (λ (ls : List (List ℕ)). AreNotes moments ls notes.before notes.facts) (sym lines)
    c.in_ok-notes.ensures.ok)
