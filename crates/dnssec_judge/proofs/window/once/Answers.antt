-- The bit of the key is written, if it moves.
use Rattle.dnssec_judge.proofs.Base.{[], ◌∙◌, ◌∷◌, has_bit, if◌then◌else◌, nat_eq, sym}
use Rattle.dnssec_judge.proofs.Adds.{moved-bit, moves-as}
use Rattle.dnssec_judge.proofs.window.once.Goals as goal

pub returns-in-Some : goal.returns-in-Some
returns-in-Some c t table is counts n =
    let moved = moves-as _ _ c.in-Some.comes (sym c.moves.ensures ∙ c.in-Some.is) in
    moved-bit t table c.args.list c.args.change.now c.args.number n
    (has_bit (c.args.first ∷ []) n) _ counts is moved.0
    (c.put.ensures n [] ∙ (λ i. if nat_eq c.args.number n then sym moved.1 i
    else has_bit (c.args.first ∷ []) n))
