-- Two faults at one place are a long label and a long name: for the law `OneFaultStandsFirst`.
use Rattle.std.proofs.Common.{ℕ, ◌≡◌, ◌≤◌, sym, ap, ◌∙◌, ⊎_elim, List, arith}
use Rattle.dnssec_base.specs.{NameText.StandsFirst, NameLaws.OneFaultStandsFirst}
use Rattle.dnssec_base.specs.declared.name.error.NameError.{NameError, TheVariants.LongLabel}
use Rattle.dnssec_base.proofs.Places.{Spot, left, one_place}
use Rattle.dnssec_base.proofs.Faults.{may_be, fault_is, place_of, stands_here}

-- the fault that stands first is the one that may stand there
first_is : (text : List ℕ) (fault : NameError) (first : StandsFirst text fault)
    → fault ≡ may_be first.stands.label first.stands.after
first_is text fault first = ⊎_elim
    (λ is. is)
    (λ both. absurd (first.label_first both.0
    (stands_here text (place_of text fault first.place first.stands) LongLabel first.place
    first.stands.other first.stands.at first.stands.place_is (both.1, both.2))))
    (fault_is fault first.stands.labels first.stands.label first.stands.after first.stands.is)

pub one_fault_stands_first : OneFaultStandsFirst
one_fault_stands_first text fault other a b =
    let p : Spot = place_of text fault a.place a.stands in
    let q : Spot = place_of text other b.place b.stands in
    let up : a.place ≤ b.place = a.first other b.place b.stands in
    let down : b.place ≤ a.place = b.first fault a.place a.stands in
    let level : left p ≡ left q = omega (arith, up, down, a.stands.place_is, b.stands.place_is) in
    first_is text fault a
    ∙ ap (λ (v : Spot). may_be v.label v.after) (one_place text p q level a.stands.at b.stands.at)
    ∙ sym (first_is text other b)
