-- No call is made yet.
use Rattle.std.proofs.Common.{◌≡◌, ◌∙◌, ℕ, List, [], None, refl, sym}
use Rattle.dnssec_key.specs.declared.roll.RollType.{RollType}
use Rattle.dnssec_policy.specs.{Automatic.last_below, ByHand.first_by_hand}
use Rattle.dnssec_policy.proofs.automatic.zone.Calls.new.Goals as goal

none_yet : (roll : RollType) → last_below [] [] roll 0 ≡ None
unfolding last_below
none_yet roll = refl

none_by_hand : (name : List ℕ) → first_by_hand name [] [] 0 ≡ None
unfolding first_by_hand
none_by_hand name = refl

pub returns : goal.returns
returns c = record {
  stands = c.in_ok-new.ensures;
  lasts = λ roll. c.new-2.ensures roll ∙ sym (none_yet roll);
  first = c.new-3.ensures ∙ sym (none_by_hand c.args.name);
}
