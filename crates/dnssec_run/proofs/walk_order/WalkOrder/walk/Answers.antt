-- A walk over the map lends its entries.
use Rattle.std.proofs.Common.{◌≡◌, ◌∷◌, List, [], map, Some, subst, String, string_bytes}
use Rattle.std.proofs.lemmas.List.Elements.{All-nil, All-cons, All-head, All-tail}
use Rattle.std.specs.{List.All, Global.Global}
use Rattle.dnssec_key.specs.Key.{KeyParts}
use Rattle.dnssec_run.{specs.Recorder.entry_lent, proofs.Lent.all-lent}
use Rattle.std.specs.HashMap as hash
use Rattle.dnssec_run.proofs.walk_order.WalkOrder.walk.Goals as goal

-- what holds of the entries of the map holds of those that are lent
lends : {A X : Type 0} (P : X → Type 0) (f : A → X) (xs : List A) → All P (map f xs)
    → All (λ a. P (f a)) xs
lends P f [] h = All-nil (λ a. P (f a))
lends P f (x ∷ xs) h = All-cons (λ a. P (f a)) x xs (All-head P (f x) (map f xs) h)
    (lends P f xs (All-tail P (f x) (map f xs) h))

pub returns : goal.returns
returns c =
    let P : String Global × KeyParts → Type 0 =
    λ e. hash.get_by_text c.args.keys.now (string_bytes e.0) ≡ Some e.1 in
    let ran = c.in_ok-entries.ensures.ran in
    let walked = all-lent entry_lent c.iter.ensures.rest ran.1.1 (ran.1.2 tt).1.0 ran.2.0 in
    lends P entry_lent c.in_ok-entries.entries.items (subst (All P) walked c.iter.ensures.found)
