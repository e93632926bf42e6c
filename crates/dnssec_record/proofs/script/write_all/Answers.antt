-- Each turn writes a front of what is left.
use Rattle.std.proofs.Common.{◌≡◌, ℕ, ◌-◌, List, ◌++◌, Option, length, take, drop, sym, ap, ◌∙◌}
use Rattle.std.proofs.Common.{append_assoc, take-append-drop}
use Rattle.std.proofs.{lemmas.List.take_rest, KnownBytes.Appends-trans}
use Rattle.std.specs.Io.KnownBytes.{Appends}
use Rattle.dnssec_record.proofs.script.write_all.Goals as goal

front_more : (a b c : Option (List ℕ)) (bytes front rest : List ℕ) (n : ℕ)
    → bytes ≡ front ++ rest → Appends a b front → Appends b c (take n rest)
    → (more : List ℕ) × (bytes ≡ more ++ take (length rest - n) (drop n rest)) × Appends a c more
front_more a b c bytes front rest n split taken took = (
  front ++ take n rest,
  split ∙ ap (λ t. front ++ t) (sym (take-append-drop n rest))
      ∙ sym (append_assoc front (take n rest) (drop n rest))
      ∙ ap (λ t. (front ++ take n rest) ++ t) (sym (take_rest rest n)),
  Appends-trans a b c front (take n rest) taken took,
)

pub loop-rest-preserved : goal.loop-rest-preserved
loop-rest-preserved g c =
    let written = c.loop-rest.invariant.0 in
    let wrote = c.in_ok-count.ensures in (
      front_more _ _ _ _ written.0 _ _ written.1 written.2 wrote.bytes,
      wrote.counted ∙ c.loop-rest.invariant.1,
    )
