-- The chain by the algorithm of any key of the DS set is a chain.
use Rattle.std.proofs.Common.{[], ◌∷◌, ◌≡◌, ℕ, List, inl, inr, refl, sym, subst, arith}
use Rattle.std.specs.List.{Contains}
use Rattle.dnssec_run.specs.{ByAlgorithm.HasChainByEach, Published.Id, Safe.HasChain, Safe.Position}
use Rattle.dnssec_run.proofs.plain.each_chain_is_one.Goals as goal

one : (algorithm : Id → ℕ) (p q z : Position) → HasChainByEach algorithm p q z → (ds : List Id)
    → p.ds ≡ ds → HasChain p q z
one algorithm p q z h [] e = inl e
one algorithm p q z h (d ∷ ds) e =
    let there : Contains p.ds d = subst (λ l. Contains l d) (sym e) (0, omega arith, refl) in
    let c = h d there in
    inr ((c.0.0, c.0.2, c.0.3, c.0.4), (c.1.0, c.1.2, c.1.3))

pub returns : goal.returns
returns c = λ algorithm p q z h. one algorithm p q z h p.ds refl
