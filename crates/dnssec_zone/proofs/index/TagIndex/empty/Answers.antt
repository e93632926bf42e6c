-- No bit is set.
use Rattle.std.proofs.Common.{Some, ap, ◌∙◌}
use Rattle.std.proofs.lemmas.Result.{IfOk-weaker}
use Rattle.dnssec_zone.proofs.BitWords.{zeros}
use Rattle.dnssec_zone.proofs.index.TagIndex.empty.Goals as goal

pub returns-clause-empty : goal.returns-clause-empty
returns-clause-empty c = IfOk-weaker c.boxed.result _ _ (λ index is t. is t
    ∙ ap Some (zeros 1024 t)) c.boxed.ensures.ok
