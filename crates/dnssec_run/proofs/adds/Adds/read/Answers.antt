-- A key is found as it is read.
use Rattle.std.proofs.Common.{◌∙◌, ap, sym}
use Rattle.std.proofs.lemmas.Result.{on_ok_weaker}
use Rattle.std.specs.HashMap as hash
use Rattle.std.specs.Option.{option_map}
use Rattle.dnssec_run.specs.Adds.{listing_in, listing_of, reread}
use Rattle.dnssec_run.proofs.Moves.{read-found}
use Rattle.dnssec_run.proofs.adds.Adds.read.Goals as goal

pub returns-in-Few-clause-read : goal.returns-in-Few-clause-read
returns-in-Few-clause-read c =
    let key = hash.get_by_text c.args.keys.now in
    on_ok_weaker c.read_few.result (λ read q. ap (λ es. listing_of es q) read
    ∙ read-found key _ q
    ∙ ap (λ kept. option_map (reread (key q)) (listing_in kept q)) (sym c.in-Few.is))
    c.read_few.ensures.read
