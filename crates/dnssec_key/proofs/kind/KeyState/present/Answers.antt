use Rattle.dnssec_key.proofs.kind.KeyState.present.Goals as goal

pub returns : goal.returns
returns c = search
