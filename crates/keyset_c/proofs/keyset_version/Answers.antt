use Rattle.keyset_c.proofs.keyset_version.Goals as goal

pub returns : goal.returns
returns c = search
