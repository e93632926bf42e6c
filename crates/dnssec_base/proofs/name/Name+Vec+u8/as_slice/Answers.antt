use Rattle.dnssec_base.proofs.name.Name+Vec+u8.as_slice.Goals as goal

pub returns-clause-bytes : goal.returns-clause-bytes
returns-clause-bytes c = search
