use Rattle.dnssec_base.proofs.name.piece.split_piece.Goals as goal

pub returns-in-46-clause-ok : goal.returns-in-46-clause-ok
returns-in-46-clause-ok c = search
