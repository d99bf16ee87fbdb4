use Rattle.ssa_lowered.proofs.Stands.{proc_stands}
use Rattle.ssa_lowered.proofs.laws.pieces_stand.Goals as goal

pub returns-clause-pieces : goal.returns-clause-pieces
returns-clause-pieces c p l f q = (proc_stands p l f q).0

pub returns-clause-end : goal.returns-clause-end
returns-clause-end c p l f q = (proc_stands p l f q).1
