use Rattle.ssa_statements.proofs.Straight.{gives_tested}
use Rattle.ssa_exprs.specs.Named.{named_of}
use Rattle.ssa_statements.proofs.simple.fit_lengths.Goals as goal

pub returns : goal.returns
returns c = gives_tested c.args.n c.args.m (named_of c.args.to) (named_of c.args.from) c.in_ok-a.ensures c.in_ok-c.ensures c.in_ok-act.ensures
