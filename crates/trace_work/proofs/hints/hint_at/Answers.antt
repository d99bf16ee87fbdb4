use Rattle.std.proofs.Common.{sym}
use Rattle.trace_work.proofs.Hinted.{row_none}
use Rattle.trace_work.proofs.hints.hint_at.Goals as goal

pub returns-in-None-clause-hint : goal.returns-in-None-clause-hint
returns-in-None-clause-hint c = sym (row_none c.args.regs c.args.at.node c.args.out.now.ends c.args.at.place c.requires (sym c.in-None.ensures))
