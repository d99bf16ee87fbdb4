use Rattle.std.proofs.Common.{sym, subst}
use Rattle.ob_types.specs.Counted.{IsCounted, IsLaidOut}
use Rattle.type_rows.proofs.Sampled.{is_counted, is_laid_out}
use Rattle.type_rows.proofs.sample.align.Goals as goal

pub align-requires-clause-counted : goal.align-requires-clause-counted
align-requires-clause-counted c = subst IsCounted (sym c.requires.table) is_counted

pub align-requires-clause-laid_out : goal.align-requires-clause-laid_out
align-requires-clause-laid_out c = subst IsLaidOut (sym c.requires.table) is_laid_out
