use Rattle.std.proofs.Common.{sym, subst}
use Rattle.ob_types.specs.Counted.{IsCounted, IsLaidOut}
use Rattle.type_rows.proofs.Sampled.{is_counted, is_laid_out}
use Rattle.type_rows.proofs.sample.bytes.Goals as goal

pub bytes-requires-clause-counted : goal.bytes-requires-clause-counted
bytes-requires-clause-counted c = subst IsCounted (sym c.requires.table) is_counted

pub bytes-requires-clause-laid_out : goal.bytes-requires-clause-laid_out
bytes-requires-clause-laid_out c = subst IsLaidOut (sym c.requires.table) is_laid_out
