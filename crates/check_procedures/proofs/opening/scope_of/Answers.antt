use Rattle.std.proofs.Common.{sym, subst}
use Rattle.check_procedures.specs.lines.Lines.{IsLineTable}
use Rattle.check_procedures.specs.UnderWay.{IsUnderWay}
use Rattle.check_procedures.proofs.opening.scope_of.Goals as goal

pub returns-clause-under_way : goal.returns-clause-under_way
returns-clause-under_way c = subst (λ z. IsUnderWay z c.args._state.now) (sym c.inside.ensures) c.requires.under_way

pub returns-clause-lines : goal.returns-clause-lines
returns-clause-lines c = subst (λ z. IsLineTable z.source.now.bytes c.args._lines.now) (sym c.inside.ensures) c.requires.lines
