use Rattle.check_procedures.specs.numbers.Numbering.{numbering_of}
use Rattle.check_procedures.specs.numbers.Readings.{pair, designators, checked}
use Rattle.check_procedures.proofs.numbers.Keeping.{beside}
use Rattle.check_procedures.proofs.numbers.statements.renumber_head.Goals as goal

pub returns : goal.returns
returns c = beside (numbering_of c.args.scope.now) (pair designators checked) checked _ _ _ _ _ _ _ c.in_ok-renumber_change.ensures c.in_ok-renumber_checked.ensures
