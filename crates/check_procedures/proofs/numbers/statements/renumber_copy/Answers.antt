use Rattle.check_procedures.specs.numbers.Numbering.{numbering_of}
use Rattle.check_procedures.specs.numbers.Readings.{designators}
use Rattle.check_procedures.proofs.numbers.Keeping.{beside}
use Rattle.check_procedures.proofs.numbers.statements.renumber_copy.Goals as goal

pub returns : goal.returns
returns c = beside (numbering_of c.args.scope.now) designators designators _ _ _ _ _ _ _ c.in_ok-renumber_designator.ensures c.in_ok-renumber_designator-2.ensures
