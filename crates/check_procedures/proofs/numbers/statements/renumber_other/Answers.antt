use Rattle.std.proofs.Common.{sym}
use Rattle.check_procedures.specs.numbers.Numbering.{numbering_of}
use Rattle.check_procedures.specs.numbers.Readings.{checked, statements}
use Rattle.check_procedures.proofs.numbers.Keeping.{at}
use Rattle.check_procedures.proofs.numbers.StatementParts.{out_int}
use Rattle.check_procedures.proofs.numbers.statements.renumber_other.Goals as goal

pub returns-in_ok-renumber_checked-in-OutInt-2 : goal.returns-in_ok-renumber_checked-in-OutInt-2
returns-in_ok-renumber_checked-in-OutInt-2 c = λ no_compound no_update.
    at (numbering_of c.args.scope.now) statements _ _ _ _ _ c.in-OutInt.is
    (out_int (numbering_of c.args.scope.now) c.in-OutInt.x c.in-OutInt.width c.renumber_checked-in-OutInt.new.x c.renumber_checked-in-OutInt-2.new.x _ _ _
    (at (numbering_of c.args.scope.now) checked _ _ _ _ _ (sym c.in-OutInt.x-is) c.in_ok-renumber_checked-in-OutInt.ensures)
    (at (numbering_of c.args.scope.now) checked _ _ _ _ _ (sym c.in-OutInt.width-is) c.in_ok-renumber_checked-in-OutInt-2.ensures))
