use Rattle.std.proofs.Common.{sym}
use Rattle.ob_eval.proofs.Taking.{took_no_cell, took_number, took_no_number}
use Rattle.ob_eval.proofs.machine.Machine.take_number.Goals as goal

pub returns-in-Err : goal.returns-in-Err
returns-in-Err c = took_no_cell c.args.self.now c.take_cell.new.self c.in-Err.stop c.in-Err.ensures

pub returns-in-Some : goal.returns-in-Some
returns-in-Some c = took_number c.args.self.now c.take_cell.new.self c.in-Ok.cell c.in-Some.n c.in-Ok.ensures (sym c.in-Some.ensures)

pub returns-in-None : goal.returns-in-None
returns-in-None c = took_no_number c.args.self.now c.take_cell.new.self c.in-Ok.cell c.in-Ok.ensures (sym c.in-None.ensures)
