use Rattle.std.proofs.Common.{◌≡◌, ◌++◌, drop}
use Rattle.trace_rows.specs.Cells.{cells_text}
use Rattle.trace_rows.proofs.cells.put_cells.Given as goal

abbrev pub invariant-loop-reg : goal.invariant-loop-reg
invariant-loop-reg l = l.text.items ++ cells_text l.hits l.reg (drop l.reg l.regs) ≡ l.initial.text.items ++ cells_text l.hits 0 l.regs
