use Rattle.std.proofs.Common.{◌≡◌, ◌++◌, drop, map}
use Rattle.boundary_resolve.specs.declared.code_line.CodeLine.TheVariants.{Body}
use Rattle.boundary_resolve.proofs.code.push_lines.Given as goal

abbrev pub invariant-loop-line : goal.invariant-loop-line
invariant-loop-line l = l.placed.items ++ map Body (drop l.line-index l.lines) ≡ l.initial.placed.items ++ map Body l.lines
