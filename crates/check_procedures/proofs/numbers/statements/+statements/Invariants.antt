use Rattle.std.proofs.Common.{take}
use Rattle.check_procedures.specs.numbers.Numbering.{KeepsMeaning, numbering_of}
use Rattle.check_procedures.specs.numbers.Readings.{each, statements, branches, case_parts, type_parts}
use Rattle.check_procedures.proofs.numbers.statements.+statements.Given as goal

abbrev pub invariant-renumber_statements-loop-i : goal.invariant-renumber_statements-loop-i
invariant-renumber_statements-loop-i l =
    goal.unvisited-renumber_statements-loop-i l
    × KeepsMeaning (each statements) (numbering_of l.scope) (record { tree = take l.i l.initial.list.items; made = take l.i l.list.items; before = l.initial.uses; after = l.uses })

abbrev pub invariant-renumber_branches-loop-i : goal.invariant-renumber_branches-loop-i
invariant-renumber_branches-loop-i l =
    goal.unvisited-renumber_branches-loop-i l
    × KeepsMeaning (each branches) (numbering_of l.scope) (record { tree = take l.i l.initial.list.items; made = take l.i l.list.items; before = l.initial.uses; after = l.uses })

abbrev pub invariant-renumber_case_parts-loop-i : goal.invariant-renumber_case_parts-loop-i
invariant-renumber_case_parts-loop-i l =
    goal.unvisited-renumber_case_parts-loop-i l
    × KeepsMeaning (each case_parts) (numbering_of l.scope) (record { tree = take l.i l.initial.list.items; made = take l.i l.list.items; before = l.initial.uses; after = l.uses })

abbrev pub invariant-renumber_type_parts-loop-i : goal.invariant-renumber_type_parts-loop-i
invariant-renumber_type_parts-loop-i l =
    goal.unvisited-renumber_type_parts-loop-i l
    × KeepsMeaning (each type_parts) (numbering_of l.scope) (record { tree = take l.i l.initial.list.items; made = take l.i l.list.items; before = l.initial.uses; after = l.uses })
