use Rattle.std.proofs.Common.{take}
use Rattle.check_procedures.specs.numbers.Numbering.{KeepsMeaning, numbering_of}
use Rattle.check_procedures.specs.numbers.Readings.{each, links, selectors, arguments}
use Rattle.check_procedures.proofs.numbers.expressions.+expressions.Given as goal

abbrev pub invariant-renumber_links-loop-i : goal.invariant-renumber_links-loop-i
invariant-renumber_links-loop-i l =
    goal.unvisited-renumber_links-loop-i l
    × KeepsMeaning (each links) (numbering_of l.scope) (record { tree = take l.i l.initial.list.items; made = take l.i l.list.items; before = l.initial.uses; after = l.uses })

abbrev pub invariant-renumber_selectors-loop-i : goal.invariant-renumber_selectors-loop-i
invariant-renumber_selectors-loop-i l =
    goal.unvisited-renumber_selectors-loop-i l
    × KeepsMeaning (each selectors) (numbering_of l.scope) (record { tree = take l.i l.initial.list.items; made = take l.i l.list.items; before = l.initial.uses; after = l.uses })

abbrev pub invariant-renumber_arguments-loop-i : goal.invariant-renumber_arguments-loop-i
invariant-renumber_arguments-loop-i l =
    goal.unvisited-renumber_arguments-loop-i l
    × KeepsMeaning (each arguments) (numbering_of l.scope) (record { tree = take l.i l.initial.list.items; made = take l.i l.list.items; before = l.initial.uses; after = l.uses })
