use Rattle.std.proofs.Common.{map, take}
use Rattle.std.specs.List.{AllZip}
use Rattle.batch_list.proofs.Reading.{IsLineOf}
use Rattle.batch_list.proofs.lines.read_lines.Given as goal

abbrev pub invariant-loop-i : goal.invariant-loop-i
invariant-loop-i l = AllZip IsLineOf (take l.i (map (λ w. w.now) l.all.items)) l.lines.items
