use Rattle.std.proofs.Common.{◌≡◌, ◌+◌, take}
use Rattle.std.specs.Prelude.{sum_by}
use Rattle.program_figures.specs.Lines.{loads_in, moves_in, stores_in}
use Rattle.program_figures.proofs.lines.count_lines.Given as goal

abbrev pub invariant-loop-line : goal.invariant-loop-line
invariant-loop-line l = record {
  moves : l.counts.moves ≡ l.initial.counts.moves + sum_by moves_in (take l.line-index l.lines);
  stores : l.counts.stores ≡ l.initial.counts.stores + sum_by stores_in (take l.line-index l.lines);
  loads : l.counts.loads ≡ l.initial.counts.loads + sum_by loads_in (take l.line-index l.lines);
}
