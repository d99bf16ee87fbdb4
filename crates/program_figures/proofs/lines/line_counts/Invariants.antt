use Rattle.std.proofs.Common.{◌≡◌, map, take}
use Rattle.program_figures.specs.Lines.{loads_in, moves_in, over_all, stores_in}
use Rattle.program_figures.proofs.lines.line_counts.Given as goal

abbrev pub invariant-loop-lines : goal.invariant-loop-lines
invariant-loop-lines l = record {
  moves : l.counts.moves ≡ over_all moves_in (map (λ v. v.items) (take l.lines-index l.parts));
  stores : l.counts.stores ≡ over_all stores_in (map (λ v. v.items) (take l.lines-index l.parts));
  loads : l.counts.loads ≡ over_all loads_in (map (λ v. v.items) (take l.lines-index l.parts));
}
