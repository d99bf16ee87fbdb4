use Rattle.std.proofs.Common.{◌≡◌, ◌++◌, drop}
use Rattle.loc_state.specs.Lines.{place_of, argument_moves}
use Rattle.loc_state.proofs.arguments.argument_moves.Given as goal

abbrev pub invariant-loop-value : goal.invariant-loop-value
invariant-loop-value l = record {
  index : l.index ≡ l.value-index;
  moves : l.moves ++ argument_moves (place_of l.regs) l.index (drop l.value-index l.arguments) ≡ argument_moves (place_of l.regs) 0 l.arguments;
}
