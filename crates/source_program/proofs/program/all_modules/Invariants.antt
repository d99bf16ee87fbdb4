use Rattle.source_program.specs.Behind.{IsBehind}
use Rattle.source_program.proofs.program.all_modules.Given as goal

abbrev pub invariant-loop-index : goal.invariant-loop-index
invariant-loop-index l = IsBehind l.texts l.index l.state
