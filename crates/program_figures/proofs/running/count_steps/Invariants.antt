use Rattle.std.proofs.Common.{◌≡◌}
use Rattle.a64_machine.specs.Machine.{step_of}
use Rattle.a64_machine.specs.View.{code_of, state_of}
use Rattle.program_figures.proofs.Counting.{Goes}
use Rattle.program_figures.proofs.running.count_steps.Given as goal

abbrev pub invariant-loop-made : goal.invariant-loop-made
invariant-loop-made l = record {
  code : code_of l.machine ≡ code_of l.fn.machine;
  goes : Goes (step_of (code_of l.fn.machine)) (state_of l.fn.machine) l.made (state_of l.machine);
}
