use Rattle.std.proofs.Common.{◌≡◌, List, ℕ, [], ◌-◌, ◌≤◌}
use Rattle.run_laws.specs.Runs.{run}
use Rattle.a64_machine.specs.Machine.{step_of}
use Rattle.a64_machine.specs.View.{code_of, state_of}
use Rattle.outside.specs.Sink.{TookAll}
use Rattle.a64_machine.proofs.Running.{Runs}
use Rattle.a64_machine.proofs.machine.Machine.run.Given as goal

abbrev pub invariant-loop-n : goal.invariant-loop-n
invariant-loop-n g l =
    let old = l.initial.out in
    let f = step_of (code_of l.fn.self) in
    (done : List ℕ)
    × (code_of l.machine ≡ code_of l.fn.self)
    × Runs f (run f l.steps (state_of l.fn.self) []) (l.steps - l._n) (state_of l.machine) done
    × TookAll (g.O.Sink.account old) (g.O.Sink.account l.out) done
    × ((g.O.Sink.account old).faults ≤ (g.O.Sink.account l.out).faults)
