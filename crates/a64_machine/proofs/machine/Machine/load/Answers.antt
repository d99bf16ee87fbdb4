use Rattle.std.specs.Prelude.{slice_index}
use Rattle.a64_machine.proofs.Starting.{started}
use Rattle.a64_machine.proofs.machine.Machine.load.Goals as goal

pub returns-clause-state : goal.returns-clause-state
returns-clause-state c =
    started c.args.image c.args.input.items (λ i. slice_index c.first_registers.result i) c.clear_flags.result c.in_ok-memory.memory.items c.first_registers.ensures c.clear_flags.ensures c.in_ok-memory.ensures
