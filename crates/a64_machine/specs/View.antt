-- How the code's values are seen: a core as a state, and an answer as what a step comes to.
use Rattle.std.specs.Prelude.{◌≡◌, ℕ, List, [], drop, slice_index, Option, Some, None}
use Rattle.run_laws.specs.Runs as runs
use Rattle.a64_instr.specs.declared.instr.Instr.{Instr}
use Rattle.a64_instr.specs.declared.instr.Instr.TheVariants.{Svc}
use Rattle.a64_machine.specs.State.{State}
use Rattle.a64_machine.specs.State as why
use Rattle.a64_machine.specs.declared.processor.Core.{Core}
use Rattle.a64_machine.specs.declared.machine.Machine.{Machine}
use Rattle.a64_machine.specs.declared.answers.Step.{Step}
use Rattle.a64_machine.specs.declared.answers.Step.TheVariants.{Going, Ended, Trapped, Undefined, BadAddress, BadCall, WriteFault}

-- the state that a core is in
abbrev pub core_state : Core → State
core_state c = record {
  pc = c.pc;
  registers = λ n. slice_index c.registers n;
  sp = c.sp;
  flags = c.flags;
  memory = c.memory.items;
  input = drop c.taken c.input.items;
}

-- the code that a machine runs, and the state that it is in
abbrev pub code_of : Machine → List ℕ
code_of m = m.code

abbrev pub state_of : Machine → State
state_of m = core_state m.core

-- a machine at s answers a step that writes nothing so, and is at t afterwards: where it goes on, at the step's
-- next state, and where it halts, at s as before
abbrev pub Told : Step → State → State → runs.Step State why.Trap → Type 0
Told Going s t step = step ≡ runs.Moves [] t
Told Ended s t step = (step ≡ runs.Ends) × (t ≡ s)
Told (Trapped kind word) s t step = (step ≡ runs.Traps (why.Broke kind word)) × (t ≡ s)
Told (Undefined word) s t step = (step ≡ runs.Traps (why.Undefined word)) × (t ≡ s)
Told (BadAddress address) s t step = (step ≡ runs.Traps (why.BadAddress address)) × (t ≡ s)
Told (BadCall number) s t step = (step ≡ runs.Traps (why.BadCall number)) × (t ≡ s)
Told WriteFault s t step = ⊥

-- the answer where no instruction is at an address: there is no word, or it isn't in the table
abbrev pub stop_of : ℕ → Option ℕ → Step
stop_of pc None = BadAddress pc
stop_of pc (Some word) = Undefined word

-- the number of an SVC
abbrev pub service_number : Instr → Option ℕ
service_number (Svc number) = Some number
service_number _ = None
