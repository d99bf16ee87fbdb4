-- What the machine's answers say of its steps and of the sink.
use Rattle.std.specs.Prelude.{◌≡◌, ℕ, List, [], Option, Some, None}
use Rattle.run_laws.specs.Runs as runs
use Rattle.a64_machine.specs.State.{State}
use Rattle.a64_machine.specs.State as why
use Rattle.a64_memory.specs.Texts.{Text, Bytes, Outside}
use Rattle.a64_machine.specs.declared.answers.Step.{Step}
use Rattle.a64_machine.specs.declared.answers.Step.TheVariants.{Going, Ended, Trapped, Undefined, BadAddress, BadCall, WriteFault}
use Rattle.a64_machine.specs.declared.answers.Halt.{Halt}
use Rattle.a64_machine.specs.declared.answers.Halt.TheVariants as halt

-- a machine at s answers a step so, and is at t afterwards: where it goes on, at the step's next state, and the sink took all
-- that the step writes; where it halts, at s as before, and nothing was taken; at a write fault too, with a front taken
abbrev pub Made : Step → State → State → runs.Step State why.Trap → (List ℕ → Type 0) → (List ℕ → Type 0) → Type 0
Made Going s t step all front = (bytes : List ℕ) × (step ≡ runs.Moves bytes t) × all bytes
Made Ended s t step all front = (step ≡ runs.Ends) × (t ≡ s) × all []
Made (Trapped kind word) s t step all front = (step ≡ runs.Traps (why.Broke kind word)) × (t ≡ s) × all []
Made (Undefined word) s t step all front = (step ≡ runs.Traps (why.Undefined word)) × (t ≡ s) × all []
Made (BadAddress address) s t step all front = (step ≡ runs.Traps (why.BadAddress address)) × (t ≡ s) × all []
Made (BadCall number) s t step all front = (step ≡ runs.Traps (why.BadCall number)) × (t ≡ s) × all []
Made WriteFault s t step all front = (bytes : List ℕ) × (next : State) × (step ≡ runs.Moves bytes next) × (t ≡ s) × front bytes

-- the text lies in the memory and its bytes are such
abbrev pub OfBytes : Text → (List ℕ → Type 0) → Type 0
OfBytes text P = (bytes : List ℕ) × (text ≡ Bytes bytes) × P bytes

-- the first address of the text that lies in no area; nothing where it all lies in the memory
abbrev pub Lacks : Option ℕ → Text → Type 0
Lacks (Some address) text = text ≡ Outside address
Lacks None text = (bytes : List ℕ) × (text ≡ Bytes bytes)

-- a run answers so: the outcome and, where it isn't a write fault, all of its output was taken, else a front of it
abbrev pub Ran : Halt → runs.Outcome why.Trap → (List ℕ → Type 0) → (List ℕ → Type 0) → Type 0
Ran halt.Spent outcome all front = (out : List ℕ) × (outcome ≡ runs.Going out) × all out
Ran halt.Ended outcome all front = (out : List ℕ) × (outcome ≡ runs.Ended out) × all out
Ran (halt.Trapped kind word) outcome all front = (out : List ℕ) × (outcome ≡ runs.Trapped (why.Broke kind word) out) × all out
Ran (halt.Undefined word) outcome all front = (out : List ℕ) × (outcome ≡ runs.Trapped (why.Undefined word) out) × all out
Ran (halt.BadAddress address) outcome all front = (out : List ℕ) × (outcome ≡ runs.Trapped (why.BadAddress address) out) × all out
Ran (halt.BadCall number) outcome all front = (out : List ℕ) × (outcome ≡ runs.Trapped (why.BadCall number) out) × all out
Ran halt.WriteFault outcome all front = front (runs.output outcome)
