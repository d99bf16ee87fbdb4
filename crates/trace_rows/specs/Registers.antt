-- Which value each register has behind a line, and which registers a line names.
use Rattle.std.specs.Prelude.{ℕ, Bool, cond, List, [], ◌∷◌, map, take, length, get_or, flat_map, Option, Some, None, slice_get, slice_set}
use Rattle.block_runs.specs.Valid.{is_call}
use Rattle.lir_core.specs.declared.flow.Lir.{Lir}
use Rattle.lir_core.specs.declared.places.Place.{Place}
use Rattle.lir_core.specs.declared.places.Place.TheVariants.{Reg, Home, Out}
use Rattle.lir_core.specs.declared.places.Move.{Move}
use Rattle.lir_core.specs.declared.places.Line.{Line}
use Rattle.lir_core.specs.declared.places.Line.TheVariants.{Store, Load, Moves, Result, Target}
use Rattle.lir_core.specs.declared.places.Line.TheVariants.{Lir as Does}
use Rattle.lir_core.specs.Flows.{operation_of}
use Rattle.lir_core.specs.Spots.{get}
use Rattle.lir_core.specs.Lines.{names}
use Rattle.lir_core.specs.Walks.{without}
use Rattle.parallel_move.specs.declared.step.Step.{Step}
use Rattle.parallel_move.specs.declared.step.Step.TheVariants.{Copy, Save, Restore}

---- Operations

-- a call leaves nothing in registers
abbrev pub left_by : Bool → List (Option ℕ) → List (Option ℕ)
left_by call regs = cond call (map (λ x. None) regs) regs

-- a value is made: a register has it, and no other does
abbrev pub made : ℕ → Option ℕ → List (Option ℕ) → List (Option ℕ)
made r None regs = regs
made r (Some v) regs = slice_set (map (without v) regs) r (Some v)

-- X0 for a call, else the register named for the value
abbrev pub def_register : Lir → List ℕ → ℕ
def_register op named = cond (is_call op.template) 0 (get_or named (length op.uses) 0)

-- where `named` are the registers named for what comes
abbrev pub performed : List ℕ → Option Lir → List (Option ℕ) → List (Option ℕ)
performed named None regs = regs
performed named (Some op) regs = made (def_register op named) op.def (left_by (is_call op.template) regs)

---- Moves

-- what a place has: a home its own value; what slots have isn't told
abbrev pub held_at : List (Option ℕ) → Place → Option ℕ
held_at regs (Reg r) = get regs r
held_at regs (Home v) = Some v
held_at regs (Out s) = None

abbrev pub given : Place → Option ℕ → List (Option ℕ) → List (Option ℕ)
given (Reg r) held regs = slice_set regs r held
given (Home v) held regs = regs
given (Out s) held regs = regs

-- all at once; of two moves to a register the first counts
abbrev pub moved : List (Option ℕ) → List Move → List (Option ℕ)
moved old [] = old
moved old (m ∷ ms) = given m.to (held_at old m.from) (moved old ms)

---- Lines

-- the registers behind a line of a node with these operations
abbrev pub behind : List Lir → List ℕ → Line → List (Option ℕ) → List (Option ℕ)
behind ops named (Does i) regs = performed named (slice_get ops i) regs
behind ops named (Store r v) regs = regs
behind ops named (Load r v) regs = slice_set regs r (Some v)
behind ops named (Moves ms) regs = moved regs ms
behind ops named (Result r) regs = slice_set (slice_set regs r (get regs 0)) 0 None
behind ops named (Target from) regs = regs

-- how many registers are named for an operation
abbrev pub names_of : Option Lir → ℕ
names_of None = 0
names_of (Some op) = names (operation_of op)

---- What a line names

abbrev pub register_at : Place → List ℕ
register_at (Reg r) = r ∷ []
register_at (Home v) = []
register_at (Out s) = []

abbrev pub register_to : Move → List ℕ
register_to m = register_at m.to

-- of a call the register of its result, of another operation all that are named for it
abbrev pub result_register : Option ℕ → List ℕ
result_register None = []
result_register (Some v) = 0 ∷ []

abbrev pub named_by : List ℕ → Option Lir → List ℕ
named_by named None = []
named_by named (Some op) = cond (is_call op.template) (result_register op.def) (take (names (operation_of op)) named)

abbrev pub hits : List Lir → List ℕ → Line → List ℕ
hits ops named (Does i) = named_by named (slice_get ops i)
hits ops named (Store r v) = r ∷ []
hits ops named (Load r v) = r ∷ []
hits ops named (Moves ms) = flat_map register_to ms
hits ops named (Result r) = r ∷ []
hits ops named (Target from) = register_at from

abbrev pub step_hits : Step → List ℕ
step_hits (Copy to from) = register_at to
step_hits (Save from) = register_at from
step_hits (Restore to) = register_at to
