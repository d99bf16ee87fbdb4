-- What is told of registers, beside the walk by names.
use Rattle.std.specs.Prelude.{◌≡◌, ℕ, ◌+◌, List, [], ◌∷◌, map, drop, Option, Some, slice_get}
use Rattle.lir_core.specs.declared.flow.Lir.{Lir}
use Rattle.lir_core.specs.declared.places.Line.{Line}
use Rattle.lir_core.specs.declared.places.Line.TheVariants.{Store, Load, Moves, Result, Target}
use Rattle.lir_core.specs.declared.places.Line.TheVariants.{Lir as Does}
use Rattle.lir_core.specs.Flows.{operation_of}
use Rattle.lir_core.specs.Spots.{Spot, reg, get}
use Rattle.lir_core.specs.Walks.{Walker, after}
use Rattle.trace_rows.specs.Registers.{behind, names_of}

-- each value that is told of a register stands there
abbrev pub AreTold : List (Option ℕ) → (Spot → Option ℕ) → Type 0
AreTold regs view = (r v : ℕ) → get regs r ≡ Some v → view (reg r) ≡ Some v

-- how many of the registers named for a node a line uses up
abbrev pub line_names : List Lir → Line → ℕ
line_names ops (Does i) = names_of (slice_get ops i)
line_names ops (Store r v) = 0
line_names ops (Load r v) = 0
line_names ops (Moves ms) = 0
line_names ops (Result r) = 0
line_names ops (Target from) = 0

-- so it is before and behind each line, where `used` of the named registers are used up
abbrev pub EachTold : List Lir → (named : List ℕ) → List Line → (used : ℕ) → Walker → List (Option ℕ) → Type 0
EachTold ops named [] used w regs = AreTold regs w.view
EachTold ops named (l ∷ ls) used w regs =
    AreTold regs w.view
    × EachTold ops named ls (used + line_names ops l) (after (map operation_of ops) l w) (behind ops (drop used named) l regs)
