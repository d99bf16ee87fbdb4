-- What lines name, and what each moves.
use Rattle.std.specs.Prelude.{◌≡◌, ℕ, zero, suc, ◌+◌, ◌-◌, ◌<◌, Bool, true, false, cond, max, List, [], ◌∷◌, length, map, get_or, take, drop, Option, Some, None}
use Rattle.block_runs.specs.declared.code.Code.{Code}
use Rattle.block_runs.specs.declared.code.Code.TheVariants.{CallAt}
use Rattle.block_runs.specs.declared.end.End.{End}
use Rattle.block_runs.specs.declared.end.End.TheVariants.{Jump, Branch, Nonzero, Return, Trap}
use Rattle.block_runs.specs.Blocks.{Operation, CodeBlock}
use Rattle.block_runs.specs.Valid.{is_call}
use Rattle.lir_core.specs.declared.places.Move.{Move}
use Rattle.lir_core.specs.declared.places.Place.{Place}
use Rattle.lir_core.specs.declared.places.Place.TheVariants.{Reg, Out}
use Rattle.lir_core.specs.declared.places.Line.{Line}
use Rattle.lir_core.specs.declared.places.Line.TheVariants.{Store, Load, Moves, Result, Target}
use Rattle.lir_core.specs.declared.places.Line.TheVariants.{Lir as Does}
use Rattle.lir_core.specs.Spots.{Spot, reg, home, out, target, saved, same, spot, source}

---- Operations

-- its first use is the address of the procedure that is called
abbrev pub is_aimed : Code → Bool
is_aimed CallAt = true
is_aimed _ = false

-- the arguments of a call
abbrev pub arguments : Operation → List ℕ
arguments op = cond (is_aimed op.code) (drop 1 op.uses) op.uses

-- where a call takes its i-th argument: X0 to X3, then slots
abbrev pub argument_place : ℕ → Place
argument_place zero = Reg 0
argument_place (suc zero) = Reg 1
argument_place (suc (suc zero)) = Reg 2
argument_place (suc (suc (suc zero))) = Reg 3
argument_place (suc (suc (suc (suc i)))) = Out i

-- and the spot
abbrev pub argument_spot : ℕ → Spot
argument_spot zero = reg 0
argument_spot (suc zero) = reg 1
argument_spot (suc (suc zero)) = reg 2
argument_spot (suc (suc (suc zero))) = reg 3
argument_spot (suc (suc (suc (suc i)))) = out i

abbrev pub argument_spots : ℕ → List ℕ → List Spot
argument_spots i [] = []
argument_spots i (v ∷ vs) = argument_spot i ∷ argument_spots (suc i) vs

-- the spots in which the uses of an operation stand when it reads them, by the registers named for it
abbrev pub use_spots : Operation → List ℕ → List Spot
use_spots op named =
    cond (is_call op.code)
    (cond (is_aimed op.code) (target ∷ argument_spots 0 (drop 1 op.uses)) (argument_spots 0 op.uses))
    (map reg (take (length op.uses) named))

abbrev pub one_def : Option ℕ → ℕ
one_def None = 0
one_def (Some v) = 1

-- how many registers are named for an operation: of its uses and its definition, none for a call
abbrev pub names : Operation → ℕ
names op = cond (is_call op.code) 0 (length op.uses + one_def op.def)

-- the spot in which the definition of an operation is made
abbrev pub def_spot : Operation → List ℕ → Spot
def_spot op named = cond (is_call op.code) (reg 0) (reg (get_or named (length op.uses) 0))

-- the values that an end reads in registers
abbrev pub end_reads : End → List ℕ
end_reads (Jump to args) = []
end_reads (Branch k a b one other) = a ∷ b ∷ []
end_reads (Nonzero a one other) = a ∷ []
end_reads (Return None) = []
end_reads (Return (Some a)) = a ∷ []
end_reads (Trap kind) = []

---- Moves

-- where what stands at p after a line other than an operation stood before it
abbrev pub line_source : Line → Spot → Spot
line_source (Does i) p = p
line_source (Store r v) p = cond (same p (home v)) (reg r) p
line_source (Load r v) p = cond (same p (reg r)) (home v) p
line_source (Moves ms) p = source ms p
line_source (Result r) p = cond (same p (reg r)) (reg 0) p
line_source (Target from) p = cond (same p target) (spot from) p

abbrev pub IsFree : Spot → List Move → Type 0
IsFree p [] = Unit {0}
IsFree p (m ∷ ms) = (same p (spot m.to) ≡ false) × IsFree p ms

-- no two moves have one destination
abbrev pub AreDistinct : List Move → Type 0
AreDistinct [] = Unit {0}
AreDistinct (m ∷ ms) = IsFree (spot m.to) ms × AreDistinct ms

---- Ranges

-- so many registers, slots for arguments of calls, and values
pub record Room : Type 0 where
  pub regs : ℕ
  pub slots : ℕ
  pub values : ℕ

abbrev pub InRange : Room → Spot → Type 0
InRange room (reg r) = r < room.regs
InRange room (home v) = v < room.values
InRange room (out s) = s < room.slots
InRange room target = Unit {0}
InRange room saved = Unit {0}

abbrev pub AllBelow : ℕ → List ℕ → Type 0
AllBelow k [] = Unit {0}
AllBelow k (r ∷ rs) = (r < k) × AllBelow k rs

abbrev pub MovesInRange : Room → List Move → Type 0
MovesInRange room [] = Unit {0}
MovesInRange room (m ∷ ms) = InRange room (spot m.to) × InRange room (spot m.from) × MovesInRange room ms

-- all that a line names is in range, and the destinations of moves are distinct
abbrev pub LineInRange : Room → Line → Type 0
LineInRange room (Does i) = Unit {0}
LineInRange room (Store r v) = (r < room.regs) × (v < room.values)
LineInRange room (Load r v) = (r < room.regs) × (v < room.values)
LineInRange room (Moves ms) = AreDistinct ms × MovesInRange room ms
LineInRange room (Result r) = r < room.regs
LineInRange room (Target from) = InRange room (spot from)

abbrev pub LinesInRange : Room → List Line → Type 0
LinesInRange room [] = Unit {0}
LinesInRange room (l ∷ ls) = LineInRange room l × LinesInRange room ls

-- the slots that a call uses, and the greatest number that some call of the flow uses
abbrev pub slots_used : Operation → ℕ
slots_used op = cond (is_call op.code) (length (arguments op) - 4) 0

abbrev pub slots_in : List Operation → ℕ
slots_in [] = 0
slots_in (op ∷ ops) = max (slots_used op) (slots_in ops)

abbrev pub slots_of : List CodeBlock → ℕ
slots_of [] = 0
slots_of (bl ∷ bls) = max (slots_in bl.ops) (slots_of bls)
