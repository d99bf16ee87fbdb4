-- Start places: by a hint, or by none.
use Rattle.std.specs.Prelude.{ℕ, suc, Bool, true, false, ◌&&◌, cond, List, [], ◌∷◌, map, filter, replicate, Option, Some, None, is_some, slice_get, slice_set}
use Rattle.block_runs.specs.declared.end.End.{End}
use Rattle.block_runs.specs.declared.end.End.TheVariants.{Jump, Branch, Nonzero, Return, Trap}
use Rattle.lir_core.specs.declared.places.Places.{Places}
use Rattle.lir_core.specs.Spots.{get, in_register}
use Rattle.loc_state.specs.Registers.{register_of, lowest_empty}
use Rattle.loc_state.specs.Homed.{inserted, all_inserted}

-- the arguments of a jump
abbrev pub arguments_of : End → List ℕ
arguments_of (Jump to args) = args
arguments_of (Branch k a b one other) = []
arguments_of (Nonzero a one other) = []
arguments_of (Return a) = []
arguments_of (Trap kind) = []

abbrev pub if_live : (ℕ → Bool) → Option ℕ → Option ℕ
if_live live None = None
if_live live (Some v) = cond (live v) (Some v) None

-- each live value has the register and the home that it had, the others have none
abbrev pub only_live : (ℕ → Bool) → Places → Places
only_live live q = record { regs = map (if_live live) q.regs; homed = all_inserted (filter live q.homed) [] }

abbrev pub is_empty : Option ℕ → Bool
is_empty None = true
is_empty (Some v) = false

-- a value's register in the hint where that is empty, else the lowest empty one
abbrev pub hinted : List (Option ℕ) → ℕ → List (Option ℕ) → Option ℕ
hinted hint a regs = cond (in_register hint a && is_empty (get regs (register_of a hint))) (Some (register_of a hint)) (lowest_empty 0 regs)

-- a parameter's register, by its argument if it has one
abbrev pub param_reg : List (Option ℕ) → Option ℕ → List (Option ℕ) → Option ℕ
param_reg hint None regs = lowest_empty 0 regs
param_reg hint (Some a) regs = hinted hint a regs

abbrev pub with_value : ℕ → Option ℕ → Places → Places
with_value v (Some r) q = record { regs = slice_set q.regs r (Some v); homed = q.homed }
with_value v None q = record { regs = q.regs; homed = inserted v q.homed }

-- a parameter that has a need takes a register, or is homed
abbrev pub with_param : (ℕ → Option ℕ) → ℕ → Option ℕ → Places → Places
with_param need v reg q = cond (is_some (need v)) (with_value v reg q) q

-- parameters in order, from the i-th argument on
abbrev pub with_params : (ℕ → Option ℕ) → List (Option ℕ) → List ℕ → ℕ → List ℕ → Places → Places
with_params need hint args i [] q = q
with_params need hint args i (v ∷ vs) q = with_params need hint args (suc i) vs (with_param need v (param_reg hint (slice_get args i) q.regs) q)

-- behind other places: what is live where it was, then the parameters
abbrev pub start_behind : (ℕ → Option ℕ) → (ℕ → Bool) → List ℕ → List ℕ → Places → Places
start_behind need live params args q = with_params need q.regs args 0 params (only_live live q)

-- with k registers and no hint: what is live is homed
abbrev pub start_afresh : (ℕ → Option ℕ) → ℕ → List ℕ → List ℕ → Places
start_afresh need k live params = with_params need [] [] 0 params (record { regs = replicate k None; homed = all_inserted live [] })
