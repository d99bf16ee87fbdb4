-- The end of a node, from the start of the one behind it in the trace.
use Rattle.std.specs.Prelude.{ℕ, suc, ◌&&◌, cond, List, [], ◌∷◌, ◌++◌, map, Option, Some, None, slice_get}
use Rattle.block_runs.specs.Blocks.{successors}
use Rattle.block_runs.specs.declared.end.End.{End}
use Rattle.block_runs.specs.declared.end.End.TheVariants.{Jump, Branch, Nonzero, Return, Trap}
use Rattle.lir_core.specs.Spots.{get, in_register}
use Rattle.trace_needs.specs.Needs.{is_next, live_off}
use Rattle.loc_state.specs.Registers.{register_of}
use Rattle.loc_back.specs.Steps.{no_param, seated_new}
use Rattle.bottom_up.specs.Policy.{is_empty}

-- a parameter's register behind the edge, where that is empty before it
abbrev pub param_register : List (Option ℕ) → ℕ → List (Option ℕ) → Option ℕ
param_register behind q regs = cond (in_register behind q && is_empty (get regs (register_of q behind))) (Some (register_of q behind)) None

abbrev pub argument_register : List (Option ℕ) → Option ℕ → List (Option ℕ) → Option ℕ
argument_register behind None regs = None
argument_register behind (Some q) regs = param_register behind q regs

-- each argument of a jump to the trace's next node, from the i-th on, is given its parameter's register
abbrev pub given : List (Option ℕ) → List ℕ → ℕ → List ℕ → List (Option ℕ) → List (Option ℕ)
given behind params i [] regs = []
given behind params i (a ∷ vs) regs = argument_register behind (slice_get params i) regs ∷ given behind params (suc i) vs (seated_new a (argument_register behind (slice_get params i) regs) regs)

-- and is homed where it has no register
abbrev pub if_none : ℕ → Option ℕ → List ℕ
if_none a None = a ∷ []
if_none a (Some r) = []

abbrev pub without_register : ℕ → Option ℕ → List (Option ℕ) → List ℕ
without_register a r regs = cond (in_register regs a) [] (if_none a r)

abbrev pub not_given : List (Option ℕ) → List ℕ → ℕ → List ℕ → List (Option ℕ) → List ℕ
not_given behind params i [] regs = []
not_given behind params i (a ∷ vs) regs = without_register a (argument_register behind (slice_get params i) regs) regs ++ not_given behind params (suc i) vs (seated_new a (argument_register behind (slice_get params i) regs) regs)

-- the registers that an end's arguments are given, where the trace's next node has these parameters and starts with these registers
abbrev pub given_at : Option ℕ → List ℕ → List (Option ℕ) → End → List (Option ℕ)
given_at next params behind (Jump to args) = cond (is_next next to) (given behind params 0 args (map (no_param params) behind)) (map (λ a. None) args)
given_at next params behind (Branch k a b one another) = []
given_at next params behind (Nonzero a one another) = []
given_at next params behind (Return a) = []
given_at next params behind (Trap kind) = []

-- the arguments that are homed: those without a register, or all where the jump leads elsewhere
abbrev pub passed_home : Option ℕ → List ℕ → List (Option ℕ) → End → List ℕ
passed_home next params behind (Jump to args) = cond (is_next next to) (not_given behind params 0 args (map (no_param params) behind)) args
passed_home next params behind (Branch k a b one another) = []
passed_home next params behind (Nonzero a one another) = []
passed_home next params behind (Return a) = []
passed_home next params behind (Trap kind) = []

-- and all that is live into a node to which an end leads out of the trace
abbrev pub homed_at : ℕ → List (List ℕ) → Option ℕ → List ℕ → List (Option ℕ) → End → List ℕ
homed_at values rows next params behind end = passed_home next params behind end ++ live_off values rows next (successors end)
