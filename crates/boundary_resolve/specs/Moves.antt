-- The moves of an edge: from where values are behind a node to where the next node wants them before it.
use Rattle.std.specs.Prelude.{◌≡◌, ℕ, suc, ◌≤◌, ◌==◌, ◌&&◌, Bool, true, cond, List, [], ◌∷◌, ◌++◌, length, map, Option, Some, None}
use Rattle.run_laws.specs.Layers.{places_from}
use Rattle.block_runs.specs.Live.{has}
use Rattle.lir_core.specs.declared.places.Place.{Place}
use Rattle.lir_core.specs.declared.places.Place.TheVariants.{Reg, Home}
use Rattle.lir_core.specs.declared.places.Move.{Move}
use Rattle.lir_core.specs.declared.places.Places.{Places}
use Rattle.lir_core.specs.Spots.{placed, IsRising, argument_of}

-- the lowest register that has a value, where the first of these is register i
abbrev pub register_of : List (Option ℕ) → ℕ → ℕ → Option ℕ
register_of [] i v = None
register_of (None ∷ regs) i v = register_of regs (suc i) v
register_of (Some u ∷ regs) i v = cond (u == v) (Some i) (register_of regs (suc i) v)

abbrev pub register_or_home : Option ℕ → ℕ → Place
register_or_home None v = Home v
register_or_home (Some r) v = Reg r

-- a value's register, else its home
abbrev pub place_of : Places → ℕ → Place
place_of q v = register_or_home (register_of q.regs 0 v) v

-- each register that has a value takes it, the lowest first
abbrev pub reg_moves : (ℕ → Place) → ℕ → List (Option ℕ) → List Move
reg_moves from i [] = []
reg_moves from i (None ∷ regs) = reg_moves from (suc i) regs
reg_moves from i (Some v ∷ regs) = record { to = Reg i; from = from v } ∷ reg_moves from (suc i) regs

-- each home that doesn't stay as it is takes its value
abbrev pub home_moves : (ℕ → Bool) → (ℕ → Place) → List ℕ → List Move
home_moves stays from [] = []
home_moves stays from (v ∷ vs) = cond (stays v) (home_moves stays from vs) (record { to = Home v; from = from v } ∷ home_moves stays from vs)

-- a value that was homed stays so, if it isn't a parameter, or is its own argument
abbrev pub stays_home : Places → (ℕ → ℕ) → ℕ → Bool
stays_home before argument v = has before.homed v && argument v == v

-- what a value behind the edge was before it is `argument`: a parameter its argument, any other value itself
abbrev pub edge_moves : Places → Places → (ℕ → ℕ) → List Move
edge_moves before after argument =
    reg_moves (λ v. place_of before (argument v)) 0 after.regs
    ++ home_moves (stays_home before argument) (λ v. place_of before (argument v)) after.homed

-- places have no more registers than there are
abbrev pub FewRegs : Places → Type 0
FewRegs q = length q.regs ≤ 16

-- each value behind the edge has a place before it, a parameter by its argument; and the homed values rise
pub record Covers (before after : Places) (argument : ℕ → ℕ) : Type 0 where
  pub placed_before : (v : ℕ) → placed after v ≡ true → placed before (argument v) ≡ true
  pub rising : IsRising after.homed

-- the entry's edge: its arguments, by their numbers, are in the first registers, and nothing is homed
abbrev pub entry_places : ℕ → Places
entry_places n = record { regs = map Some (places_from 0 n); homed = [] }

abbrev pub entry_argument : List ℕ → ℕ → ℕ
entry_argument params = argument_of params (places_from 0 (length params))
