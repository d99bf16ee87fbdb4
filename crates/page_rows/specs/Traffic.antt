-- What the code of a procedure moves: between registers and homes, and among registers.
use Rattle.std.specs.List.{list_any}
use Rattle.std.specs.Prelude.{ℕ, ◌+◌, ◌||◌, min, count_by, Bool, true, false, List, [], ◌∷◌, slice_get, if◌then◌else◌}
use Rattle.lir_core.specs.declared.flow.Node.{Node}
use Rattle.lir_core.specs.declared.places.Place.{Place}
use Rattle.lir_core.specs.declared.places.Place.TheVariants.{Reg, Home, Out}
use Rattle.lir_core.specs.declared.places.Move.{Move}
use Rattle.lir_core.specs.declared.places.Line.{Line}
use Rattle.lir_core.specs.declared.places.Line.TheVariants.{Store, Load, Moves, Result, Target}
use Rattle.parallel_move.specs.declared.step.Step.{Step}
use Rattle.parallel_move.specs.declared.step.Step.TheVariants.{Copy, Save, Restore}
use Rattle.boundary_resolve.specs.declared.code_line.CodeLine.{CodeLine}
use Rattle.boundary_resolve.specs.declared.code_line.CodeLine.TheVariants.{Body, Edge, Leave}
use Rattle.boundary_resolve.specs.declared.code_line.CodeLine.TheVariants.{Node as Begins}
use Rattle.alloc_choice.specs.Choice.{freq_of}
use Rattle.page_rows.specs.declared.traffic.Kind.{Kind}
use Rattle.page_rows.specs.declared.traffic.Kind.TheVariants as kind
use Rattle.page_rows.specs.declared.traffic.Traffic.{Traffic}

---- Kinds of lines

-- whether a place is the home of a value
abbrev pub is_home : Place → Bool
is_home (Home value) = true
is_home (Reg register) = false
is_home (Out slot) = false

-- a line of a node: one that writes a home, that reads one, an argument or a target of a call among these, or that moves
abbrev pub is_of_node : Kind → Line → Bool
is_of_node kind.Store (Store r v) = true
is_of_node kind.Load (Load r v) = true
is_of_node kind.Load (Moves ms) = list_any (λ (m : Move). is_home m.from) ms
is_of_node kind.Load (Target from) = is_home from
is_of_node kind.Move (Moves ms) = true
is_of_node kind.Move (Result r) = true
is_of_node kind.Move (Target from) = true
is_of_node k line = false

-- a step of an edge; each of them moves
abbrev pub is_of_step : Kind → Step → Bool
is_of_step kind.Store (Copy to from) = is_home to
is_of_step kind.Store (Save from) = false
is_of_step kind.Store (Restore to) = is_home to
is_of_step kind.Load (Copy to from) = is_home from
is_of_step kind.Load (Save from) = is_home from
is_of_step kind.Load (Restore to) = false
is_of_step kind.Move s = true

-- a line of code
abbrev pub is_of : Kind → CodeLine → Bool
is_of k (Body line) = is_of_node k line
is_of k (Edge s) = is_of_step k s
is_of k line = false

---- Weights

-- a sum up to 2^64 - 1
abbrev pub added : ℕ → ℕ → ℕ
added a b = min (a + b) 18446744073709551615

-- how often the line runs, where it stores or loads a home
abbrev pub own_weight : ℕ → CodeLine → ℕ
own_weight freq line = if is_of kind.Store line || is_of kind.Load line then freq else 0

-- how often the lines behind it run, up to the next node
abbrev pub freq_behind : List Node → ℕ → CodeLine → ℕ
freq_behind nodes freq (Begins n) = freq_of (slice_get nodes n)
freq_behind nodes freq (Body line) = freq
freq_behind nodes freq (Edge s) = freq
freq_behind nodes freq (Leave n) = freq

-- stores and loads of homes, each as often as it runs, beside what was weighed before
abbrev pub weighed : List Node → (freq weight : ℕ) → List CodeLine → ℕ
weighed nodes freq weight [] = weight
weighed nodes freq weight (l ∷ ls) = weighed nodes (freq_behind nodes freq l) (added weight (own_weight freq l)) ls

---- Together

abbrev pub traffic_of : List Node → List CodeLine → Traffic
traffic_of nodes lines = record {
  stores = count_by (is_of kind.Store) lines;
  loads = count_by (is_of kind.Load) lines;
  moves = count_by (is_of kind.Move) lines;
  weight = weighed nodes 0 0 lines;
}
