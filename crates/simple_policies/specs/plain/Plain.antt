-- The plain result for a trace: at the start and the end of each node every value that is wanted there is in its home, and no register
-- has one. Each different value that an operation or an end reads is loaded, to X0, X1 and on in order; what is made is made in X0 and
-- stored. The arguments of a call go from their homes to their places all at once, behind the target's address.
use Rattle.std.specs.Prelude.{ℕ, suc, ◌<◌, ◌==◌, ◌||◌, Bool, cond, List, [], ◌∷◌, ◌++◌, map, filter, length, drop, replicate, Option, Some, None, slice_index_or}
use Rattle.std.specs.List.{list_any}
use Rattle.run_laws.specs.Layers.{places_from}
use Rattle.block_runs.specs.declared.end.End.{End}
use Rattle.block_runs.specs.Blocks.{end_uses, successors}
use Rattle.block_runs.specs.Live.{has}
use Rattle.lir_core.specs.declared.flow.Lir.{Lir}
use Rattle.lir_core.specs.declared.flow.Node.{Node}
use Rattle.lir_core.specs.declared.flow.Flow.{Flow}
use Rattle.lir_core.specs.declared.places.Place.TheVariants.{Home}
use Rattle.lir_core.specs.declared.places.Move.{Move}
use Rattle.lir_core.specs.declared.places.Places.{Places}
use Rattle.lir_core.specs.declared.places.Line.{Line}
use Rattle.lir_core.specs.declared.places.Line.TheVariants.{Store, Load, Moves, Target}
use Rattle.lir_core.specs.declared.places.Line.TheVariants.{Lir as Does}
use Rattle.lir_core.specs.declared.places.TraceOut.{TraceOut}
use Rattle.lir_core.specs.Flows.{node_at}
use Rattle.lir_core.specs.Rows.{has_bit}
use Rattle.lir_core.specs.Lines.{is_aimed, argument_place, end_reads}

---- Places

-- those of so many values that pass a test, rising
abbrev pub picked : ℕ → (ℕ → Bool) → List ℕ
picked values test = filter test (places_from 0 values)

-- so many registers that have nothing, and homes
abbrev pub in_homes : ℕ → List ℕ → Places
in_homes k homed = record { regs = replicate k None; homed = homed }

-- what is live into a node, and its parameters
abbrev pub is_at_start : List (List ℕ) → ℕ → Node → ℕ → Bool
is_at_start live n node v = has_bit live n v || has node.params v

-- what an end reads or passes on, and what is live into a node that follows
abbrev pub is_at_end : List (List ℕ) → End → ℕ → Bool
is_at_end live end v = list_any (λ to. has_bit live to v) (successors end) || has (end_uses end) v

abbrev pub plain_start : ℕ → Flow → List (List ℕ) → ℕ → Places
plain_start k f live n = in_homes k (picked f.values (is_at_start live n (node_at f.nodes n)))

abbrev pub plain_end : ℕ → Flow → List (List ℕ) → ℕ → Places
plain_end k f live n = in_homes k (picked f.values (is_at_end live (node_at f.nodes n).end))

---- Loads

-- the place of a value among those that are loaded, or behind the last
abbrev pub index_of : List ℕ → ℕ → ℕ
index_of [] v = 0
index_of (x ∷ xs) v = cond (x == v) 0 (suc (index_of xs v))

-- a value is loaded, if it isn't already
abbrev pub load_of : List ℕ → ℕ → List Line
load_of loaded v = cond (has loaded v) [] (Load (length loaded) v ∷ [])

abbrev pub with_load : List ℕ → ℕ → List ℕ
with_load loaded v = cond (has loaded v) loaded (loaded ++ v ∷ [])

abbrev pub loads : List ℕ → List ℕ → List Line
loads loaded [] = []
loads loaded (v ∷ vs) = load_of loaded v ++ loads (with_load loaded v) vs

-- the registers of values, in order
abbrev pub load_regs : List ℕ → List ℕ → List ℕ
load_regs loaded [] = []
load_regs loaded (v ∷ vs) = index_of loaded v ∷ load_regs (with_load loaded v) vs

---- Calls

abbrev pub argument_moves : ℕ → List ℕ → List Move
argument_moves i [] = []
argument_moves i (v ∷ vs) = record { to = argument_place i; from = Home v } ∷ argument_moves (suc i) vs

-- the address of the procedure that is called is the first value
abbrev pub aiming : List ℕ → List Line
aiming [] = []
aiming (v ∷ vs) = Target (Home v) ∷ []

abbrev pub passing : List ℕ → List Line
passing [] = []
passing (v ∷ vs) = Moves (argument_moves 0 (v ∷ vs)) ∷ []

abbrev pub call_lines : Bool → List ℕ → List Line
call_lines aimed vs = cond aimed (aiming vs ++ passing (drop 1 vs)) (passing vs)

---- Operations

abbrev pub stores : Option ℕ → List Line
stores None = []
stores (Some v) = Store 0 v ∷ []

abbrev pub def_regs : Option ℕ → List ℕ
def_regs None = []
def_regs (Some v) = 0 ∷ []

abbrev pub reading_lines : Lir → List Line
reading_lines x = cond x.call (call_lines (is_aimed x.template) x.uses) (loads [] x.uses)

-- the i-th operation of a node
abbrev pub lir_lines : ℕ → Lir → List Line
lir_lines i x = reading_lines x ++ Does i ∷ stores x.def

abbrev pub lir_regs : Lir → List ℕ
lir_regs x = cond x.call [] (load_regs [] x.uses ++ def_regs x.def)

abbrev pub lirs_lines : ℕ → List Lir → List Line
lirs_lines i [] = []
lirs_lines i (x ∷ xs) = lir_lines i x ++ lirs_lines (suc i) xs

abbrev pub lirs_regs : List Lir → List ℕ
lirs_regs [] = []
lirs_regs (x ∷ xs) = lir_regs x ++ lirs_regs xs

abbrev pub node_lines : Node → List Line
node_lines node = lirs_lines 0 node.lirs ++ loads [] (end_reads node.end)

abbrev pub node_regs : Node → List ℕ
node_regs node = lirs_regs node.lirs ++ load_regs [] (end_reads node.end)

---- The result

abbrev pub plain_of : ℕ → Flow → List (List ℕ) → ℕ → List ℕ → TraceOut
plain_of k f live number nodes = record {
  trace = number;
  starts = map (plain_start k f live) nodes;
  ends = map (plain_end k f live) nodes;
  lines = map (λ n. node_lines (node_at f.nodes n)) nodes;
  regs = map (λ n. node_regs (node_at f.nodes n)) nodes;
}

-- nodes are the flow's
abbrev pub InFlow : Flow → List ℕ → Type 0
InFlow f nodes = (i : ℕ) → i < length nodes → slice_index_or nodes i 0 < length f.nodes
