-- The positions of a trace, what each needs and mentions, and the first behind and the last before another.
use Rattle.std.specs.Prelude.{ℕ, suc, ◌==◌, Bool, false, cond, List, [], ◌∷◌, ◌++◌, map, take, drop, Option, Some, None, slice_get, option_to_list}
use Rattle.block_runs.specs.Blocks.{end_uses, successors}
use Rattle.block_runs.specs.Live.{has}
use Rattle.lir_core.specs.declared.flow.Lir.{Lir}
use Rattle.lir_core.specs.declared.flow.Node.{Node}
use Rattle.lir_core.specs.declared.flow.Flow.{Flow}
use Rattle.lir_core.specs.Rows.{live_into}

-- the values that a position needs, and those that it uses or makes
pub record Position : Type 0 where
  pub needs : List ℕ
  pub mentions : List ℕ

abbrev pub is_next : Option ℕ → ℕ → Bool
is_next None n = false
is_next (Some m) n = m == n

-- the values that are live into successors other than the trace's next node
abbrev pub live_off : ℕ → List (List ℕ) → Option ℕ → List ℕ → List ℕ
live_off values rows next [] = []
live_off values rows next (s ∷ ss) = cond (is_next next s) [] (live_into values rows s) ++ live_off values rows next ss

-- a node's start needs nothing and makes its parameters
abbrev pub at_start : Node → Position
at_start node = record { needs = []; mentions = node.params }

-- an operation needs what it uses
abbrev pub at_operation : Lir → Position
at_operation x = record { needs = x.uses; mentions = x.uses ++ option_to_list x.def }

-- an end needs what it uses, a jump's arguments too, and what is live into a node to which it leads out of the trace
abbrev pub at_end : ℕ → List (List ℕ) → Option ℕ → Node → Position
at_end values rows next node = record { needs = end_uses node.end ++ live_off values rows next (successors node.end); mentions = end_uses node.end }

abbrev pub in_node : ℕ → List (List ℕ) → Option ℕ → Option Node → List Position
in_node values rows next None = []
in_node values rows next (Some node) = at_start node ∷ (map at_operation node.lirs ++ at_end values rows next node ∷ [])

abbrev pub first_of : List ℕ → Option ℕ
first_of [] = None
first_of (n ∷ ns) = Some n

-- the positions of a trace, numbered from 0 on: for each node its start, each operation, its end
abbrev pub positions_of : Flow → List (List ℕ) → List ℕ → List Position
positions_of f rows [] = []
positions_of f rows (n ∷ ns) = in_node f.values rows (first_of ns) (slice_get f.nodes n) ++ positions_of f rows ns

-- of some positions, the first of which is number i, the first that needs a value
abbrev pub first_need : ℕ → ℕ → List Position → Option ℕ
first_need v i [] = None
first_need v i (p ∷ ps) = cond (has p.needs v) (Some i) (first_need v (suc i) ps)

-- the first position from a number on that needs a value
abbrev pub next_need : List Position → ℕ → ℕ → Option ℕ
next_need ps v at = first_need v at (drop at ps)

-- of some positions, the first of which is number i, the last that mentions a value; `last` where there is none
abbrev pub latest_mention : ℕ → ℕ → Option ℕ → List Position → Option ℕ
latest_mention v i last [] = last
latest_mention v i last (p ∷ ps) = latest_mention v (suc i) (cond (has p.mentions v) (Some i) last) ps

-- the last position before a number that mentions a value
abbrev pub last_mention : List Position → ℕ → ℕ → Option ℕ
last_mention ps v before = latest_mention v 0 None (take before ps)
