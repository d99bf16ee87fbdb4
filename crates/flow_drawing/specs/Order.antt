-- The order in which blocks are drawn.
use Rattle.std.specs.Prelude.{ℕ, suc, ◌==◌, ◌&&◌, nat_lt, Bool, false, List, [], ◌∷◌, ◌++◌, filter, if◌then◌else◌}
use Rattle.block_runs.specs.Blocks.{successors}
use Rattle.lir_core.specs.declared.flow.Node.{Node}
use Rattle.lir_core.specs.Flows.{node_at, has_several}

-- a list has exactly one number, and it passes
abbrev pub is_one : (ℕ → Bool) → List ℕ → Bool
is_one p [] = false
is_one p (x ∷ []) = p x
is_one p (x ∷ y ∷ ys) = false

-- a block stands on an edge to a block: it has one predecessor, of a smaller number than the target, and leads only to the target
abbrev pub is_on_edge : (target : ℕ) → Node → Bool
is_on_edge target n = is_one (λ pred. nat_lt pred target) n.preds && is_one (λ next. next == target) (successors n.end)

-- a block leads into one of a smaller number, as those do that were put on edges to it
abbrev pub leads_into : List Node → (target b : ℕ) → Bool
leads_into nodes target b = nat_lt target b && is_on_edge target (node_at nodes b)

-- the predecessors that lead into a block, where it has several
abbrev pub entries : List Node → (target : ℕ) → List ℕ → List ℕ
entries nodes target preds = if has_several preds then filter (leads_into nodes target) preds else []

-- the turns of nodes, the first of which has this number: before each come those that lead into it
abbrev pub order_from : List Node → ℕ → List Node → List ℕ
order_from nodes b [] = []
order_from nodes b (n ∷ ns) = entries nodes b n.preds ++ (b ∷ order_from nodes (suc b) ns)

-- blocks in the order of their numbers, those that lead into a block just before it; these come again at their own numbers
abbrev pub order_of : List Node → List ℕ
order_of nodes = order_from nodes 0 nodes
