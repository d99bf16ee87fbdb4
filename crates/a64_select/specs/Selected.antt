-- The flow of a procedure: every operation in its place, and a new node on each critical edge.
use Rattle.std.specs.Prelude.{ℕ, zero, suc, ◌+◌, false, List, [], ◌∷◌, ◌++◌, map, length, filter, min, slice_index_or, Bool, None, if◌then◌else◌}
use Rattle.block_runs.specs.declared.end.End.{End}
use Rattle.block_runs.specs.declared.end.End.TheVariants.{Jump, Branch, Nonzero, Return, Trap}
use Rattle.run_laws.specs.Layers.{places_from}
use Rattle.block_runs.specs.Blocks.{CodeBlock}
use Rattle.block_runs.specs.Valid.{is_call}
use Rattle.ssa_core.specs.declared.procedure.Op.{Op}
use Rattle.ssa_core.specs.declared.procedure.Block.{Block}
use Rattle.ssa_core.specs.declared.procedure.Proc.{Proc}
use Rattle.ssa_core.specs.Procedures.{code_blocks}
use Rattle.lir_core.specs.declared.flow.Lir.{Lir}
use Rattle.lir_core.specs.declared.flow.Node.{Node}
use Rattle.lir_core.specs.declared.flow.Flow.{Flow}
use Rattle.lir_core.specs.Flows.{code_nodes, preds_of, has_several}

-- for each block, whether several blocks lead to it
abbrev pub joins_of : List CodeBlock → List Bool
joins_of bls = map (λ to. has_several (preds_of bls to)) (places_from 0 (length bls))

abbrev pub is_join : List Bool → ℕ → Bool
is_join joins to = slice_index_or joins to false

-- the targets of an end's edges that get a node of their own: those of a test to which several blocks lead, `yes` before `no`
abbrev pub split_targets : List Bool → End → List ℕ
split_targets joins (Jump to args) = []
split_targets joins (Branch k a b one other) = filter (is_join joins) (one ∷ other ∷ [])
split_targets joins (Nonzero a one other) = filter (is_join joins) (one ∷ other ∷ [])
split_targets joins (Return a) = []
split_targets joins (Trap kind) = []

-- where an edge to a block leads, if the next new node has this number
abbrev pub redirected : List Bool → ℕ → ℕ → ℕ
redirected joins next to = if is_join joins to then next else to

-- the next new node's number behind that edge
abbrev pub behind : List Bool → ℕ → ℕ → ℕ
behind joins next to = if is_join joins to then suc next else next

-- an end over the flow's nodes
abbrev pub split_end : List Bool → ℕ → End → End
split_end joins next (Jump to args) = Jump to args
split_end joins next (Branch k a b one other) = Branch k a b (redirected joins next one) (redirected joins (behind joins next one) other)
split_end joins next (Nonzero a one other) = Nonzero a (redirected joins next one) (redirected joins (behind joins next one) other)
split_end joins next (Return a) = Return a
split_end joins next (Trap kind) = Trap kind

---- Nodes, before their predecessors are set

abbrev pub lir_of : Op → Lir
lir_of op = record { template = op.code; uses = op.uses; def = op.def; call = is_call op.code }

abbrev pub node_of : List Bool → ℕ → Block → Node
node_of joins next b = record { params = b.params; lirs = map lir_of b.ops; end = split_end joins next b.end; freq = b.freq; preds = []; enter = b.enter }

-- a node for each block, where the next new node has this number
abbrev pub old_nodes : List Bool → ℕ → List Block → List Node
old_nodes joins next [] = []
old_nodes joins next (b ∷ bs) = node_of joins next b ∷ old_nodes joins (next + length (split_targets joins b.end)) bs

-- how often a block runs
abbrev pub freq_at : List Block → ℕ → ℕ
freq_at [] n = 0
freq_at (b ∷ bs) zero = b.freq
freq_at (b ∷ bs) (suc n) = freq_at bs n

-- a node on an edge: a jump alone, as frequent as the less frequent of the edge's ends
abbrev pub edge_node : List Block → ℕ → ℕ → Node
edge_node all freq to = record { params = []; lirs = []; end = Jump to []; freq = min freq (freq_at all to); preds = []; enter = None }

-- the new nodes of some blocks, by source
abbrev pub new_nodes : List Bool → List Block → List Block → List Node
new_nodes joins all [] = []
new_nodes joins all (b ∷ bs) = map (edge_node all b.freq) (split_targets joins b.end) ++ new_nodes joins all bs

abbrev pub split_nodes : List Block → List Node
split_nodes all = let joins = joins_of (code_blocks all) in old_nodes joins (length all) all ++ new_nodes joins all all

---- The flow

abbrev pub with_preds : (ℕ → List ℕ) → ℕ → List Node → List Node
with_preds preds n [] = []
with_preds preds n (node ∷ nodes) = record node { preds = preds n } ∷ with_preds preds (suc n) nodes

abbrev pub selected : Proc → Flow
selected p = record {
  nodes = with_preds (preds_of (code_nodes (split_nodes p.blocks))) 0 (split_nodes p.blocks);
  values = p.values;
  args = p.args;
  counted = p.counted;
  local_cells = p.local_cells;
  local_bytes = p.local_bytes;
}
