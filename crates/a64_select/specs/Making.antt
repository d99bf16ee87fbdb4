-- Steps of the code that makes a flow.
use Rattle.std.specs.Prelude.{ℕ, suc, ◌==◌, List, [], ◌∷◌, ◌++◌, map, length, slice_set, Option, option_to_list, slice_index, slice_index_or, if◌then◌else◌}
use Rattle.block_runs.specs.declared.end.End.{End}
use Rattle.block_runs.specs.declared.end.End.TheVariants.{Jump, Branch, Nonzero, Return, Trap}
use Rattle.run_laws.specs.Layers.{places_from}
use Rattle.block_runs.specs.Blocks.{CodeBlock}
use Rattle.lir_core.specs.declared.flow.Node.{Node}
use Rattle.lir_core.specs.Flows.{no_node, preds_of}

-- the blocks to which an end leads, each once
abbrev pub two_targets : ℕ → ℕ → List ℕ
two_targets one other = if one == other then (one ∷ []) else (one ∷ other ∷ [])

abbrev pub different_targets : End → List ℕ
different_targets (Jump to args) = to ∷ []
different_targets (Branch k a b one other) = two_targets one other
different_targets (Nonzero a one other) = two_targets one other
different_targets (Return a) = []
different_targets (Trap kind) = []

-- one more at each of some places
abbrev pub counted : List ℕ → List ℕ → List ℕ
counted [] counts = counts
counted (t ∷ ts) counts = counted ts (slice_set counts t (suc (slice_index counts t)))

-- one more predecessor of each of some nodes
abbrev pub with_pred : ℕ → Node → Node
with_pred from node = record node { preds = node.preds ++ from ∷ [] }

abbrev pub preceded : ℕ → List ℕ → List Node → List Node
preceded from [] nodes = nodes
preceded from (t ∷ ts) nodes = preceded from ts (slice_set nodes t (with_pred from (slice_index_or nodes t no_node)))

abbrev pub targets_in : Option ℕ → Option ℕ → List ℕ
targets_in first second = option_to_list first ++ option_to_list second

-- how many blocks lead to each block
abbrev pub counts_of : List CodeBlock → List ℕ
counts_of bls = map (λ to. length (preds_of bls to)) (places_from 0 (length bls))
