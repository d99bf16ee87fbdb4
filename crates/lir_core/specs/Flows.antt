-- Flows as code in blocks, and when a flow is valid.
use Rattle.std.specs.Prelude.{◌≡◌, ℕ, ◌<◌, ◌≤◌, nat_lt, nat_le, List, [], ◌∷◌, map, length, filter, Bool, true, false, slice_get, slice_index_or, None, Some}
use mathlib.Core.Bool.{beq}
use Rattle.std.specs.List.{list_all}
use Rattle.run_laws.specs.Layers.{places_from}
use Rattle.block_runs.specs.declared.end.End.TheVariants.{Return}
use Rattle.block_runs.specs.Blocks.{Operation, CodeBlock, Procedure, block_at, successors}
use Rattle.block_runs.specs.Live.{has}
use Rattle.block_runs.specs.Valid.{is_call, enter_below, IsValidCode}
use Rattle.lir_core.specs.declared.flow.Lir.{Lir}
use Rattle.lir_core.specs.declared.flow.Node.{Node}
use Rattle.lir_core.specs.declared.flow.Flow.{Flow}

-- the node of a number; one that only returns where there is none
abbrev pub no_node : Node
no_node = record { params = []; lirs = []; end = Return None; freq = 0; preds = []; enter = None }

abbrev pub node_at : List Node → ℕ → Node
node_at nodes n = slice_index_or nodes n no_node

abbrev pub operation_of : Lir → Operation
operation_of x = record { code = x.template; uses = x.uses; def = x.def }

abbrev pub code_node : Node → CodeBlock
code_node n = record { params = n.params; ops = map operation_of n.lirs; end = n.end }

abbrev pub code_nodes : List Node → List CodeBlock
code_nodes ns = map code_node ns

-- what runs
abbrev pub procedure : Flow → Procedure
procedure f = record { blocks = code_nodes f.nodes; counted = f.counted; cells = f.local_cells; bytes = f.local_bytes }

abbrev pub procedures : List Flow → List Procedure
procedures fs = map procedure fs

---- Edges

-- an edge leads from a block to another
abbrev pub leads : List CodeBlock → ℕ → ℕ → Bool
leads bls to b = has (successors (block_at bls b).end) to

-- the blocks from which an edge leads to a block, rising
abbrev pub preds_of : List CodeBlock → ℕ → List ℕ
preds_of bls to = filter (leads bls to) (places_from 0 (length bls))

abbrev pub has_several : List ℕ → Bool
has_several xs = nat_le 2 (length xs)

-- none of these successors, where they are two, has several predecessors
abbrev pub IsSplit : List CodeBlock → CodeBlock → Type 0
IsSplit bls bl = length (successors bl.end) ≡ 2 → (to : ℕ) → has (successors bl.end) to ≡ true → length (preds_of bls to) ≤ 1

---- Valid flows

abbrev pub most : ℕ
most = 1500000000

abbrev pub calls_marked : Node → Bool
calls_marked n = list_all (λ x. beq x.call (is_call x.template)) n.lirs

pub record IsValidFlow (f : Flow) : Type 0 where
  pub code : IsValidCode most f.values f.args (code_nodes f.nodes)
  pub enters : list_all (λ n. enter_below (length f.nodes) n.enter) f.nodes ≡ true
  pub calls : list_all calls_marked f.nodes ≡ true
  pub preds : (n : ℕ) (node : Node) → slice_get f.nodes n ≡ Some node → node.preds ≡ preds_of (code_nodes f.nodes) n
  pub split : (n : ℕ) (node : Node) → slice_get f.nodes n ≡ Some node → IsSplit (code_nodes f.nodes) (code_node node)

---- Traces

-- an edge leads from each node to the next
abbrev pub IsPath : List CodeBlock → List ℕ → Type 0
IsPath bls [] = Unit {0}
IsPath bls (n ∷ []) = Unit {0}
IsPath bls (n ∷ (m ∷ ns)) = (leads bls m n ≡ true) × IsPath bls (m ∷ ns)

abbrev pub AreDifferent : List ℕ → Type 0
AreDifferent [] = Unit {0}
AreDifferent (n ∷ ns) = (has ns n ≡ false) × AreDifferent ns

-- a trace of a flow: a path of one or more different nodes
pub record IsTrace (bls : List CodeBlock) (t : List ℕ) : Type 0 where
  pub some : 0 < length t
  pub nodes : list_all (λ n. nat_lt n (length bls)) t ≡ true
  pub path : IsPath bls t
  pub different : AreDifferent t
