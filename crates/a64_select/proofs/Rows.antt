-- Procedures and their flows, as another compiler for the language gives them.
use Rattle.std.proofs.Common.{◌≡◌, ℕ, Bool, true, false, List, [], ◌∷◌, Option, Some, None, refl}
use Rattle.block_runs.specs.declared.code.Code.{Code}
use Rattle.block_runs.specs.declared.code.Code.TheVariants.{Const, Global, Load, Store, Add, Svc}
use Rattle.block_runs.specs.declared.end.End.{End}
use Rattle.block_runs.specs.declared.end.End.TheVariants.{Jump, Branch, Nonzero, Return}
use Rattle.ssa_core.specs.declared.procedure.Op.{Op}
use Rattle.ssa_core.specs.declared.procedure.Block.{Block}
use Rattle.ssa_core.specs.declared.procedure.Proc.{Proc}
use Rattle.lir_core.specs.declared.flow.Lir.{Lir}
use Rattle.lir_core.specs.declared.flow.Node.{Node}
use Rattle.lir_core.specs.declared.flow.Flow.{Flow}
use Rattle.a64_select.specs.Selected.{selected}

abbrev op : Code → List ℕ → Option ℕ → Op
op code uses def = record { code = code; uses = uses; def = def }

abbrev block : List ℕ → List Op → End → ℕ → Option ℕ → Block
block params ops end freq enter = record { params = params; ops = ops; end = end; freq = freq; enter = enter }

abbrev proc : ℕ → List Block → Proc
proc values blocks = record { blocks = blocks; values = values; args = 0; counted = false; local_cells = 0; local_bytes = 0 }

abbrev lir : Code → List ℕ → Option ℕ → Bool → Lir
lir code uses def call = record { template = code; uses = uses; def = def; call = call }

abbrev node : List ℕ → List Lir → End → ℕ → List ℕ → Option ℕ → Node
node params lirs end freq preds enter = record { params = params; lirs = lirs; end = end; freq = freq; preds = preds; enter = enter }

abbrev flow : ℕ → List Node → Flow
flow values nodes = record { nodes = nodes; values = values; args = 0; counted = false; local_cells = 0; local_bytes = 0 }

-- a loop with an IF: no edge is critical
abbrev loop_with_if_proc : Proc
loop_with_if_proc = proc 14 (
    block ([]) (op (Global 8) ([]) (Some 0) ∷ op (Const 0) ([]) (Some 1) ∷ op Store (0 ∷ 1 ∷ []) None ∷ []) (Jump 1 ([])) 1048576 None ∷
    block ([]) (op (Global 8) ([]) (Some 2) ∷ op Load (2 ∷ []) (Some 3) ∷ op (Const 9) ([]) (Some 4) ∷ []) (Branch 11 3 4 2 6) 8388608 (Some 0) ∷
    block ([]) (op (Global 8) ([]) (Some 5) ∷ op Load (5 ∷ []) (Some 6) ∷ op (Const 3) ([]) (Some 7) ∷ []) (Branch 0 6 7 3 4) 8388608 None ∷
    block ([]) (op (Const 120) ([]) (Some 8) ∷ op (Svc 1) (8 ∷ []) None ∷ []) (Jump 5 ([])) 4194304 None ∷
    block ([]) ([]) (Jump 5 ([])) 4194304 None ∷
    block ([]) (op (Global 8) ([]) (Some 9) ∷ op (Global 8) ([]) (Some 10) ∷ op Load (10 ∷ []) (Some 11) ∷ op (Const 1) ([]) (Some 12) ∷ op Add (11 ∷ 12 ∷ []) (Some 13) ∷ op Store (9 ∷ 13 ∷ []) None ∷ []) (Jump 1 ([])) 8388608 None ∷
    block ([]) ([]) (Return None) 1048576 None ∷
    [])

pub loop_with_if : selected loop_with_if_proc ≡ flow 14 (
    node ([]) (lir (Global 8) ([]) (Some 0) false ∷ lir (Const 0) ([]) (Some 1) false ∷ lir Store (0 ∷ 1 ∷ []) None false ∷ []) (Jump 1 ([])) 1048576 ([]) None ∷
    node ([]) (lir (Global 8) ([]) (Some 2) false ∷ lir Load (2 ∷ []) (Some 3) false ∷ lir (Const 9) ([]) (Some 4) false ∷ []) (Branch 11 3 4 2 6) 8388608 (0 ∷ 5 ∷ []) (Some 0) ∷
    node ([]) (lir (Global 8) ([]) (Some 5) false ∷ lir Load (5 ∷ []) (Some 6) false ∷ lir (Const 3) ([]) (Some 7) false ∷ []) (Branch 0 6 7 3 4) 8388608 (1 ∷ []) None ∷
    node ([]) (lir (Const 120) ([]) (Some 8) false ∷ lir (Svc 1) (8 ∷ []) None true ∷ []) (Jump 5 ([])) 4194304 (2 ∷ []) None ∷
    node ([]) ([]) (Jump 5 ([])) 4194304 (2 ∷ []) None ∷
    node ([]) (lir (Global 8) ([]) (Some 9) false ∷ lir (Global 8) ([]) (Some 10) false ∷ lir Load (10 ∷ []) (Some 11) false ∷ lir (Const 1) ([]) (Some 12) false ∷ lir Add (11 ∷ 12 ∷ []) (Some 13) false ∷ lir Store (9 ∷ 13 ∷ []) None false ∷ []) (Jump 1 ([])) 8388608 (3 ∷ 4 ∷ []) None ∷
    node ([]) ([]) (Return None) 1048576 (1 ∷ []) None ∷
    [])
loop_with_if = refl

-- a test whose targets are one block, to which nothing else leads: no edge is split
abbrev equal_targets_proc : Proc
equal_targets_proc = proc 1 (
    block ([]) (op (Const 1) ([]) (Some 0) ∷ []) (Branch 0 0 0 1 1) 8 None ∷
    block ([]) ([]) (Return None) 4 None ∷
    [])

pub equal_targets : selected equal_targets_proc ≡ flow 1 (
    node ([]) (lir (Const 1) ([]) (Some 0) false ∷ []) (Branch 0 0 0 1 1) 8 ([]) None ∷
    node ([]) ([]) (Return None) 4 (0 ∷ []) None ∷
    [])
equal_targets = refl

-- a test whose targets are one block, to which another leads too: each edge gets a node
abbrev equal_targets_of_a_join_proc : Proc
equal_targets_of_a_join_proc = proc 1 (
    block ([]) (op (Const 1) ([]) (Some 0) ∷ []) (Nonzero 0 1 2) 16 None ∷
    block ([]) ([]) (Branch 0 0 0 2 2) 4 None ∷
    block ([]) ([]) (Return None) 8 None ∷
    [])

pub equal_targets_of_a_join : selected equal_targets_of_a_join_proc ≡ flow 1 (
    node ([]) (lir (Const 1) ([]) (Some 0) false ∷ []) (Nonzero 0 1 3) 16 ([]) None ∷
    node ([]) ([]) (Branch 0 0 0 4 5) 4 (0 ∷ []) None ∷
    node ([]) ([]) (Return None) 8 (3 ∷ 4 ∷ 5 ∷ []) None ∷
    node ([]) ([]) (Jump 2 ([])) 8 (0 ∷ []) None ∷
    node ([]) ([]) (Jump 2 ([])) 4 (1 ∷ []) None ∷
    node ([]) ([]) (Jump 2 ([])) 4 (1 ∷ []) None ∷
    [])
equal_targets_of_a_join = refl

-- a loop's header with two back edges, one of them from a test
abbrev two_back_edges_proc : Proc
two_back_edges_proc = proc 1 (
    block ([]) (op (Const 1) ([]) (Some 0) ∷ []) (Jump 1 ([])) 1 None ∷
    block ([]) ([]) (Branch 0 0 0 2 4) 8 None ∷
    block ([]) ([]) (Nonzero 0 1 3) 4 None ∷
    block ([]) ([]) (Jump 1 ([])) 2 None ∷
    block ([]) ([]) (Return None) 1 None ∷
    [])

pub two_back_edges : selected two_back_edges_proc ≡ flow 1 (
    node ([]) (lir (Const 1) ([]) (Some 0) false ∷ []) (Jump 1 ([])) 1 ([]) None ∷
    node ([]) ([]) (Branch 0 0 0 2 4) 8 (0 ∷ 3 ∷ 5 ∷ []) None ∷
    node ([]) ([]) (Nonzero 0 5 3) 4 (1 ∷ []) None ∷
    node ([]) ([]) (Jump 1 ([])) 2 (2 ∷ []) None ∷
    node ([]) ([]) (Return None) 1 (1 ∷ []) None ∷
    node ([]) ([]) (Jump 1 ([])) 4 (2 ∷ []) None ∷
    [])
two_back_edges = refl
