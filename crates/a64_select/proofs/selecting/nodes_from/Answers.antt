use Rattle.std.proofs.Common.{◌≡◌, ◌++◌, ◌∙◌, sym, ap, ap₂, subst, arith, length, get_or, List, Bool}
use Rattle.std.specs.Prelude.{true}
use Rattle.std.specs.List.{list_all}
use Rattle.block_runs.specs.Blocks.{successors}
use Rattle.block_runs.specs.Valid.{all_below}
use Rattle.lir_core.specs.declared.flow.Node.{Node}
use Rattle.lir_core.specs.Flows.{no_node}
use Rattle.ssa_core.specs.declared.procedure.Block.{Block}
use Rattle.ssa_core.specs.Procedures.{code_blocks}
use Rattle.a64_select.specs.Selected.{joins_of, old_nodes, new_nodes, split_nodes}
use Rattle.a64_select.proofs.Targets.{nodes_lead, no_preds_old, few_nodes, length-joins_of}
use Rattle.a64_select.proofs.selecting.nodes_from.Goals as goal

pub edge_nodes-requires-clause-same : goal.edge_nodes-requires-clause-same
edge_nodes-requires-clause-same c =
    ap length (c.as_slice-3.ensures.value ∙ c.in_ok-joins.ensures ∙ ap (λ (bs : List Block). joins_of (code_blocks bs)) c.as_slice.ensures.value)
    ∙ length-joins_of c.args.blocks.items ∙ sym (ap length c.as_slice-2.ensures.value)

pub block_nodes-requires-clause-same : goal.block_nodes-requires-clause-same
block_nodes-requires-clause-same c =
    ap length (c.as_slice-4.ensures.value ∙ c.in_ok-joins.ensures ∙ ap (λ (bs : List Block). joins_of (code_blocks bs)) c.as_slice.ensures.value)
    ∙ length-joins_of c.args.blocks.items

pub block_nodes-requires-clause-targets : goal.block_nodes-requires-clause-targets
block_nodes-requires-clause-targets c =
    let same : length c.as_slice-4.result.now ≡ length c.args.blocks.items =
    ap length (c.as_slice-4.ensures.value ∙ c.in_ok-joins.ensures ∙ ap (λ (bs : List Block). joins_of (code_blocks bs)) c.as_slice.ensures.value) ∙ length-joins_of c.args.blocks.items in
    ap (λ n. list_all (λ b. all_below n (successors b.end)) c.args.blocks.items) same ∙ c.requires.targets

made : (c : goal.After-deref_mut) → c.deref_mut.result.now ≡ split_nodes c.args.blocks.items
made c =
    let all = c.args.blocks.items in
    let joins = c.in_ok-joins.ensures ∙ ap (λ (bs : List Block). joins_of (code_blocks bs)) c.as_slice.ensures.value in
    c.deref_mut.ensures.value ∙ c.in_ok-append.ensures.items
    ∙ ap₂ (λ (xs ys : List Node). xs ++ ys)
    (c.in_ok-nodes.ensures ∙ ap (λ (js : List Bool). old_nodes js (length all) all) (c.as_slice-4.ensures.value ∙ joins))
    (c.in_ok-new.ensures ∙ ap₂ (λ (js : List Bool) (bs : List Block). new_nodes js bs bs) (c.as_slice-3.ensures.value ∙ joins) c.as_slice-2.ensures.value)

pub set_preds-requires-clause-targets : goal.set_preds-requires-clause-targets
set_preds-requires-clause-targets c =
    let e : c.deref_mut.result.now ≡ split_nodes c.args.blocks.items = made c in
    subst (λ (ns : List Node). list_all (λ n. all_below (length ns) (successors n.end)) ns ≡ true) (sym e) (nodes_lead (joins_of (code_blocks c.args.blocks.items)) c.args.blocks.items c.requires.targets)

pub set_preds-requires-clause-none : goal.set_preds-requires-clause-none
set_preds-requires-clause-none c = λ k l.
    let e : c.deref_mut.result.now ≡ split_nodes c.args.blocks.items = made c in
    ap (λ (ns : List Node). (get_or ns k no_node).preds) e ∙ no_preds_old (joins_of (code_blocks c.args.blocks.items)) (length c.args.blocks.items) c.args.blocks.items c.args.blocks.items k

pub set_preds-requires-clause-few : goal.set_preds-requires-clause-few
set_preds-requires-clause-few c =
    let e : c.deref_mut.result.now ≡ split_nodes c.args.blocks.items = made c in
    let f = few_nodes (joins_of (code_blocks c.args.blocks.items)) c.args.blocks.items in
    let s = ap length e in
    omega (arith, s, f, c.requires.few)
