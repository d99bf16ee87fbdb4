use Rattle.std.proofs.Common.{◌≡◌, ◌∙◌, sym, ap, subst, arith, length, List}
use Rattle.std.specs.List.{list_all}
use Rattle.std.proofs.lemmas.List.{length-map}
use Rattle.block_runs.specs.Blocks.{successors}
use Rattle.block_runs.specs.Valid.{all_below}
use Rattle.ssa_core.specs.Procedures.{code_block, code_blocks}
use Rattle.lir_core.specs.declared.flow.Node.{Node}
use Rattle.lir_core.specs.declared.flow.Flow.{Flow}
use Rattle.lir_core.specs.Flows.{code_nodes, preds_of, IsValidFlow}
use Rattle.a64_select.specs.Selected.{split_nodes, with_preds, selected}
use Rattle.a64_select.proofs.Targets.{code_leads, few_blocks}
use Rattle.a64_select.proofs.FlowValid.{selected_valid}
use Rattle.a64_select.proofs.selecting.select.Goals as goal

pub nodes_from-requires-clause-targets : goal.nodes_from-requires-clause-targets
nodes_from-requires-clause-targets c =
    let e = c.into_vec.ensures in
    ap (λ bs. list_all (λ b. all_below (length bs) (successors b.end)) bs) e ∙ (code_leads c.args.proc.blocks ∙ c.requires.code.targets)

pub nodes_from-requires-clause-few : goal.nodes_from-requires-clause-few
nodes_from-requires-clause-few c =
    let e = ap length c.into_vec.ensures in
    let m = length-map c.args.proc.blocks code_block in
    let f = few_blocks (code_blocks c.args.proc.blocks) in
    let g = c.requires.code.few in
    omega (arith, e, m, f, g)

pub returns-clause-valid : goal.returns-clause-valid
returns-clause-valid c =
    let p = c.args.proc in
    let e : c.from_vec.result ≡ (selected p).nodes =
    c.from_vec.ensures ∙ (c.in_ok-nodes_from.ensures ∙ ap (λ bs. with_preds (preds_of (code_nodes (split_nodes bs))) 0 (split_nodes bs)) c.into_vec.ensures) in
    subst (λ (ns : List Node). let f : Flow = record { nodes = ns; values = p.values; args = p.args; counted = p.counted; local_cells = p.local_cells; local_bytes = p.local_bytes } in IsValidFlow f) (sym e) (selected_valid p c.requires)
