use Rattle.std.proofs.Common.{◌≡◌, ℕ, ◌<◌, ◌∙◌, ap, sym, subst, arith, length, List, None, replicate}
use Rattle.block_runs.specs.Valid.{made, times}
use Rattle.ssa_core.specs.declared.procedure.Block.{Block}
use Rattle.ssa_core.specs.Procedures.{code_blocks}
use Rattle.ssa_valid.specs.Order.{all_in_order}
use Rattle.ssa_valid.specs.Tables.{makers_from}
use Rattle.ssa_valid.specs.Search.{Decides}
use Rattle.ssa_valid.proofs.Whole.{Passes, not_formed, not_in_order, few_blocks, decided}
use Rattle.ssa_valid.proofs.validity.is_valid.Goals as goal

pub returns-then-not-is_formed : goal.returns-then-not-is_formed
returns-then-not-is_formed c = not_formed c.args.proc.now (sym c.is_formed.ensures ∙ c.if-not-is_formed.true)

pub blocks_are_in_order-requires : goal.blocks_are_in_order-requires
blocks_are_in_order-requires c =
    let a = few_blocks c.args.proc.now (sym c.is_formed.ensures ∙ c.if-not-is_formed.false) in
    let b = ap length c.as_slice-blocks.ensures in
    omega (arith, a, b)

pub returns-then-not-branch-2 : goal.returns-then-not-branch-2
returns-then-not-branch-2 c =
    not_in_order c.args.proc.now
    (ap (λ bs. all_in_order (replicate c.args.proc.now.values None) (code_blocks bs) 0) (sym c.as_slice-blocks.ensures) ∙ sym c.in_ok-blocks_are_in_order.ensures ∙ c.if-not-branch-2.true)

pub makers-requires : goal.makers-requires
makers-requires c =
    let a = few_blocks c.args.proc.now (sym c.is_formed.ensures ∙ c.if-not-is_formed.false) in
    let b = ap length c.as_slice-blocks.ensures in
    omega (arith, a, b)

pub is_first_free-requires-clause-blocks : goal.is_first_free-requires-clause-blocks
is_first_free-requires-clause-blocks c =
    let a = few_blocks c.args.proc.now (sym c.is_formed.ensures ∙ c.if-not-is_formed.false) in
    let b = ap length c.as_slice-blocks.ensures in
    omega (arith, a, b)

pub is_first_free-requires-clause-values : goal.is_first_free-requires-clause-values
is_first_free-requires-clause-values c = let a = c.in_ok-makers.ensures.few in let b = ap length c.as_slice.ensures.value in omega (arith, a, b)

pub returns : goal.returns
returns c =
    let p = c.args.proc.now in
    let e = c.as_slice-blocks.ensures in
    let t : Passes p = record {
      formed = sym c.is_formed.ensures ∙ c.if-not-is_formed.false;
      made_once = subst (λ (bs : List Block). (v : ℕ) → v < p.values → times (made (code_blocks bs)) v ≡ 1) e (c.in_ok-are_made_once.ensures.0 c.if-not-branch.false);
      in_order = ap (λ bs. all_in_order (replicate p.values None) (code_blocks bs) 0) (sym e) ∙ sym c.in_ok-blocks_are_in_order.ensures ∙ c.if-not-branch-2.false;
    } in
    decided p c.as_slice.result.now c.in_ok-is_first_free.field-0 t (c.as_slice.ensures.value ∙ c.in_ok-makers.ensures.table ∙ ap (λ bs. makers_from 0 (code_blocks bs) (replicate p.values 0)) e) (subst (λ (bs : List Block). Decides (code_blocks bs) c.as_slice.result.now c.in_ok-is_first_free.field-0) e c.in_ok-is_first_free.ensures)
