use Rattle.std.proofs.Common.{◌≡◌, map, ap, subst, ◌∙◌}
use Rattle.std.specs.Prelude.{IfOk, nat_le}
use Rattle.ssa_core.specs.Procedures.{code_blocks}
use Rattle.a64_select.specs.Selected.{joins_of}
use Rattle.a64_select.proofs.Preds.{joins-counts}
use Rattle.a64_select.proofs.edges.joins.Goals as goal

pub returns : goal.returns
returns c =
    let e : map (λ n. nat_le 2 n) c.as_slice.result.now ≡ joins_of (code_blocks c.args.blocks.now) =
    ap (map (λ n. nat_le 2 n)) c.as_slice.ensures.value ∙ (ap (map (λ n. nat_le 2 n)) c.in_ok-counts.ensures ∙ joins-counts (code_blocks c.args.blocks.now)) in
    subst (λ ys. IfOk c.above_one.result (λ joins. joins.items ≡ ys)) e c.above_one.ensures
