use Rattle.std.proofs.Common.{◌+◌, ◌%◌, ◌^◌, ap, ◌∙◌, subst}
use lib.ListN.{get_elem?}
use Rattle.pool_core.specs.Fits.{FitsAt}
use Rattle.sum_tree.specs.Values.{mixed, path_sum}
use Rattle.sum_tree.proofs.Sums.{child_sum, some_hint}
use Rattle.sum_tree.proofs.SumTreeWork.run.Goals as goal

pub returns-in-Some : goal.returns-in-Some
returns-in-Some c =
    let P = c.args.self.now.parents.items in
    let number = mixed c.args.self.now.rounds in
    let h = some_hint (get_elem? P c.args.trace) _ c.in-Some.above (subst (FitsAt (get_elem? P c.args.trace) _) c.in-Some.is c.requires) in
    ap (λ k. (k + c.own-own.result) % 2 ^ 64) h.2 ∙ (ap (λ k. (path_sum P number h.0 + k) % 2 ^ 64) c.own-own.ensures ∙ child_sum P number c.args.self.now.tree c.args.trace h.0 h.1)
