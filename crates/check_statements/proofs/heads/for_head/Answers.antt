use Rattle.std.proofs.Common.{sym, ap, ◌∙◌}
use Rattle.ob_judge.specs.Assignments.{integer_variable}
use Rattle.judged_tree.specs.Outline.{outlined_designator}
use Rattle.std.specs.Prelude.{option_map}
use Rattle.check_types.proofs.steps.Answering.{goes_on, stop, exit, there}
use Rattle.check_types.specs.names.Worlds.{world_of}
use Rattle.check_operands.specs.Operands.{bases_of}
use Rattle.check_statements.proofs.assignments.Assigning.{missing_so}
use Rattle.check_statements.proofs.Joining.{no_image, an_image}
use Rattle.check_statements.proofs.heads.for_head.Goals as goal

pub returns-in_err-named : goal.returns-in_err-named
returns-in_err-named c = exit _ c.from_residual.ensures.1 (stop _ _ c.in_err-named.ensures)

pub returns-in_err-x : goal.returns-in_err-x
returns-in_err-x c = exit _ c.from_residual-in_err-x.ensures.1 (goes_on _ _ c.in_ok-named.ensures (λ o h. stop _ _ c.in_err-x.ensures))

pub returns-in-None : goal.returns-in-None
returns-in-None c = let s = c.args.scope.now in
    goes_on _ _ c.in_ok-named.ensures (λ o h. goes_on _ _ c.in_ok-x.ensures (λ a k. missing_so 31 _ _
    (no_image (outlined_designator (bases_of s)) (integer_variable (world_of s) o) (c.in-None.ensures ∙ ap (λ z. option_map (outlined_designator (bases_of s)) (integer_variable (world_of s) z)) h))
    c.fault.ensures))

pub returns-in-Some : goal.returns-in-Some
returns-in-Some c = let s = c.args.scope.now in
    goes_on _ _ c.in_ok-named.ensures (λ o h. goes_on _ _ c.in_ok-x.ensures (λ a k.
    let r = an_image (outlined_designator (bases_of s)) (integer_variable (world_of s) o) _ (c.in-Some.ensures ∙ ap (λ z. option_map (outlined_designator (bases_of s)) (integer_variable (world_of s) z)) h) in
    there 31 _ _ r.1 (c.counted.ensures r.0 a r.2 k)))
