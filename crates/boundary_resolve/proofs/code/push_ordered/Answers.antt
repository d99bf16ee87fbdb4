use Rattle.std.proofs.lemmas.List.{take_rest}
use Rattle.boundary_resolve.proofs.Laid.{pushed_both, steps_behind}
use Rattle.std.proofs.Common.{List, ◌++◌, map, ap, ◌∙◌}
use Rattle.parallel_move.specs.declared.step.Step.{Step}
use Rattle.boundary_resolve.specs.declared.code_line.CodeLine.TheVariants.{Edge}
use Rattle.boundary_resolve.proofs.code.push_ordered.Goals as goal

pub returns : goal.returns
returns c d =
    let ms = c.args.moves.now in
    let n = c.leading-first.result in
    pushed_both ms n c.in_ok-steps.steps.items c.args.placed.now.items c.push_copies.new.placed.items c.push_steps.new.placed.items c.leading-first.ensures.order
    (steps_behind ms n _ c.in_ok-steps.steps.items (take_rest ms n) d c.in_ok-steps.ensures.steps)
    c.in_ok-push_copies.ensures
    (c.in_ok-push_steps.ensures ∙ ap (λ (x : List Step). c.push_copies.new.placed.items ++ map Edge x) c.as_slice.ensures.value)
