use Rattle.std.proofs.Common.{◌∙◌, ◌||◌, ap, sym}
use Rattle.ssa_assigned.specs.Assigned.{has, assigned_parts}
use Rattle.ssa_statements.proofs.walk.Joined.{or_turned}
use Rattle.ssa_statements.proofs.walk.joins.of_branches.Goals as goal

pub returns : goal.returns
returns c = λ p here s rest mask r e env len. c.in_ok-list.ensures p here s mask
    (λ x. c.in_ok-note_parts.ensures x ∙ ap (λ l. has l x || assigned_parts c.args.parts.now x) (c.in_ok-found.ensures.items_if_clones_equal (λ x y e. e)) ∙ ap (λ b. b || assigned_parts c.args.parts.now x) (r x) ∙ or_turned (rest x) (assigned_parts c.args.parts.now x) ∙ e x) env (len ∙ sym c.variables.ensures)
