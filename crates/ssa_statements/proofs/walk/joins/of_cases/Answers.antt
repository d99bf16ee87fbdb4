use Rattle.std.proofs.Common.{◌∙◌, ◌||◌, ap, sym}
use Rattle.ssa_assigned.specs.Assigned.{has, assigned_cases}
use Rattle.ssa_statements.proofs.walk.joins.of_cases.Goals as goal

pub returns : goal.returns
returns c = λ p here s env len. c.in_ok-list.ensures p here s (assigned_cases c.args.parts.now) (λ x. c.in_ok-note_cases.ensures x ∙ ap (λ l. has l x || assigned_cases c.args.parts.now x) c.new-found.ensures.items) env (len ∙ sym c.variables.ensures)
