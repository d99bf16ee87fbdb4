use Rattle.std.proofs.Common.{◌∙◌, ◌||◌, ap, sym}
use Rattle.ssa_lowered.specs.Variables.{origin}
use Rattle.ssa_assigned.specs.Assigned.{has}
use Rattle.ssa_assigned.proofs.Noting.{has_last}
use Rattle.ssa_assigned.proofs.assigned.note_base.Goals as goal

pub returns-in_ok-push-in-Local : goal.returns-in_ok-push-in-Local
returns-in_ok-push-in-Local c = λ x.
    ap (λ l. has l x) c.in_ok-push-in-Local.ensures.items ∙ has_last c.args.found.now.items c.in-Local.x x
    ∙ ap (λ b. has c.args.found.now.items x || b) (sym (ap (λ o. origin o x) c.in-Local.is))
