use Rattle.std.proofs.Common.{subst}
use Rattle.check_selectors.specs.parts.Parts.{Reaches}
use Rattle.check_selectors.specs.declared.parts.part.Reach.{Reach}
use Rattle.check_selectors.proofs.parts.Reached.{guarded_form}
use Rattle.check_selectors.proofs.parts.guards.pointer_guard.Goals as goal

pub returns-in-Named : goal.returns-in-Named
returns-in-Named c = λ a h. c.first_guard.ensures a h.shape (subst (λ (r : Reach). Reaches c.args.scope.now r a.what) c.in-Named.is h.reach)

pub returns-in-Guarded : goal.returns-in-Guarded
returns-in-Guarded c = λ a h. c.further_guard.ensures a (guarded_form c.args.scope.now c.in-Guarded.place c.in-Guarded.own c.in-Guarded.tags a (subst (λ (r : Reach). Reaches c.args.scope.now r a.what) c.in-Guarded.is h.reach))
