use Rattle.std.proofs.Common.{subst, sym, ap, ◌∙◌, Err}
use Rattle.ob_judge.specs.Scopes.{spelled, place}
use Rattle.ob_judge.specs.Standards.{predeclared}
use Rattle.check_types.specs.steps.Answers.{Answers}
use Rattle.check_types.specs.declared.steps.fault.CheckFault.{CheckFault}
use Rattle.check_types.specs.names.Entries.{found_as}
use Rattle.check_types.specs.names.Worlds.{table_of, strings_of, world_of, IsNamed}
use Rattle.check_types.proofs.steps.Answering.{missing}
use Rattle.check_types.proofs.names.scope.Scope.outermost.Goals as goal

pub returns-in-None : goal.returns-in-None
returns-in-None c =
    let s = c.args.self.now in let p = s.source.now in
    subst (λ (e : CheckFault). Answers (IsNamed s) (found_as p (world_of s) c.args.i (predeclared (spelled p c.args.i))) (Err e)) (sym c.fault.ensures)
    (missing 30 (place p c.args.i) _ (ap predeclared (sym c.spelled.ensures) ∙ sym (c.in-None.ensures (table_of s) (strings_of s))))
