use Rattle.std.proofs.Common.{not, ap, ◌∙◌}
use Rattle.ob_judge.specs.Scopes.{place}
use Rattle.check_types.proofs.steps.Answering.{goes_on, kept}
use Rattle.check_types.specs.declared.steps.fault.CheckFault.TheVariants.{Fault}
use Rattle.check_types.specs.names.Worlds.{table_of}
use Rattle.check_operands.proofs.calls.Binding.{refused_by}
use Rattle.check_statements.proofs.assignments.guards.returned.Goals as goal

pub returns-else-may_assign : goal.returns-else-may_assign
returns-else-may_assign c = let s = c.args.scope.now in goes_on _ _ c.in_ok-x.ensures (λ a h. kept 41 _ _ (ap not (c.is_nothing.ensures (table_of s) ∙ c.if-is_nothing.false))
    (refused_by 31 _ _ (c.fault-else-may_assign.ensures ∙ ap (λ n. Fault 31 (place s.source.now n)) c.expression_first.ensures) (c.may_assign.ensures a h ∙ c.if-may_assign.false)))
