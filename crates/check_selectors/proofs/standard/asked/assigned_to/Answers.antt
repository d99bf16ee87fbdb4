use Rattle.std.proofs.Common.{ap, ◌∙◌}
use Rattle.check_types.specs.declared.steps.fault.CheckFault.TheVariants.{Fault}
use Rattle.check_types.proofs.steps.Answering.{kept}
use Rattle.check_operands.proofs.calls.Binding.{refused_by}
use Rattle.check_selectors.proofs.standard.asked.assigned_to.Goals as goal

pub returns-in_ok-value : goal.returns-in_ok-value
returns-in_ok-value c = λ a h. kept 31 a.at _ (c.may_assign.ensures a.operand h.operand ∙ c.if-may_assign.true) (record { by = c.in_ok-value.ensures a.operand h.operand })

pub returns-else-may_assign : goal.returns-else-may_assign
returns-else-may_assign c = λ a h. refused_by 31 a.at _ (c.fault.ensures ∙ ap (Fault 31) h.at) (c.may_assign.ensures a.operand h.operand ∙ c.if-may_assign.false)
