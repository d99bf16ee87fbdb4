use Rattle.std.proofs.Common.{not, ap, ◌∙◌}
use Rattle.ob_judge.specs.Judged.{rule}
use Rattle.check_types.specs.declared.steps.fault.CheckFault.TheVariants.{Fault}
use Rattle.check_types.proofs.steps.Answering.{kept, as_judged}
use Rattle.check_operands.proofs.calls.Binding.{refused_by}
use Rattle.check_selectors.proofs.standard.Refusing.{breaks}
use Rattle.check_selectors.proofs.standard.asked.written.Goals as goal

pub returns-then-not-is_variable : goal.returns-then-not-is_variable
returns-then-not-is_variable c = λ a h. refused_by 40 a.at _ (c.fault.ensures ∙ ap (Fault 40) h.at) (c.is_variable.ensures a.operand h.operand.usage ∙ c.if-not-is_variable.true)

pub returns-then-is_read_only : goal.returns-then-is_read_only
returns-then-is_read_only c = λ a h.
    kept 40 a.at _ (c.is_variable.ensures a.operand h.operand.usage ∙ c.if-not-is_variable.false)
    (as_judged (ap (λ b. rule 33 a.at (not b)) (c.is_read_only.ensures a.operand h.operand.usage ∙ c.if-is_read_only.true)) (breaks 33 a.at (c.fault-then-is_read_only.ensures ∙ ap (Fault 33) h.at)))

pub returns-else-is_read_only : goal.returns-else-is_read_only
returns-else-is_read_only c = λ a h.
    kept 40 a.at _ (c.is_variable.ensures a.operand h.operand.usage ∙ c.if-not-is_variable.false)
    (as_judged (ap (λ b. rule 33 a.at (not b)) (c.is_read_only.ensures a.operand h.operand.usage ∙ c.if-is_read_only.false)) (record { by = tt }))
