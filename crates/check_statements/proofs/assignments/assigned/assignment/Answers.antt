use Rattle.std.proofs.Common.{not, ap, sym, ◌∙◌}
use Rattle.ob_judge.specs.Scopes.{place}
use Rattle.ob_judge.specs.Calls.{may_assign}
use Rattle.check_types.proofs.steps.Answering.{goes_on, kept}
use Rattle.check_types.specs.declared.steps.fault.CheckFault.TheVariants.{Fault}
use Rattle.check_types.specs.Known.{known_of}
use Rattle.check_operands.proofs.calls.Binding.{refused_by}
use Rattle.check_statements.proofs.assignments.assigned.assignment.Goals as goal

pub returns-then-not-is_variable : goal.returns-then-not-is_variable
returns-then-not-is_variable c = goes_on _ _ c.in_ok-x.ensures (λ a h. goes_on _ _ c.in_ok-y.ensures (λ b k. refused_by 31 _ _ c.fault.ensures (c.is_variable.ensures a h.usage ∙ c.if-not-is_variable.true)))

pub returns-then-is_read_only : goal.returns-then-is_read_only
returns-then-is_read_only c = goes_on _ _ c.in_ok-x.ensures (λ a h. goes_on _ _ c.in_ok-y.ensures (λ b k. kept 31 _ _ (c.is_variable.ensures a h.usage ∙ c.if-not-is_variable.false)
    (refused_by 33 _ _ c.fault-then-is_read_only.ensures (ap not (c.is_read_only.ensures a h.usage ∙ c.if-is_read_only.true)))))

pub returns-then-not-may_assign : goal.returns-then-not-may_assign
returns-then-not-may_assign c = let s = c.args.scope.now in goes_on _ _ c.in_ok-x.ensures (λ a h. goes_on _ _ c.in_ok-y.ensures (λ b k. kept 31 _ _ (c.is_variable.ensures a h.usage ∙ c.if-not-is_variable.false)
    (kept 33 _ _ (ap not (c.is_read_only.ensures a h.usage ∙ c.if-is_read_only.false))
    (refused_by 31 _ _ (c.fault-then-not-may_assign.ensures ∙ ap (λ n. Fault 31 (place s.source.now n)) c.expression_first.ensures) (ap (λ z. may_assign (known_of s.types.now) z b) (sym h.shape) ∙ c.may_assign.ensures b k ∙ c.if-not-may_assign.true)))))

pub returns-else-not-may_assign : goal.returns-else-not-may_assign
returns-else-not-may_assign c = let s = c.args.scope.now in goes_on _ _ c.in_ok-x.ensures (λ a h. goes_on _ _ c.in_ok-y.ensures (λ b k. kept 31 _ _ (c.is_variable.ensures a h.usage ∙ c.if-not-is_variable.false)
    (kept 33 _ _ (ap not (c.is_read_only.ensures a h.usage ∙ c.if-is_read_only.false))
    (kept 31 _ _ (ap (λ z. may_assign (known_of s.types.now) z b) (sym h.shape) ∙ c.may_assign.ensures b k ∙ c.if-not-may_assign.false) (c.assigned.ensures a b h k)))))
