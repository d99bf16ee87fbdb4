use Rattle.std.proofs.Common.{not, pos, ap, sym, ◌∙◌, w64, rules}
use Rattle.std.specs.Ordering.{int_eq}
use Rattle.std.proofs.lemmas.Int.{to_z-of_z}
use mir.Val.{SFits}
use Rattle.ob_judge.specs.Scopes.{place}
use Rattle.ob_judge.specs.Assignments.{int_only}
use Rattle.check_types.proofs.steps.Answering.{goes_on, there, kept}
use Rattle.check_types.specs.declared.steps.fault.CheckFault.TheVariants.{Fault}
use Rattle.check_operands.specs.Operands.{texts_of}
use Rattle.check_operands.proofs.calls.Binding.{refused_by}
use Rattle.check_statements.proofs.assignments.Assigning.{missing_so}
use Rattle.check_statements.proofs.assignments.guards.step_in.Goals as goal

pub returns-in-None : goal.returns-in-None
returns-in-None c = let s = c.args.scope.now in goes_on _ _ c.in_ok-value.ensures (λ k h. missing_so 31 _ _ (ap int_only (sym h) ∙ sym (c.in-None.ensures (texts_of s))) (c.fault.ensures ∙ ap (λ n. Fault 31 (place s.source.now n)) c.expression_first.ensures))

pub returns-then-is_step : goal.returns-then-is_step
returns-then-is_step c =
    let s = c.args.scope.now in
    let f : SFits w64 c.in-Some.found = search rules in
    let l = to_z-of_z w64 c.in-Some.found f in
    goes_on _ _ c.in_ok-value.ensures (λ k h. there 31 _ _ (ap int_only (sym h) ∙ sym (c.in-Some.ensures (texts_of s)))
    (kept 35 _ _ (ap (λ n. not (int_eq n (pos 0))) (sym l) ∙ sym c.is_step.ensures ∙ c.if-is_step.true) (record { by = l })))

pub returns-else-is_step : goal.returns-else-is_step
returns-else-is_step c =
    let s = c.args.scope.now in
    let f : SFits w64 c.in-Some.found = search rules in
    let l = to_z-of_z w64 c.in-Some.found f in
    goes_on _ _ c.in_ok-value.ensures (λ k h. there 31 _ _ (ap int_only (sym h) ∙ sym (c.in-Some.ensures (texts_of s)))
    (refused_by 35 _ _ (c.fault-else-is_step.ensures ∙ ap (λ n. Fault 35 (place s.source.now n)) c.expression_first-else-is_step.ensures) (ap (λ n. not (int_eq n (pos 0))) (sym l) ∙ sym c.is_step.ensures ∙ c.if-is_step.false)))
