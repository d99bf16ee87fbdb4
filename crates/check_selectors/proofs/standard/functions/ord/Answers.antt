use Rattle.std.proofs.Common.{◌≡◌, true, false, not, refl, sym, ap, ap₂, ◌∙◌}
use Rattle.ob_judge.specs.Judged.{Judged, Keeps, ◌>>=◌, ◌>>◌, rule, some}
use Rattle.ob_judge.specs.Shapes.{Integer, Boolean, Char, Set, is_number, is_truth, is_set, element_of, target_of}
use Rattle.ob_judge.specs.Image as I
use Rattle.ob_judge.specs.Operands.{checked, form, designator_of}
use Rattle.ob_judge.specs.Calls as J
use Rattle.judged_tree.specs.Plain.{plain_expr, plain_designator, plain_checked}
use Rattle.check_types.proofs.steps.Answering.{goes_on, stop, exit, kept, there, as_judged}
use Rattle.check_types.specs.TypeMeaning.{type_shape}
use Rattle.check_types.specs.names.Worlds.{table_of}
use Rattle.check_operands.specs.Operands.{texts_of, bases_of}
use Rattle.check_selectors.specs.standard.Made.{changed_by}
use Rattle.check_selectors.proofs.standard.Kept.{kept_so, number_is, some_mapped}
use Rattle.ob_types.specs.declared.tree.Unary.TheVariants as TheUnary
use Rattle.ob_types.specs.declared.tree.Binary.TheVariants as TheBinary
use Rattle.check_types.specs.declared.steps.fault.CheckFault.TheVariants.{Fault}
use Rattle.check_operands.proofs.calls.Binding.{refused_by}
use Rattle.check_selectors.proofs.standard.functions.ord.Goals as goal
use Rattle.ob_types.proofs.Tests.{and_from as both_true}

pub returns-then-may_order : goal.returns-then-may_order
returns-then-may_order c = λ a h.
    let s = c.args.scope.now in
    kept 31 a.at _ (ap J.may_order (sym h.operand.shape) ∙ c.may_order.ensures (table_of s) ∙ c.if-may_order.true)
    (record { by = c.function.ensures s Integer (form a.operand) refl (c.form.ensures a.operand h.operand) })

pub returns-else-may_order : goal.returns-else-may_order
returns-else-may_order c = λ a h.
    let s = c.args.scope.now in
    refused_by 31 a.at _ (c.fault.ensures ∙ ap (Fault 31) h.at) (ap J.may_order (sym h.operand.shape) ∙ c.may_order.ensures (table_of s) ∙ c.if-may_order.false)
