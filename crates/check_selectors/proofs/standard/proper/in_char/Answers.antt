use Rattle.std.proofs.Common.{◌≡◌, true, false, not, refl, sym, ap, ap₂, ◌∙◌}
use Rattle.ob_judge.specs.Judged.{Judged, Keeps, ◌>>=◌, ◌>>◌, rule, some}
use Rattle.ob_judge.specs.Shapes.{Integer, Boolean, Char, Set, is_number, is_truth, is_set, element_of, target_of}
use Rattle.ob_judge.specs.Image as I
use Rattle.ob_judge.specs.Operands.{checked, form, designator_of}
use Rattle.ob_judge.specs.Calls as J
use Rattle.judged_tree.specs.Plain.{plain_expr, plain_designator, plain_checked}
use Rattle.check_types.proofs.steps.Answering.{goes_on, stop, exit, kept, there, as_judged}
use Rattle.check_types.specs.names.Worlds.{table_of}
use Rattle.check_operands.specs.Operands.{texts_of, bases_of}
use Rattle.check_selectors.specs.standard.Made.{changed_by}
use Rattle.check_selectors.proofs.standard.Kept.{kept_so, number_is, changed_outlined}
use Rattle.ob_types.specs.declared.tree.Unary.TheVariants as TheUnary
use Rattle.ob_types.specs.declared.tree.Binary.TheVariants as TheBinary
use Rattle.check_types.specs.declared.steps.fault.CheckFault.TheVariants.{Fault}
use Rattle.check_operands.proofs.calls.Binding.{refused_by}
use Rattle.check_selectors.proofs.standard.proper.in_char.Goals as goal

pub returns-in_ok-made : goal.returns-in_ok-made
returns-in_ok-made c = λ a h.
    let s = c.args.scope.now in
    kept_so _ _ (c.in_ok-written.ensures a h)
    (kept 31 a.at _ (ap J.is_char_only (sym h.operand.shape) ∙ c.is_char_only.ensures (table_of s) ∙ c.if-is_char_only.true)
    (record { by = c.in_ok-made.ensures s (I.InChar (designator_of a.operand)) (ap I.InChar (c.designator.ensures a.operand h.operand)) }))

pub returns-else-is_char_only : goal.returns-else-is_char_only
returns-else-is_char_only c = λ a h.
    let s = c.args.scope.now in
    kept_so _ _ (c.in_ok-written.ensures a h)
    (refused_by 31 a.at _ (c.fault.ensures ∙ ap (Fault 31) h.at) (ap J.is_char_only (sym h.operand.shape) ∙ c.is_char_only.ensures (table_of s) ∙ c.if-is_char_only.false))
