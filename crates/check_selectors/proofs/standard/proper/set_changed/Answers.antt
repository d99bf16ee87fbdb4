use Rattle.std.proofs.Common.{◌≡◌, true, false, not, refl, sym, ap, ap₂, ◌∙◌}
use Rattle.ob_judge.specs.Judged.{Judged, Keeps, ◌>>=◌, ◌>>◌, rule, some}
use Rattle.ob_judge.specs.Shapes.{Integer, Boolean, Char, Set, is_number, is_truth, is_set, element_of, target_of}
use Rattle.ob_judge.specs.Image as I
use Rattle.ob_judge.specs.Operands.{checked, form, designator_of}
use Rattle.ob_judge.specs.Calls as J
use Rattle.judged_tree.specs.Plain.{plain_expr, plain_designator, plain_checked}
use Rattle.check_types.proofs.steps.Answering.{goes_on, stop, exit, kept, there, as_judged}
use Rattle.check_types.specs.TypeMeaning.{type_shape}
use Rattle.check_types.specs.names.Worlds.{table_of, world_of}
use Rattle.check_operands.specs.Operands.{texts_of, bases_of}
use Rattle.check_selectors.specs.standard.Made.{changed_by}
use Rattle.check_selectors.proofs.standard.Kept.{kept_so, number_is, changed_outlined}
use Rattle.ob_types.specs.declared.tree.Unary.TheVariants as TheUnary
use Rattle.ob_types.specs.declared.tree.Binary.TheVariants as TheBinary
use Rattle.check_types.specs.declared.steps.fault.CheckFault.TheVariants.{Fault}
use Rattle.check_selectors.proofs.standard.Refusing.{number_refused}
use Rattle.check_operands.proofs.calls.Binding.{refused_by}
use Rattle.check_selectors.proofs.standard.proper.set_changed.Goals as goal

pub returns-in_ok-made : goal.returns-in_ok-made
returns-in_ok-made c = λ a b h k.
    let s = c.args.scope.now in
    kept_so _ _ (c.in_ok-written.ensures a h)
    (kept 31 a.at _ (ap is_set (sym h.operand.shape) ∙ c.is_set.ensures (table_of s) ∙ c.if-not-is_set.false)
    (as_judged (ap (λ n. n >>= λ x. J.proper (changed_by c.args.change (designator_of a.operand) x)) (number_is (world_of s) b (ap is_number (sym k.operand.shape) ∙ c.is_number.ensures (table_of s) ∙ c.if-not-is_number.false)))
    (record { by = c.in_ok-made.ensures s (changed_by c.args.change (designator_of a.operand) (checked b.operand)) (c.of.ensures (table_of s) (texts_of s) ∙ ap₂ (changed_by c.args.change) (c.designator-variable.ensures a.operand h.operand) (c.checked-element.ensures b.operand k.operand) ∙ changed_outlined (bases_of s) c.args.change (designator_of a.operand) (checked b.operand)) })))

pub returns-then-not-is_set : goal.returns-then-not-is_set
returns-then-not-is_set c = λ a b h k.
    let s = c.args.scope.now in
    kept_so _ _ (c.in_ok-written.ensures a h)
    (refused_by 31 a.at _ (c.fault.ensures ∙ ap (Fault 31) h.at) (ap is_set (sym h.operand.shape) ∙ c.is_set.ensures (table_of s) ∙ c.if-not-is_set.true))

pub returns-then-not-is_number : goal.returns-then-not-is_number
returns-then-not-is_number c = λ a b h k.
    let s = c.args.scope.now in
    kept_so _ _ (c.in_ok-written.ensures a h)
    (kept 31 a.at _ (ap is_set (sym h.operand.shape) ∙ c.is_set.ensures (table_of s) ∙ c.if-not-is_set.false)
    (number_refused (world_of s) b _ (c.fault-then-not-is_number.ensures ∙ ap (Fault 31) k.at) (ap is_number (sym k.operand.shape) ∙ c.is_number.ensures (table_of s) ∙ c.if-not-is_number.true)))
