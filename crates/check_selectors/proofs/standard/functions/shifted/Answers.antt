use Rattle.std.proofs.Common.{◌≡◌, true, false, not, refl, sym, ap, ap₂, ◌∙◌}
use Rattle.ob_judge.specs.Judged.{Judged, Keeps, ◌>>=◌, ◌>>◌, rule, some}
use Rattle.ob_judge.specs.Shapes.{Integer, Boolean, Char, Set, is_number, is_truth, is_set, element_of, target_of}
use Rattle.ob_judge.specs.Image as I
use Rattle.ob_judge.specs.Operands.{checked, form, designator_of}
use Rattle.ob_judge.specs.Calls as J
use Rattle.judged_tree.specs.Plain.{plain_expr, plain_designator, plain_checked}
use Rattle.check_types.proofs.steps.Answering.{goes_on, stop, exit, kept, there, as_judged}
use Rattle.check_types.specs.TypeMeaning.{type_shape}
use Rattle.check_types.specs.names.Worlds.{table_of, world_of}
use Rattle.check_operands.specs.Operands.{texts_of, bases_of}
use Rattle.check_selectors.specs.standard.Made.{changed_by}
use Rattle.check_selectors.proofs.standard.Kept.{kept_so, number_is, some_mapped}
use Rattle.ob_types.specs.declared.tree.Unary.TheVariants as TheUnary
use Rattle.ob_types.specs.declared.tree.Binary.TheVariants as TheBinary
use Rattle.check_types.specs.declared.steps.fault.CheckFault.TheVariants.{Fault}
use Rattle.check_selectors.proofs.standard.Refusing.{number_refused, number_kept}
use Rattle.check_selectors.proofs.standard.functions.shifted.Goals as goal
use Rattle.ob_types.proofs.Tests.{and_from as both_true}

pub returns-in_ok-tree : goal.returns-in_ok-tree
returns-in_ok-tree c = λ a b h k.
    let s = c.args.scope.now in
    as_judged (ap₂ (λ m n. m >>= λ x. n >>= λ y. J.function Integer (I.Linked x.form (I.Operate c.args.operator y.form))) (number_is (world_of s) a (ap is_number (sym h.operand.shape) ∙ c.is_number.ensures (table_of s) ∙ c.if-not-is_number.false)) (number_is (world_of s) b (ap is_number (sym k.operand.shape) ∙ c.is_number-else-not-is_number.ensures (table_of s) ∙ c.if-not-is_number-2.false)))
    (record {
      by = c.function.ensures s Integer (I.Linked (form a.operand) (I.Operate c.args.operator (form b.operand))) refl
          (c.in_ok-tree.ensures (table_of s) (texts_of s) ∙ ap₂ (λ x y. I.Linked x (I.Operate c.args.operator y)) (c.form-left.ensures a.operand h.operand) (c.form-right.ensures b.operand k.operand));
    })

pub returns-then-not-is_number : goal.returns-then-not-is_number
returns-then-not-is_number c = λ a b h k.
    let s = c.args.scope.now in
    number_refused (world_of s) a _ (c.fault.ensures ∙ ap (Fault 31) h.at) (ap is_number (sym h.operand.shape) ∙ c.is_number.ensures (table_of s) ∙ c.if-not-is_number.true)

pub returns-then-not-is_number-2 : goal.returns-then-not-is_number-2
returns-then-not-is_number-2 c = λ a b h k.
    let s = c.args.scope.now in
    number_kept (world_of s) a _ (ap is_number (sym h.operand.shape) ∙ c.is_number.ensures (table_of s) ∙ c.if-not-is_number.false)
    (number_refused (world_of s) b _ (c.fault-then-not-is_number-2.ensures ∙ ap (Fault 31) k.at) (ap is_number (sym k.operand.shape) ∙ c.is_number-else-not-is_number.ensures (table_of s) ∙ c.if-not-is_number-2.true))
