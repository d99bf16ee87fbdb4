use Rattle.std.proofs.Common.{◌≡◌, true, false, not, refl, sym, ap, ap₂, ◌∙◌}
use Rattle.ob_judge.specs.Judged.{Judged, Keeps, ◌>>=◌, ◌>>◌, rule, some}
use Rattle.ob_judge.specs.Shapes.{Integer, Boolean, Char, Set, is_number, is_truth, is_set, element_of, target_of}
use Rattle.ob_judge.specs.Image as I
use Rattle.ob_judge.specs.Operands.{checked, form, designator_of}
use Rattle.ob_judge.specs.Calls as J
use Rattle.judged_tree.specs.Plain.{plain_expr, plain_designator, plain_checked}
use Rattle.check_types.proofs.steps.Answering.{goes_on, stop, exit, kept, there, as_judged}
use Rattle.check_types.specs.TypeMeaning.{type_shape}
use Rattle.check_types.specs.names.Worlds.{table_of, world_of}
use Rattle.check_operands.specs.Operands.{texts_of, bases_of}
use Rattle.check_selectors.specs.standard.Made.{changed_by}
use Rattle.check_selectors.proofs.standard.Kept.{kept_so, number_is, changed_outlined}
use Rattle.ob_types.specs.declared.tree.Unary.TheVariants as TheUnary
use Rattle.ob_types.specs.declared.tree.Binary.TheVariants as TheBinary
use Rattle.check_selectors.proofs.standard.proper.changed_by_one.Goals as goal

pub returns-in_ok-made : goal.returns-in_ok-made
returns-in_ok-made c = λ a h.
    let s = c.args.scope.now in
    kept_so _ _ (c.in_ok-written.ensures a h)
    (as_judged (ap (λ m. m >>= λ _. J.by_one >>= λ x. J.proper (changed_by c.args.change (designator_of a.operand) x)) (number_is (world_of s) a (ap is_number (sym h.operand.shape) ∙ c.is_number.ensures (table_of s) ∙ c.if-is_number.true)))
    (record { by = c.in_ok-made.ensures s (changed_by c.args.change (designator_of a.operand) (record { form = I.Literal 1; shape = Integer })) (c.of.ensures (table_of s) (texts_of s) ∙ ap₂ (changed_by c.args.change) (c.designator.ensures a.operand h.operand) refl ∙ changed_outlined (bases_of s) c.args.change (designator_of a.operand) (record { form = I.Literal 1; shape = Integer })) }))
