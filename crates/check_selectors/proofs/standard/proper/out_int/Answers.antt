use Rattle.std.proofs.Common.{◌≡◌, true, false, not, refl, sym, ap, ap₂, ◌∙◌}
use Rattle.ob_judge.specs.Judged.{Judged, Keeps, ◌>>=◌, ◌>>◌, rule, some}
use Rattle.ob_judge.specs.Shapes.{Integer, Boolean, Char, Set, is_number, is_truth, is_set, element_of, target_of}
use Rattle.ob_judge.specs.Image as I
use Rattle.ob_judge.specs.Operands.{checked, form, designator_of}
use Rattle.ob_judge.specs.Calls as J
use Rattle.judged_tree.specs.Plain.{plain_expr, plain_designator, plain_checked}
use Rattle.check_types.proofs.steps.Answering.{goes_on, stop, exit, kept, there, as_judged}
use Rattle.check_types.specs.TypeMeaning.{type_shape}
use Rattle.check_types.specs.names.Worlds.{table_of, world_of}
use Rattle.check_operands.specs.Operands.{texts_of, bases_of}
use Rattle.check_selectors.specs.standard.Made.{changed_by}
use Rattle.check_selectors.proofs.standard.Kept.{kept_so, number_is, some_mapped}
use Rattle.ob_types.specs.declared.tree.Unary.TheVariants as TheUnary
use Rattle.ob_types.specs.declared.tree.Binary.TheVariants as TheBinary
use Rattle.check_selectors.proofs.standard.proper.out_int.Goals as goal
use Rattle.ob_types.proofs.Tests.{and_from as both_true}

pub returns-in_err-width : goal.returns-in_err-width
returns-in_err-width c = λ a b h k. exit _ c.from_residual-in_err-width.ensures.1 (goes_on _ _ (c.in_ok-value.ensures a h) (λ x e. stop _ _ (c.in_err-width.ensures b k)))

pub returns : goal.returns
returns c = λ a b h k.
    let s = c.args.scope.now in
    goes_on _ _ (c.in_ok-value.ensures a h) (λ x e. goes_on _ _ (c.in_ok-width.ensures b k) (λ y f. record { by = c.in_ok-made.ensures s (I.OutInt x y) (ap₂ I.OutInt e f) }))
