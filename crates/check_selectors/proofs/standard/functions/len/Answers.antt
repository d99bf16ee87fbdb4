use Rattle.std.proofs.Common.{◌≡◌, true, false, not, refl, sym, ap, ap₂, ◌∙◌}
use Rattle.ob_judge.specs.Judged.{Judged, Keeps, ◌>>=◌, ◌>>◌, rule, some}
use Rattle.ob_judge.specs.Shapes.{Integer, Boolean, Char, Set, is_number, is_truth, is_set, element_of, target_of}
use Rattle.ob_judge.specs.Image as I
use Rattle.ob_judge.specs.Operands.{checked, form, designator_of}
use Rattle.ob_judge.specs.Calls as J
use Rattle.judged_tree.specs.Plain.{plain_expr, plain_designator, plain_checked}
use Rattle.check_types.proofs.steps.Answering.{goes_on, stop, exit, kept, there, as_judged}
use Rattle.check_types.specs.TypeMeaning.{type_shape}
use Rattle.check_types.specs.names.Worlds.{table_of, world_of}
use Rattle.check_operands.specs.Operands.{texts_of, bases_of}
use Rattle.check_selectors.specs.standard.Made.{changed_by}
use Rattle.check_selectors.proofs.standard.Kept.{kept_so, number_is, some_mapped}
use Rattle.ob_types.specs.declared.tree.Unary.TheVariants as TheUnary
use Rattle.ob_types.specs.declared.tree.Binary.TheVariants as TheBinary
use Rattle.check_selectors.proofs.standard.functions.len.Goals as goal
use Rattle.ob_types.proofs.Tests.{and_from as both_true}

pub returns-then-is_some : goal.returns-then-is_some
returns-then-is_some c = λ a h.
    let s = c.args.scope.now in
    kept 31 a.at _ (both_true _ _ (c.is_variable.ensures a.operand h.operand.usage ∙ c.if-is_variable.true)
    (ap (λ t. Rattle.std.specs.Option.is_some (element_of t)) (sym h.operand.shape) ∙ ap (λ o. Rattle.std.specs.Option.is_some o) (sym c.element.ensures) ∙ some_mapped (type_shape (table_of s)) c.element.result ∙ sym c.is_some.ensures ∙ c.if-is_some.true))
    (record { by = c.value.ensures s Integer (I.Length (designator_of a.operand)) refl (ap I.Length (c.designator.ensures a.operand h.operand)) })
