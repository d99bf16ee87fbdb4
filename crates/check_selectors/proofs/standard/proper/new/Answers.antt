use Rattle.std.proofs.Common.{◌≡◌, true, false, not, refl, sym, ap, ap₂, ◌∙◌}
use Rattle.ob_judge.specs.Judged.{Judged, Keeps, ◌>>=◌, ◌>>◌, rule, some}
use Rattle.ob_judge.specs.Shapes.{Integer, Boolean, Char, Set, is_number, is_truth, is_set, element_of, target_of}
use Rattle.ob_judge.specs.Image as I
use Rattle.ob_judge.specs.Operands.{checked, form, designator_of}
use Rattle.ob_judge.specs.Calls as J
use Rattle.judged_tree.specs.Plain.{plain_expr, plain_designator, plain_checked}
use Rattle.check_types.proofs.steps.Answering.{goes_on, stop, exit, kept, there, as_judged}
use Rattle.check_types.specs.TypeMeaning.{type_shape}
use Rattle.check_types.specs.names.Worlds.{table_of, world_of}
use Rattle.check_operands.specs.Operands.{texts_of, bases_of}
use Rattle.check_selectors.specs.standard.Made.{changed_by}
use Rattle.check_selectors.proofs.standard.Kept.{kept_so, number_is, some_mapped}
use Rattle.ob_types.specs.declared.tree.Unary.TheVariants as TheUnary
use Rattle.ob_types.specs.declared.tree.Binary.TheVariants as TheBinary
use Rattle.check_types.specs.declared.steps.fault.CheckFault.TheVariants.{Fault}
use Rattle.check_operands.proofs.calls.Binding.{refused_by}
use Rattle.check_selectors.proofs.parts.Reached.{refused}
use Rattle.check_selectors.proofs.standard.proper.new.Goals as goal
use Rattle.ob_types.proofs.Tests.{and_from as both_true}

pub returns-in_ok-made-in-Some : goal.returns-in_ok-made-in-Some
returns-in_ok-made-in-Some c = λ a h.
    let s = c.args.scope.now in
    kept_so _ _ (c.in_ok-written.ensures a h)
    (there 31 a.at _ (ap (target_of (world_of s).known) (sym h.operand.shape) ∙ c.in-Some.ensures)
    (kept 31 a.at _ (ap not (c.is_narrowed.ensures a.operand h.operand.usage ∙ c.if-is_narrowed.false))
    (record { by = c.in_ok-made-in-Some.ensures s (I.New (designator_of a.operand)) (ap I.New (c.designator.ensures a.operand h.operand)) })))

pub returns-in-None : goal.returns-in-None
returns-in-None c = λ a h.
    let s = c.args.scope.now in
    kept_so _ _ (c.in_ok-written.ensures a h)
    (refused 31 a.at _ (c.fault.ensures ∙ ap (Fault 31) h.at) (ap (target_of (world_of s).known) (sym h.operand.shape) ∙ c.in-None.ensures))

pub returns-then-is_narrowed : goal.returns-then-is_narrowed
returns-then-is_narrowed c = λ a h.
    let s = c.args.scope.now in
    kept_so _ _ (c.in_ok-written.ensures a h)
    (there 31 a.at _ (ap (target_of (world_of s).known) (sym h.operand.shape) ∙ c.in-Some.ensures)
    (refused_by 31 a.at _ (c.fault-then-is_narrowed.ensures ∙ ap (Fault 31) h.at) (ap not (c.is_narrowed.ensures a.operand h.operand.usage ∙ c.if-is_narrowed.true))))
