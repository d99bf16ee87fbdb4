use Rattle.std.proofs.Common.{sym, ap, ap₂, ◌∙◌}
use Rattle.ob_judge.specs.Image as I
use Rattle.ob_judge.specs.Operands.{designator_of}
use Rattle.judged_tree.specs.Outline.{outlined_call, outlined_designator}
use Rattle.check_operands.specs.trees.Lists.{each_argument}
use Rattle.check_operands.proofs.trees.Rows.{direct_is, indirect_is}
use Rattle.check_types.specs.names.Worlds.{table_of, world_of}
use Rattle.check_operands.specs.Operands.{texts_of, bases_of}
use Rattle.check_operands.proofs.calls.Binding.{direct_call, indirect_call}
use Rattle.check_operands.proofs.calls.calls.call_by.Goals as goal

pub returns-in-Some : goal.returns-in-Some
returns-in-Some c = λ a bs h k.
    let s = c.args.scope.now in
    direct_is (table_of s) (texts_of s) c.in-Some.number c.args.arguments ∙ ap (I.Direct c.in-Some.number) k
    ∙ ap (outlined_call (bases_of s)) (sym (direct_call (world_of s) a a.what bs c.in-Some.number (c.in-Some.ensures a.what h.what)))

pub returns-in-None : goal.returns-in-None
returns-in-None c = λ a bs h k.
    let s = c.args.scope.now in
    indirect_is (table_of s) (texts_of s) c.designator.result c.args.arguments ∙ ap₂ I.Indirect (c.designator.ensures a h) k
    ∙ ap (outlined_call (bases_of s)) (sym (indirect_call (world_of s) a a.what bs (c.in-None.ensures a.what h.what)))
