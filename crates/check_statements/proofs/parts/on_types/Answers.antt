use Rattle.std.proofs.Common.{sym, ap, ap₂, ◌∙◌}
use Rattle.ob_judge.specs.Image as I
use Rattle.ob_judge.specs.Cases.{case_of}
use Rattle.judged_tree.specs.Outline.{outlined_statement}
use Rattle.check_types.specs.TypeMeaning.{type_shape}
use Rattle.check_types.specs.names.Meaning.{place_of}
use Rattle.check_types.specs.names.Worlds.{table_of}
use Rattle.check_operands.specs.Operands.{texts_of, bases_of}
use Rattle.check_statements.proofs.Filling.{on_pointer, on_parameter}
use Rattle.check_statements.proofs.parts.on_types.Goals as goal

pub returns-then-is_pointer : goal.returns-then-is_pointer
returns-then-is_pointer c = λ v on a b h k. let s = c.args.scope.now in
    c.case_pointer.ensures (table_of s) (texts_of s)
    ∙ ap₂ I.CasePointer (c.checked.ensures a h) k.all
    ∙ sym (ap (outlined_statement (bases_of s)) (ap (λ z. case_of z a b) (sym k.selector) ∙ on_pointer s.source.now (place_of v) (type_shape (table_of s) c.args.of) a b (c.is_pointer.ensures (table_of s) ∙ c.if-is_pointer.true)))

pub returns-else-is_pointer : goal.returns-else-is_pointer
returns-else-is_pointer c = λ v on a b h k. let s = c.args.scope.now in
    c.case_parameter.ensures (table_of s) (texts_of s)
    ∙ ap₂ I.CaseParameter (c.designator.ensures a h) k.all
    ∙ sym (ap (outlined_statement (bases_of s)) (ap (λ z. case_of z a b) (sym k.selector) ∙ on_parameter s.source.now (place_of v) (type_shape (table_of s) c.args.of) a b (c.is_pointer.ensures (table_of s) ∙ c.if-is_pointer.false)))
