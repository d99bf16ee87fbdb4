use Rattle.std.proofs.Common.{sym, ap, ap₂, ◌∙◌, subst}
use Rattle.ob_judge.specs.Image as I
use Rattle.ob_judge.specs.Cases.{case_of}
use Rattle.judged_tree.specs.Outline.{outlined_statement}
use Rattle.check_types.specs.names.Worlds.{table_of}
use Rattle.check_operands.specs.Operands.{texts_of, bases_of}
use Rattle.check_statements.specs.Standing.{AreParts}
use Rattle.check_statements.proofs.Filling.{on_values}
use Rattle.check_statements.proofs.parts.case_made.Goals as goal

pub returns-in-Values : goal.returns-in-Values
returns-in-Values c = λ on a b h k. let s = c.args.scope.now in let m = subst (λ z. AreParts s on z b) c.in-Values.is k in
    c.case_values.ensures (table_of s) (texts_of s)
    ∙ ap₂ I.Case (c.checked.ensures a h) m.all
    ∙ sym (ap (outlined_statement (bases_of s)) (ap (λ z. case_of z a b) (sym m.selector) ∙ on_values s.source.now c.in-Values.of_char a b))

pub returns : goal.returns
returns c = λ on a b h k. let s = c.args.scope.now in
    c.on_types.ensures c.in-Types.variable on a b h (subst (λ z. AreParts s on z b) c.in-Types.is k)
