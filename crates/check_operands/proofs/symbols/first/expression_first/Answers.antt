use Rattle.std.proofs.Common.{Some, sym, ap, ◌∙◌}
use Rattle.check_operands.proofs.symbols.FirstSymbols.{first_by_sign}
use Rattle.check_operands.proofs.symbols.first.expression_first.Goals as goal

pub returns-in-None : goal.returns-in-None
returns-in-None c = c.factor_first.ensures ∙ sym (first_by_sign c.args.tree.now _ c.in-None.is)

pub returns-in-Some-Plus : goal.returns-in-Some-Plus
returns-in-Some-Plus c = sym (first_by_sign c.args.tree.now _ (c.in-Some-Plus.is ∙ ap Some (rw c.in-Some-Plus.is at c.in-Some-Plus.field-0-is)))

pub returns-in-Some-Minus : goal.returns-in-Some-Minus
returns-in-Some-Minus c = sym (first_by_sign c.args.tree.now _ (c.in-Some-Minus.is ∙ ap Some (rw c.in-Some-Minus.is at c.in-Some-Minus.field-0-is)))
