use Rattle.std.proofs.Common.{sym, ◌∙◌}
use Rattle.check_operands.proofs.symbols.OneName.{simple_unsigned, simple_signed}
use Rattle.check_operands.proofs.symbols.bare.bare_simple.Goals as goal

pub returns-in-None : goal.returns-in-None
returns-in-None c = c.unsigned.ensures ∙ sym (simple_unsigned c.args.tree.now c.in-None.is)

pub returns-in-Some : goal.returns-in-Some
returns-in-Some c = simple_signed c.args.tree.now _ c.in-Some.is
