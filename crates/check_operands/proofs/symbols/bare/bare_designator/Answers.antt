use Rattle.std.proofs.Common.{◌≡◌, ◌≤◌, length, subst, sym}
use Rattle.check_operands.proofs.symbols.OneName.{many_selectors}
use Rattle.check_operands.proofs.symbols.bare.bare_designator.Goals as goal

pub returns-in_default-2 : goal.returns-in_default-2
returns-in_default-2 c = many_selectors c.args.tree.now.name c.args.tree.now.selectors.items (subst (λ xs. 2 ≤ length xs) c.as_slice.ensures.value c.in_default.len_at_least)
