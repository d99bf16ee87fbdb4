use Rattle.std.proofs.Common.{ap, sym, ◌∙◌, nat_eq, length}
use Rattle.check_operands.proofs.symbols.OneName.{nil_of, term_only, term_more}
use Rattle.check_operands.proofs.symbols.bare.bare_term.Goals as goal

pub returns-then-is_empty : goal.returns-then-is_empty
returns-then-is_empty c =
    c.bare_factor.ensures ∙ sym (term_only c.args.tree.now (nil_of _ c.is_empty.result (c.is_empty.ensures ∙ ap (λ xs. nat_eq (length xs) 0) c.as_slice.ensures.value) c.if-is_empty.true))

pub returns-else-is_empty : goal.returns-else-is_empty
returns-else-is_empty c = term_more c.args.tree.now c.is_empty.result (c.is_empty.ensures ∙ ap (λ xs. nat_eq (length xs) 0) c.as_slice.ensures.value) c.if-is_empty.false
