use Rattle.std.proofs.Common.{ap, sym, ◌∙◌, nat_eq, length}
use Rattle.check_operands.proofs.symbols.OneName.{nil_of, sum_only, sum_more}
use Rattle.check_operands.proofs.symbols.bare.unsigned.Goals as goal

pub returns-then-is_empty : goal.returns-then-is_empty
returns-then-is_empty c =
    c.bare_term.ensures ∙ sym (sum_only _ _ (nil_of _ c.is_empty.result (c.is_empty.ensures ∙ ap (λ xs. nat_eq (length xs) 0) c.as_slice.ensures.value) c.if-is_empty.true))

pub returns-else-is_empty : goal.returns-else-is_empty
returns-else-is_empty c = sum_more _ _ c.is_empty.result (c.is_empty.ensures ∙ ap (λ xs. nat_eq (length xs) 0) c.as_slice.ensures.value) c.if-is_empty.false
