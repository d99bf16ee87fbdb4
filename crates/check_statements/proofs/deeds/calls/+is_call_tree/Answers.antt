use Rattle.std.proofs.Common.{ap, refl, sym, ◌∙◌, nat_eq, length}
use Rattle.ob_judge.specs.Image.{Load}
use Rattle.judged_tree.specs.Plain.{plain_expr, plain_designator}
use Rattle.check_operands.proofs.trees.Rows.{chain_is}
use Rattle.check_statements.specs.deeds.Deeds.{is_result}
use Rattle.check_statements.proofs.deeds.Deeds.{guarded_result, empty_result, linked_result}
use Rattle.check_statements.proofs.deeds.calls.+is_call_tree.Goals as goal

pub returns-in-Guard : goal.returns-in-Guard
returns-in-Guard t c = λ t' texts. ap (λ e. is_result (plain_expr t' texts e)) c.in-Guard.is ∙ guarded_result c.in-Guard.field-1 (Load (plain_designator t' texts c.in-Guard.field-0.value)) refl

pub returns-then-is_empty : goal.returns-then-is_empty
returns-then-is_empty t c = λ t' texts.
    ap (λ e. is_result (plain_expr t' texts e)) c.in-Chain.is
    ∙ ap is_result (chain_is t' texts c.in-Chain.first c.in-Chain.links ∙ empty_result t' texts c.in-Chain.links.items (plain_expr t' texts c.in-Chain.first.value) c.is_empty.result (c.is_empty.ensures ∙ ap (λ xs. nat_eq (length xs) 0) c.as_slice.ensures.value) c.if-is_empty.true)
    ∙ ap (λ e. is_result (plain_expr t' texts e)) (sym c.deref.ensures)
    ∙ c.is_call_tree.ensures t' texts

pub returns-else-is_empty : goal.returns-else-is_empty
returns-else-is_empty t c = λ t' texts.
    ap (λ e. is_result (plain_expr t' texts e)) c.in-Chain.is
    ∙ ap is_result (chain_is t' texts c.in-Chain.first c.in-Chain.links)
    ∙ linked_result t' texts c.in-Chain.links.items (plain_expr t' texts c.in-Chain.first.value) c.is_empty.result (c.is_empty.ensures ∙ ap (λ xs. nat_eq (length xs) 0) c.as_slice.ensures.value) c.if-is_empty.false
