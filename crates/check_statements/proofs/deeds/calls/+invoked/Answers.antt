use Rattle.std.proofs.Common.{Some, option_map, ap, refl, sym, ◌∙◌, nat_eq, length}
use Rattle.ob_judge.specs.Image.{Load, Invoke}
use Rattle.judged_tree.specs.Plain.{plain_expr, plain_designator, plain_call}
use Rattle.check_operands.proofs.trees.Rows.{chain_is}
use Rattle.check_statements.specs.deeds.Deeds.{call_by}
use Rattle.check_statements.proofs.deeds.Deeds.{guarded_call, empty_result, linked_call}
use Rattle.check_statements.proofs.deeds.calls.+invoked.Goals as goal

pub returns-in-Guard : goal.returns-in-Guard
returns-in-Guard t c = λ t' texts. sym (ap (λ e. option_map Invoke (call_by (plain_expr t' texts e))) c.in-Guard.is ∙ ap (option_map Invoke) (guarded_call c.in-Guard.field-1 (Load (plain_designator t' texts c.in-Guard.field-0.value)) refl))

pub returns-then-is_empty : goal.returns-then-is_empty
returns-then-is_empty t c = λ t' texts.
    c.invoked.ensures t' texts
    ∙ ap (λ e. option_map Invoke (call_by (plain_expr t' texts e))) c.into_inner-then-is_empty.ensures
    ∙ sym (ap (λ e. option_map Invoke (call_by (plain_expr t' texts e))) c.in-Chain.is
    ∙ ap (λ z. option_map Invoke (call_by z)) (chain_is t' texts c.in-Chain.first c.in-Chain.links ∙ empty_result t' texts c.in-Chain.links.items (plain_expr t' texts c.in-Chain.first.value) c.is_empty.result (c.is_empty.ensures ∙ ap (λ xs. nat_eq (length xs) 0) c.as_slice.ensures.value) c.if-is_empty.true))

pub returns-in-Chain : goal.returns-in-Chain
returns-in-Chain t c = λ t' texts.
    sym (ap (λ e. option_map Invoke (call_by (plain_expr t' texts e))) c.in-Chain.is
    ∙ ap (λ z. option_map Invoke (call_by z)) (chain_is t' texts c.in-Chain.first c.in-Chain.links)
    ∙ ap (option_map Invoke) (linked_call t' texts c.in-Chain.links.items (plain_expr t' texts c.in-Chain.first.value) c.is_empty.result (c.is_empty.ensures ∙ ap (λ xs. nat_eq (length xs) 0) c.as_slice.ensures.value) c.if-is_empty.false))
