use Rattle.std.proofs.Common.{◌≡◌, ℕ, List, [], ◌∷◌, ◌++◌, None, refl, sym, ap, ◌∙◌, subst, nat_eq, length}
use Rattle.ob_syntax.specs.Plain.{plain_expression, plain_each_added, plain_each_multiplied, plain_factor, plain_element, plain_selector, plain_each_selector, plain_list, plain_each_expression}
use Rattle.ob_syntax.specs.declared.expressions.NextElement.{NextElement, out-NextElement}
use Rattle.ob_syntax.specs.declared.expressions.NextExpression.{NextExpression, out-NextExpression}
use Rattle.ob_syntax.specs.declared.expressions.Selector.{Selector}
use Rattle.ob_judge.specs.Judged.{Keeps, ◌>>=◌}
use Rattle.ob_judge.specs.Shapes.{Set}
use Rattle.ob_judge.specs.Image.{Expr, Literal}
use Rattle.ob_judge.specs.Scopes.{place}
use Rattle.ob_judge.specs.Operands.{Operand}
use Rattle.ob_judge.specs.Names.{Stage, Whole, Partly}
use Rattle.ob_judge.specs.Parts.{element, related}
use Rattle.ob_judge.specs.Expressions.{expression, simple, added, multiplied, factor, with_elements, with_element, selected, select, indexed_more}
use Rattle.judged_tree.specs.Plain.{plain_expr}
use Rattle.check_operands.specs.symbols.Parts.{plain_each_element, plain_maybe_list}
use Rattle.check_operands.proofs.symbols.Parts.{parens_parts}
use Rattle.check_types.proofs.steps.Answering.{goes_on, stop, exit, as_judged}
use Rattle.check_operands.specs.declared.trees.values.Value.{Value}
use Rattle.check_types.specs.names.Meaning.{standard_of}
use Rattle.check_types.specs.names.Worlds.{table_of, world_of}
use Rattle.check_operands.specs.Operands.{texts_of}
use Rattle.check_operands.specs.declared.calls.arguments.Given.{Given}
use Rattle.check_operands.specs.calls.Given.{AreGiven}
use Rattle.check_selectors.proofs.Selecting.{parens_any_is}
use Rattle.check_selectors.specs.Behind.{standard_behind, call_behind, list_behind, parens_at}
use Rattle.check_expressions.specs.Steps.{added_one, multiplied_one, indexed_one, arguments_from}
use Rattle.check_expressions.proofs.Walking.{nil_of, none_of, walk_on, walk_stops}
use Rattle.check_expressions.proofs.Parts.{simple_is, term_is, bare_simple_is, bare_term_is, added_law, multiplied_law, set_some, elements_law, factor_designator, indexed_is, indexed_law, given_with, given_more, given_law, given_last, arguments_is, related_other}
use Rattle.check_expressions.proofs.walk.+walk.Goals as goal

pub added-returns-in_err-x : goal.added-returns-in_err-x
added-returns-in_err-x t c = λ a h. exit _ c.from_residual.ensures.1 (walk_stops (λ b xs. added c.args.scope.now.source.now (world_of c.args.scope.now) b (plain_each_added xs)) (added_one c.args.scope.now.source.now (world_of c.args.scope.now)) (added_law c.args.scope.now.source.now (world_of c.args.scope.now)) c.args.more.now c.loop-next.next-index c.next-item.result c.loop-next-test.true (c.loop-next.invariant a h)
    (λ b k. as_judged (ap (λ x. (added_one c.args.scope.now.source.now (world_of c.args.scope.now)) b x) (sym c.next-item.is)) (c.in_err-x.ensures b k)))

pub added-loop-next-preserved : goal.added-loop-next-preserved
added-loop-next-preserved t c = λ a h. walk_on (λ b xs. added c.args.scope.now.source.now (world_of c.args.scope.now) b (plain_each_added xs)) (added_one c.args.scope.now.source.now (world_of c.args.scope.now)) (added_law c.args.scope.now.source.now (world_of c.args.scope.now)) c.args.more.now c.loop-next.next-index c.next-item.result c.loop-next-test.true (c.loop-next.invariant a h)
    (λ b k. as_judged (ap (λ x. (added_one c.args.scope.now.source.now (world_of c.args.scope.now)) b x) (sym c.next-item.is)) (c.in_ok-x.ensures b k))

pub multiplied-returns-in_err-x : goal.multiplied-returns-in_err-x
multiplied-returns-in_err-x t c = λ a h. exit _ c.from_residual.ensures.1 (walk_stops (λ b xs. multiplied c.args.scope.now.source.now (world_of c.args.scope.now) b (plain_each_multiplied xs)) (multiplied_one c.args.scope.now.source.now (world_of c.args.scope.now)) (multiplied_law c.args.scope.now.source.now (world_of c.args.scope.now)) c.args.more.now c.loop-next.next-index c.next-item.result c.loop-next-test.true (c.loop-next.invariant a h)
    (λ b k. as_judged (ap (λ x. (multiplied_one c.args.scope.now.source.now (world_of c.args.scope.now)) b x) (sym c.next-item.is)) (c.in_err-x.ensures b k)))

pub multiplied-loop-next-preserved : goal.multiplied-loop-next-preserved
multiplied-loop-next-preserved t c = λ a h. walk_on (λ b xs. multiplied c.args.scope.now.source.now (world_of c.args.scope.now) b (plain_each_multiplied xs)) (multiplied_one c.args.scope.now.source.now (world_of c.args.scope.now)) (multiplied_law c.args.scope.now.source.now (world_of c.args.scope.now)) c.args.more.now c.loop-next.next-index c.next-item.result c.loop-next-test.true (c.loop-next.invariant a h)
    (λ b k. as_judged (ap (λ x. (multiplied_one c.args.scope.now.source.now (world_of c.args.scope.now)) b x) (sym c.next-item.is)) (c.in_ok-x.ensures b k))

pub elements_in-loop-next-preserved : goal.elements_in-loop-next-preserved
elements_in-loop-next-preserved t c = λ a h. walk_on (λ b xs. with_elements c.args.scope.now.source.now (world_of c.args.scope.now) b (plain_each_element xs)) (λ (b : Expr) (x : NextElement). with_element c.args.scope.now.source.now (world_of c.args.scope.now) b (plain_element (out-NextElement x).element)) (elements_law c.args.scope.now.source.now (world_of c.args.scope.now)) c.args.more.now c.loop-next.next-index c.next-item.result c.loop-next-test.true (c.loop-next.invariant a h)
    (λ b k. as_judged (ap (λ x. (λ (b : Expr) (x : NextElement). with_element c.args.scope.now.source.now (world_of c.args.scope.now) b (plain_element (out-NextElement x).element)) b x) (sym c.next-item.is)) (c.in_ok-set.ensures b k))

pub selected-loop-next-preserved : goal.selected-loop-next-preserved
selected-loop-next-preserved t c = λ a h. walk_on (λ b xs. selected c.args.scope.now.source.now (world_of c.args.scope.now) (place c.args.scope.now.source.now c.args.symbol) b (plain_each_selector xs)) (λ (b : Stage) (x : Selector). select c.args.scope.now.source.now (world_of c.args.scope.now) (place c.args.scope.now.source.now c.args.symbol) b (plain_selector x)) (λ _ _ _. refl) c.args.selectors.now c.loop-next.next-index c.next-item.result c.loop-next-test.true (c.loop-next.invariant a h)
    (λ b k. as_judged (ap (λ x. (λ (b : Stage) (x : Selector). select c.args.scope.now.source.now (world_of c.args.scope.now) (place c.args.scope.now.source.now c.args.symbol) b (plain_selector x)) b x) (sym c.next-item.is)) (c.in_ok-stage.ensures b k))

pub indexed-returns-in_err-x : goal.indexed-returns-in_err-x
indexed-returns-in_err-x t c = λ a h. exit _ c.from_residual.ensures.1 (walk_stops (λ b xs. indexed_more c.args.scope.now.source.now (world_of c.args.scope.now) (place c.args.scope.now.source.now c.args.symbol) b (plain_each_expression xs)) (λ (b : Operand) (x : NextExpression). indexed_one c.args.scope.now.source.now (world_of c.args.scope.now) (place c.args.scope.now.source.now c.args.symbol) b (plain_expression (out-NextExpression x).expression)) (indexed_law c.args.scope.now.source.now (world_of c.args.scope.now) (place c.args.scope.now.source.now c.args.symbol)) c.args.more.now c.loop-next.next-index c.next-item.result c.loop-next-test.true (c.loop-next.invariant a h)
    (λ b k. as_judged (ap (λ x. (λ (b : Operand) (x : NextExpression). indexed_one c.args.scope.now.source.now (world_of c.args.scope.now) (place c.args.scope.now.source.now c.args.symbol) b (plain_expression (out-NextExpression x).expression)) b x) (sym c.next-item.is)) (c.in_err-x.ensures b k)))

pub indexed-loop-next-preserved : goal.indexed-loop-next-preserved
indexed-loop-next-preserved t c = λ a h. walk_on (λ b xs. indexed_more c.args.scope.now.source.now (world_of c.args.scope.now) (place c.args.scope.now.source.now c.args.symbol) b (plain_each_expression xs)) (λ (b : Operand) (x : NextExpression). indexed_one c.args.scope.now.source.now (world_of c.args.scope.now) (place c.args.scope.now.source.now c.args.symbol) b (plain_expression (out-NextExpression x).expression)) (indexed_law c.args.scope.now.source.now (world_of c.args.scope.now) (place c.args.scope.now.source.now c.args.symbol)) c.args.more.now c.loop-next.next-index c.next-item.result c.loop-next-test.true (c.loop-next.invariant a h)
    (λ b k. as_judged (ap (λ x. (λ (b : Operand) (x : NextExpression). indexed_one c.args.scope.now.source.now (world_of c.args.scope.now) (place c.args.scope.now.source.now c.args.symbol) b (plain_expression (out-NextExpression x).expression)) b x) (sym c.next-item.is)) (c.in_ok-x.ensures b k))

pub arguments-loop-next-init : goal.arguments-loop-next-init
arguments-loop-next-init t c = λ a h. record {
  so_far = a ∷ [];
  stands = subst (λ (l : List Given). AreGiven c.args.scope.now l (a ∷ [])) (sym (c.in_ok-push.ensures.items ∙ ap (λ l. l ++ c.args.first ∷ []) c.in_ok-all.ensures.items)) (h, tt);
  same = refl;
}

pub arguments-returns-in_err-x : goal.arguments-returns-in_err-x
arguments-returns-in_err-x t c = λ a h. exit _ c.from_residual-in_err-x.ensures.1 (walk_stops (given_with c.args.scope.now.source.now (world_of c.args.scope.now)) (given_more c.args.scope.now.source.now (world_of c.args.scope.now)) (given_law c.args.scope.now.source.now (world_of c.args.scope.now)) c.args.more.now c.loop-next.next-index c.next-item.result c.loop-next-test.true (c.loop-next.invariant a h)
    (λ b k. as_judged (ap (given_more c.args.scope.now.source.now (world_of c.args.scope.now) b) (sym c.next-item.is)) (stop _ _ c.in_err-x.ensures)))

pub arguments-loop-next-preserved : goal.arguments-loop-next-preserved
arguments-loop-next-preserved t c = λ a h. walk_on (given_with c.args.scope.now.source.now (world_of c.args.scope.now)) (given_more c.args.scope.now.source.now (world_of c.args.scope.now)) (given_law c.args.scope.now.source.now (world_of c.args.scope.now)) c.args.more.now c.loop-next.next-index c.next-item.result c.loop-next-test.true (c.loop-next.invariant a h)
    (λ b k. as_judged (ap (given_more c.args.scope.now.source.now (world_of c.args.scope.now) b) (sym c.next-item.is)) (goes_on _ _ c.in_ok-x.ensures (λ g e. record {
      by = subst (λ (l : List Given). AreGiven c.args.scope.now l (b ++ g ∷ [])) (sym c.in_ok-push-2.ensures.items) (given_last c.args.scope.now c.loop-next.all.items b c.in_ok-x.x g k e);
    })))

pub compared-returns-in_ok-y-in_default : goal.compared-returns-in_ok-y-in_default
compared-returns-in_ok-y-in_default t c = λ a h. as_judged (related_other c.args.scope.now.source.now (world_of c.args.scope.now) a _ _ c.in_default.not-Is) (goes_on _ _ c.in_ok-y-in_default.ensures (λ b k. c.related.ensures a b h k))

pub designator-returns-in_err-named : goal.designator-returns-in_err-named
designator-returns-in_err-named t c = exit _ c.from_residual.ensures.1 (stop _ _ c.in_err-named.ensures)

pub designator-returns-then-is_empty : goal.designator-returns-then-is_empty
designator-returns-then-is_empty t c = goes_on _ _ c.in_ok-named.ensures (λ o h. as_judged (ap (λ ss. selected c.args.scope.now.source.now (world_of c.args.scope.now) (place c.args.scope.now.source.now c.args.tree.now.name) (Whole o) (plain_each_selector ss))
    (nil_of _ c.is_empty.result (c.is_empty.ensures ∙ ap (λ xs. nat_eq (length xs) 0) c.as_slice.ensures.value) c.if-is_empty.true)) (c.finished.ensures (Whole o) h))

pub designator-returns : goal.designator-returns
designator-returns t c = goes_on _ _ c.in_ok-named.ensures (λ o h. as_judged (ap (λ ss. selected c.args.scope.now.source.now (world_of c.args.scope.now) (place c.args.scope.now.source.now c.args.tree.now.name) (Whole o) (plain_each_selector ss)) (sym c.deref.ensures.value)) (c.selected.ensures (Whole o) h))

pub factor-returns-in_err-x-in-Designator : goal.factor-returns-in_err-x-in-Designator
factor-returns-in_err-x-in-Designator t c = exit _ c.from_residual.ensures.1 (as_judged (ap (λ f. factor c.args.scope.now.source.now (world_of c.args.scope.now) (plain_factor f)) c.in-Designator.is ∙ factor_designator c.args.scope.now.source.now (world_of c.args.scope.now) c.in-Designator.inner) (stop _ _ c.in_err-x-in-Designator.ensures))

pub factor-returns-in_ok-x-in-Designator : goal.factor-returns-in_ok-x-in-Designator
factor-returns-in_ok-x-in-Designator t c = as_judged (ap (λ f. factor c.args.scope.now.source.now (world_of c.args.scope.now) (plain_factor f)) c.in-Designator.is ∙ factor_designator c.args.scope.now.source.now (world_of c.args.scope.now) c.in-Designator.inner) (goes_on _ _ c.in_ok-x-in-Designator.ensures (λ a h. c.as_factor.ensures a h))

pub factor-returns-in_ok-x-in-Paren : goal.factor-returns-in_ok-x-in-Paren
factor-returns-in_ok-x-in-Paren t c = as_judged (ap (λ f. factor c.args.scope.now.source.now (world_of c.args.scope.now) (plain_factor f)) c.in-Paren.is)
    (goes_on _ _ (as_judged (ap (λ e. expression c.args.scope.now.source.now (world_of c.args.scope.now) (plain_expression e)) (sym c.deref-in-Paren.ensures)) c.in_ok-x-in-Paren.ensures) (λ a h. record { by = c.as_value.ensures c.args.scope.now a h }))

pub index-returns-in_err-i : goal.index-returns-in_err-i
index-returns-in_err-i t c = λ a h. exit _ c.from_residual-in_err-i.ensures.1 (goes_on _ _ (c.in_ok-x.ensures a h) (λ x k. as_judged (ap (λ m. m >>= λ y. Keeps (Partly y)) (indexed_is c.args.scope.now.source.now (world_of c.args.scope.now) (place c.args.scope.now.source.now c.args.symbol) x c.args.list.now)) (stop {B = Unit {0}} {R = λ u a. Unit {0}} _ _ (stop {B = Unit {0}} {R = λ u a. Unit {0}} _ _ (stop _ _ c.in_err-i.ensures)))))

pub index-returns-in_err-first : goal.index-returns-in_err-first
index-returns-in_err-first t c = λ a h. exit _ c.from_residual-in_err-first.ensures.1 (goes_on _ _ (c.in_ok-x.ensures a h) (λ x k. as_judged (ap (λ m. m >>= λ y. Keeps (Partly y)) (indexed_is c.args.scope.now.source.now (world_of c.args.scope.now) (place c.args.scope.now.source.now c.args.symbol) x c.args.list.now)) (stop {B = Unit {0}} {R = λ u a. Unit {0}} _ _ (stop _ _ (goes_on _ _ c.in_ok-i.ensures (λ i e. as_judged (ap (λ n. element (place c.args.scope.now.source.now c.args.symbol) (place c.args.scope.now.source.now n) x i) (sym c.expression_first.ensures)) (c.in_err-first.ensures x i k e)))))))

pub index-returns-in_err-last : goal.index-returns-in_err-last
index-returns-in_err-last t c = λ a h. exit _ c.from_residual-in_err-last.ensures.1 (goes_on _ _ (c.in_ok-x.ensures a h) (λ x k. as_judged (ap (λ m. m >>= λ y. Keeps (Partly y)) (indexed_is c.args.scope.now.source.now (world_of c.args.scope.now) (place c.args.scope.now.source.now c.args.symbol) x c.args.list.now)) (stop _ _ (goes_on _ _ (goes_on _ _ c.in_ok-i.ensures (λ i e. as_judged (ap (λ n. element (place c.args.scope.now.source.now c.args.symbol) (place c.args.scope.now.source.now n) x i) (sym c.expression_first.ensures)) (c.in_ok-first.ensures x i k e)))
    (λ y g. as_judged (ap (λ ns. indexed_more c.args.scope.now.source.now (world_of c.args.scope.now) (place c.args.scope.now.source.now c.args.symbol) y (plain_each_expression ns)) (sym c.deref.ensures.value)) (c.in_err-last.ensures y g))))))

pub index-returns : goal.index-returns
index-returns t c = λ a h. goes_on _ _ (c.in_ok-x.ensures a h) (λ x k. as_judged (ap (λ m. m >>= λ y. Keeps (Partly y)) (indexed_is c.args.scope.now.source.now (world_of c.args.scope.now) (place c.args.scope.now.source.now c.args.symbol) x c.args.list.now)) (goes_on _ _ (goes_on _ _ (goes_on _ _ c.in_ok-i.ensures (λ i e. as_judged (ap (λ n. element (place c.args.scope.now.source.now c.args.symbol) (place c.args.scope.now.source.now n) x i) (sym c.expression_first.ensures)) (c.in_ok-first.ensures x i k e)))
    (λ y g. as_judged (ap (λ ns. indexed_more c.args.scope.now.source.now (world_of c.args.scope.now) (place c.args.scope.now.source.now c.args.symbol) y (plain_each_expression ns)) (sym c.deref.ensures.value)) (c.in_ok-last.ensures y g))) (λ z f. record { by = f })))

pub indexed_one-returns : goal.indexed_one-returns
indexed_one-returns t c = λ x h. goes_on _ _ c.in_ok-i.ensures (λ i e. as_judged (ap (λ n. element (place c.args.scope.now.source.now c.args.symbol) (place c.args.scope.now.source.now n) x i) (sym c.expression_first.ensures)) (c.element.ensures x i h e))

pub parens-returns-in_err-all-in-Some : goal.parens-returns-in_err-all-in-Some
parens-returns-in_err-all-in-Some t c = λ a h. exit _ c.from_residual-in_err-all-in-Some.ensures.1 (as_judged (ap (parens_at c.args.scope.now.source.now (world_of c.args.scope.now) (place c.args.scope.now.source.now c.args.symbol) (plain_list c.args.list.now) a) (c.in-Some.ensures a h) ∙ ap (λ m. m >>= λ xs. standard_behind c.args.scope.now.source.now (world_of c.args.scope.now) (place c.args.scope.now.source.now c.args.symbol) (standard_of c.in-Some.s) xs) (arguments_is c.args.scope.now.source.now (world_of c.args.scope.now) c.args.list.now))
    (stop _ _ (goes_on _ _ c.in_ok-first-in-Some.ensures (λ g e. as_judged (ap (λ ns. arguments_from c.args.scope.now.source.now (world_of c.args.scope.now) g (plain_each_expression ns)) (sym c.deref.ensures.value)) (c.in_err-all-in-Some.ensures g e)))))

pub parens-returns-in_ok-all-in-Some : goal.parens-returns-in_ok-all-in-Some
parens-returns-in_ok-all-in-Some t c = λ a h. as_judged (ap (parens_at c.args.scope.now.source.now (world_of c.args.scope.now) (place c.args.scope.now.source.now c.args.symbol) (plain_list c.args.list.now) a) (c.in-Some.ensures a h) ∙ ap (λ m. m >>= λ xs. standard_behind c.args.scope.now.source.now (world_of c.args.scope.now) (place c.args.scope.now.source.now c.args.symbol) (standard_of c.in-Some.s) xs) (arguments_is c.args.scope.now.source.now (world_of c.args.scope.now) c.args.list.now))
    (goes_on _ _ (goes_on _ _ c.in_ok-first-in-Some.ensures (λ g e. as_judged (ap (λ ns. arguments_from c.args.scope.now.source.now (world_of c.args.scope.now) g (plain_each_expression ns)) (sym c.deref.ensures.value)) (c.in_ok-all-in-Some.ensures g e))) (λ xs f. c.standard_last.ensures xs f))

pub parens-returns-in_err-first-in-None-guard_name : goal.parens-returns-in_err-first-in-None-guard_name
parens-returns-in_err-first-in-None-guard_name t c = λ a h. exit _ c.from_residual-in_err-first-in-None-guard_name.ensures.1 (as_judged (ap (parens_at c.args.scope.now.source.now (world_of c.args.scope.now) (place c.args.scope.now.source.now c.args.symbol) (plain_list c.args.list.now) a) (c.in-None.ensures a h)) (goes_on _ _ (c.in_ok-x-in-None.ensures a h) (λ x k. as_judged (ap (list_behind c.args.scope.now.source.now (world_of c.args.scope.now) (place c.args.scope.now.source.now c.args.symbol) (plain_list c.args.list.now) x) (sym (c.in-None-guard_name.ensures x k)) ∙ ap (λ m. m >>= λ xs. call_behind c.args.scope.now.source.now (world_of c.args.scope.now) (place c.args.scope.now.source.now c.args.symbol) xs x) (arguments_is c.args.scope.now.source.now (world_of c.args.scope.now) c.args.list.now))
    (stop {B = Unit {0}} {R = λ u a. Unit {0}} _ _ (stop _ _ c.in_err-first-in-None-guard_name.ensures)))))

pub parens-returns-in_err-all-in-None-guard_name : goal.parens-returns-in_err-all-in-None-guard_name
parens-returns-in_err-all-in-None-guard_name t c = λ a h. exit _ c.from_residual-in_err-all-in-None-guard_name.ensures.1 (as_judged (ap (parens_at c.args.scope.now.source.now (world_of c.args.scope.now) (place c.args.scope.now.source.now c.args.symbol) (plain_list c.args.list.now) a) (c.in-None.ensures a h)) (goes_on _ _ (c.in_ok-x-in-None.ensures a h) (λ x k. as_judged (ap (list_behind c.args.scope.now.source.now (world_of c.args.scope.now) (place c.args.scope.now.source.now c.args.symbol) (plain_list c.args.list.now) x) (sym (c.in-None-guard_name.ensures x k)) ∙ ap (λ m. m >>= λ xs. call_behind c.args.scope.now.source.now (world_of c.args.scope.now) (place c.args.scope.now.source.now c.args.symbol) xs x) (arguments_is c.args.scope.now.source.now (world_of c.args.scope.now) c.args.list.now))
    (stop _ _ (goes_on _ _ c.in_ok-first-in-None-guard_name.ensures (λ g e. as_judged (ap (λ ns. arguments_from c.args.scope.now.source.now (world_of c.args.scope.now) g (plain_each_expression ns)) (sym c.deref-in-None-guard_name.ensures.value)) (c.in_err-all-in-None-guard_name.ensures g e)))))))

pub parens-returns-in_ok-all-in-None-guard_name : goal.parens-returns-in_ok-all-in-None-guard_name
parens-returns-in_ok-all-in-None-guard_name t c = λ a h. as_judged (ap (parens_at c.args.scope.now.source.now (world_of c.args.scope.now) (place c.args.scope.now.source.now c.args.symbol) (plain_list c.args.list.now) a) (c.in-None.ensures a h)) (goes_on _ _ (c.in_ok-x-in-None.ensures a h) (λ x k. as_judged (ap (list_behind c.args.scope.now.source.now (world_of c.args.scope.now) (place c.args.scope.now.source.now c.args.symbol) (plain_list c.args.list.now) x) (sym (c.in-None-guard_name.ensures x k)) ∙ ap (λ m. m >>= λ xs. call_behind c.args.scope.now.source.now (world_of c.args.scope.now) (place c.args.scope.now.source.now c.args.symbol) xs x) (arguments_is c.args.scope.now.source.now (world_of c.args.scope.now) c.args.list.now))
    (goes_on _ _ (goes_on _ _ c.in_ok-first-in-None-guard_name.ensures (λ g e. as_judged (ap (λ ns. arguments_from c.args.scope.now.source.now (world_of c.args.scope.now) g (plain_each_expression ns)) (sym c.deref-in-None-guard_name.ensures.value)) (c.in_ok-all-in-None-guard_name.ensures g e))) (λ xs f. c.called_last.ensures x xs k f))))

pub select-returns-in-Field : goal.select-returns-in-Field
select-returns-in-Field t c = λ a h. as_judged (ap (λ z. select c.args.scope.now.source.now (world_of c.args.scope.now) (place c.args.scope.now.source.now c.args.symbol) a (plain_selector z)) c.in-Field.is) (c.select_field.ensures a c.in-Field.period h)

pub select-returns-in-Arrow : goal.select-returns-in-Arrow
select-returns-in-Arrow t c = λ a h. as_judged (ap (λ z. select c.args.scope.now.source.now (world_of c.args.scope.now) (place c.args.scope.now.source.now c.args.symbol) a (plain_selector z)) c.in-Arrow.is) (c.select_arrow.ensures a c.in-Arrow.field-0 h)

pub set-returns-in_err-first-in-Some : goal.set-returns-in_err-first-in-Some
set-returns-in_err-first-in-Some t c = exit _ c.from_residual.ensures.1 (as_judged (set_some c.args.scope.now.source.now (world_of c.args.scope.now) c.args.tree.now c.in-Some.elements c.in-Some.is) (stop _ _ (c.in_err-first-in-Some.ensures (Literal 0) (ap (λ (v : Value). plain_expr (table_of c.args.scope.now) (texts_of c.args.scope.now) v.tree) c.new-none.ensures))))

pub set-returns-in_err-all-in-Some : goal.set-returns-in_err-all-in-Some
set-returns-in_err-all-in-Some t c = exit _ c.from_residual-in_err-all-in-Some.ensures.1 (as_judged (set_some c.args.scope.now.source.now (world_of c.args.scope.now) c.args.tree.now c.in-Some.elements c.in-Some.is) (goes_on _ _ (c.in_ok-first-in-Some.ensures (Literal 0) (ap (λ (v : Value). plain_expr (table_of c.args.scope.now) (texts_of c.args.scope.now) v.tree) c.new-none.ensures)) (λ x e. stop _ _ (as_judged (ap (λ es. with_elements c.args.scope.now.source.now (world_of c.args.scope.now) x (plain_each_element es)) (sym c.deref.ensures.value)) (c.in_err-all-in-Some.ensures x e)))))

pub set-returns-in_ok-all-in-Some : goal.set-returns-in_ok-all-in-Some
set-returns-in_ok-all-in-Some t c = as_judged (set_some c.args.scope.now.source.now (world_of c.args.scope.now) c.args.tree.now c.in-Some.elements c.in-Some.is) (goes_on _ _ (c.in_ok-first-in-Some.ensures (Literal 0) (ap (λ (v : Value). plain_expr (table_of c.args.scope.now) (texts_of c.args.scope.now) v.tree) c.new-none.ensures)) (λ x e. goes_on _ _ (as_judged (ap (λ es. with_elements c.args.scope.now.source.now (world_of c.args.scope.now) x (plain_each_element es)) (sym c.deref.ensures.value)) (c.in_ok-all-in-Some.ensures x e))
    (λ y f. record { by = c.value.ensures c.args.scope.now Set y refl (ap (plain_expr (table_of c.args.scope.now) (texts_of c.args.scope.now)) c.into_tree.ensures ∙ f) })))

pub simple-returns-then-is_empty : goal.simple-returns-then-is_empty
simple-returns-then-is_empty t c = as_judged (bare_simple_is c.args.scope.now.source.now (world_of c.args.scope.now) c.args.tree.now
    (none_of _ c.is_none.result c.is_none.ensures c.if-is_none.true)
    (nil_of _ c.is_empty.result (c.is_empty.ensures ∙ ap (λ xs. nat_eq (length xs) 0) c.as_slice.ensures.value) c.if-is_empty.true)) c.term.ensures

pub simple-returns : goal.simple-returns
simple-returns t c = as_judged (simple_is c.args.scope.now.source.now (world_of c.args.scope.now) c.args.tree.now) (goes_on _ _ c.in_ok-x.ensures (λ a h. goes_on _ _ (c.in_ok-y.ensures a h)
    (λ b k. as_judged (ap (λ xs. added c.args.scope.now.source.now (world_of c.args.scope.now) b (plain_each_added xs)) (sym c.deref.ensures.value)) (c.added.ensures b k))))

pub term-returns-then-is_empty : goal.term-returns-then-is_empty
term-returns-then-is_empty t c = as_judged (bare_term_is c.args.scope.now.source.now (world_of c.args.scope.now) c.args.tree.now
    (nil_of _ c.is_empty.result (c.is_empty.ensures ∙ ap (λ xs. nat_eq (length xs) 0) c.as_slice.ensures.value) c.if-is_empty.true)) c.factor.ensures

pub term-returns : goal.term-returns
term-returns t c = as_judged (term_is c.args.scope.now.source.now (world_of c.args.scope.now) c.args.tree.now) (goes_on _ _ c.in_ok-x.ensures (λ a h. as_judged (ap (λ xs. multiplied c.args.scope.now.source.now (world_of c.args.scope.now) a (plain_each_multiplied xs)) (sym c.deref.ensures.value)) (c.multiplied.ensures a h)))

pub select-returns-in-None : goal.select-returns-in-None
select-returns-in-None t c = λ a h. as_judged
    (ap (λ z. select c.args.scope.now.source.now (world_of c.args.scope.now) (place c.args.scope.now.source.now c.args.symbol) a (plain_selector z)) c.in-Parens.is
    ∙ ap (select c.args.scope.now.source.now (world_of c.args.scope.now) (place c.args.scope.now.source.now c.args.symbol) a) (parens_parts c.in-Parens.left_paren c.in-Parens.list c.in-Parens.right_paren ∙ ap (λ l. plain_maybe_list c.in-Parens.left_paren l c.in-Parens.right_paren) c.in-None.is))
    (c.select_empty_parens.ensures a c.in-Parens.left_paren c.in-Parens.right_paren h)

pub select-returns-in-Some : goal.select-returns-in-Some
select-returns-in-Some t c = λ a h. as_judged
    (ap (λ z. select c.args.scope.now.source.now (world_of c.args.scope.now) (place c.args.scope.now.source.now c.args.symbol) a (plain_selector z)) c.in-Parens.is
    ∙ ap (select c.args.scope.now.source.now (world_of c.args.scope.now) (place c.args.scope.now.source.now c.args.symbol) a) (parens_parts c.in-Parens.left_paren c.in-Parens.list c.in-Parens.right_paren ∙ ap (λ l. plain_maybe_list c.in-Parens.left_paren l c.in-Parens.right_paren) c.in-Some.is)
    ∙ parens_any_is c.args.scope.now.source.now (world_of c.args.scope.now) (place c.args.scope.now.source.now c.args.symbol) a c.in-Parens.left_paren (plain_list c.in-Some.inner) c.in-Parens.right_paren)
    (c.parens.ensures a h)
