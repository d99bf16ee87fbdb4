use Rattle.std.proofs.Common.{ap, sym, ◌∙◌}
use Rattle.ob_syntax.specs.Leaves.{boxed, optional, each}
use Rattle.ob_syntax.specs.StatementText.{assign_or_call_text, next_stat_text, stat_text, if_stat_text, elsif_text, else_text, case_stat_text, next_case_text, case_part_text, next_range_text, while_stat_text, elsif_do_text, repeat_stat_text, for_stat_text}
use Rattle.ob_tree.proofs.Added.{adds_then, adds_as, adding_more, adding_end}
use Rattle.ob_tree.proofs.StatementParts.{case_part_parts, case_parts, case_stat_parts, else_parts, elsif_do_parts, elsif_parts, for_stat_parts, if_stat_parts, next_case_parts, repeat_stat_parts, stats_parts, while_stat_parts}
use Rattle.ob_tree.proofs.symbols.statements.+adds.Goals as goal

pub add_stats-returns : goal.add_stats-returns
add_stats-returns t c = adds_as (stats_parts _) (adds_then c.in_ok-add_stat.ensures (adds_as (ap (each next_stat_text) (sym c.deref.ensures.value)) c.in_ok-add_each_next_stat.ensures))

pub add_next_stat-returns : goal.add_next_stat-returns
add_next_stat-returns t c = adds_then (c.in_ok-put.ensures _) c.in_ok-add_stat.ensures

pub add_each_next_stat-loop-tree-preserved : goal.add_each_next_stat-loop-tree-preserved
add_each_next_stat-loop-tree-preserved t c = adding_more next_stat_text c.args.trees.now c.loop-tree.tree-index c.tree-item.result c.args.out.now.items c.loop-tree.out.items c.add_next_stat.new.out.items c.loop-tree-test.true c.loop-tree.invariant (adds_as (ap next_stat_text (sym c.tree-item.is)) c.in_ok-add_next_stat.ensures)

pub add_each_next_stat-returns : goal.add_each_next_stat-returns
add_each_next_stat-returns t c = adding_end next_stat_text c.args.trees.now c.loop-tree.tree-index c.args.out.now.items c.loop-tree.out.items c.loop-tree-test.false c.loop-tree.invariant

pub add_stat-returns-in_ok-add_assign_or_call-in-AssignOrCall : goal.add_stat-returns-in_ok-add_assign_or_call-in-AssignOrCall
add_stat-returns-in_ok-add_assign_or_call-in-AssignOrCall t c = adds_as (ap stat_text c.in-AssignOrCall.is) (adds_as (ap assign_or_call_text (sym c.deref.ensures)) c.in_ok-add_assign_or_call-in-AssignOrCall.ensures)

pub add_stat-returns-in_ok-add_if_stat-in-If : goal.add_stat-returns-in_ok-add_if_stat-in-If
add_stat-returns-in_ok-add_if_stat-in-If t c = adds_as (ap stat_text c.in-If.is) (adds_as (ap if_stat_text (sym c.deref-in-If.ensures)) c.in_ok-add_if_stat-in-If.ensures)

pub add_stat-returns-in_ok-add_case_stat-in-Case : goal.add_stat-returns-in_ok-add_case_stat-in-Case
add_stat-returns-in_ok-add_case_stat-in-Case t c = adds_as (ap stat_text c.in-Case.is) (adds_as (ap case_stat_text (sym c.deref-in-Case.ensures)) c.in_ok-add_case_stat-in-Case.ensures)

pub add_stat-returns-in_ok-add_while_stat-in-While : goal.add_stat-returns-in_ok-add_while_stat-in-While
add_stat-returns-in_ok-add_while_stat-in-While t c = adds_as (ap stat_text c.in-While.is) (adds_as (ap while_stat_text (sym c.deref-in-While.ensures)) c.in_ok-add_while_stat-in-While.ensures)

pub add_stat-returns-in_ok-add_repeat_stat-in-Repeat : goal.add_stat-returns-in_ok-add_repeat_stat-in-Repeat
add_stat-returns-in_ok-add_repeat_stat-in-Repeat t c = adds_as (ap stat_text c.in-Repeat.is) (adds_as (ap repeat_stat_text (sym c.deref-in-Repeat.ensures)) c.in_ok-add_repeat_stat-in-Repeat.ensures)

pub add_stat-returns-in_ok-add_for_stat-in-For : goal.add_stat-returns-in_ok-add_for_stat-in-For
add_stat-returns-in_ok-add_for_stat-in-For t c = adds_as (ap stat_text c.in-For.is) (adds_as (ap for_stat_text (sym c.deref-in-For.ensures)) c.in_ok-add_for_stat-in-For.ensures)

pub add_if_stat-returns : goal.add_if_stat-returns
add_if_stat-returns t c = adds_as (if_stat_parts _) (adds_then (c.in_ok-put.ensures _) (adds_then c.in_ok-add_expression.ensures (adds_then (c.in_ok-put-2.ensures _) (adds_then c.in_ok-add_stats.ensures (adds_then (adds_as (ap (each elsif_text) (sym c.deref.ensures.value)) c.in_ok-add_each_elsif.ensures) (adds_then c.in_ok-add_else.ensures (c.in_ok-put-3.ensures _)))))))

pub add_elsif-returns : goal.add_elsif-returns
add_elsif-returns t c = adds_as (elsif_parts _) (adds_then (c.in_ok-put.ensures _) (adds_then c.in_ok-add_expression.ensures (adds_then (c.in_ok-put-2.ensures _) c.in_ok-add_stats.ensures)))

pub add_each_elsif-loop-tree-preserved : goal.add_each_elsif-loop-tree-preserved
add_each_elsif-loop-tree-preserved t c = adding_more elsif_text c.args.trees.now c.loop-tree.tree-index c.tree-item.result c.args.out.now.items c.loop-tree.out.items c.add_elsif.new.out.items c.loop-tree-test.true c.loop-tree.invariant (adds_as (ap elsif_text (sym c.tree-item.is)) c.in_ok-add_elsif.ensures)

pub add_each_elsif-returns : goal.add_each_elsif-returns
add_each_elsif-returns t c = adding_end elsif_text c.args.trees.now c.loop-tree.tree-index c.args.out.now.items c.loop-tree.out.items c.loop-tree-test.false c.loop-tree.invariant

pub add_else-returns-in_ok-add_stats-in-Some : goal.add_else-returns-in_ok-add_stats-in-Some
add_else-returns-in_ok-add_stats-in-Some t c = adds_as (ap (optional else_text) c.in-Some.is ∙ else_parts _) (adds_then (c.in_ok-put-in-Some.ensures _) c.in_ok-add_stats-in-Some.ensures)

pub add_case_stat-returns : goal.add_case_stat-returns
add_case_stat-returns t c = adds_as (case_stat_parts _) (adds_then (c.in_ok-put.ensures _) (adds_then c.in_ok-add_expression.ensures (adds_then (c.in_ok-put-2.ensures _) (adds_then c.in_ok-add_case.ensures (adds_then (adds_as (ap (each next_case_text) (sym c.deref.ensures.value)) c.in_ok-add_each_next_case.ensures) (c.in_ok-put-3.ensures _))))))

pub add_next_case-returns : goal.add_next_case-returns
add_next_case-returns t c = adds_as (next_case_parts _) (adds_then (c.in_ok-put.ensures _) c.in_ok-add_case.ensures)

pub add_each_next_case-loop-tree-preserved : goal.add_each_next_case-loop-tree-preserved
add_each_next_case-loop-tree-preserved t c = adding_more next_case_text c.args.trees.now c.loop-tree.tree-index c.tree-item.result c.args.out.now.items c.loop-tree.out.items c.add_next_case.new.out.items c.loop-tree-test.true c.loop-tree.invariant (adds_as (ap next_case_text (sym c.tree-item.is)) c.in_ok-add_next_case.ensures)

pub add_each_next_case-returns : goal.add_each_next_case-returns
add_each_next_case-returns t c = adding_end next_case_text c.args.trees.now c.loop-tree.tree-index c.args.out.now.items c.loop-tree.out.items c.loop-tree-test.false c.loop-tree.invariant

pub add_case-returns : goal.add_case-returns
add_case-returns t c = adds_as (case_parts _) c.in_ok-add_maybe_case_part.ensures

pub add_maybe_case_part-returns-in_ok-add_case_part-in-Some : goal.add_maybe_case_part-returns-in_ok-add_case_part-in-Some
add_maybe_case_part-returns-in_ok-add_case_part-in-Some t c = adds_as (ap (optional (boxed case_part_text)) c.in-Some.is) (adds_as (ap case_part_text (sym c.deref.ensures)) c.in_ok-add_case_part-in-Some.ensures)

pub add_case_part-returns : goal.add_case_part-returns
add_case_part-returns t c = adds_as (case_part_parts _) (adds_then c.in_ok-add_range.ensures (adds_then (adds_as (ap (each next_range_text) (sym c.deref.ensures.value)) c.in_ok-add_each_next_range.ensures) (adds_then (c.in_ok-put.ensures _) c.in_ok-add_stats.ensures)))

pub add_while_stat-returns : goal.add_while_stat-returns
add_while_stat-returns t c = adds_as (while_stat_parts _) (adds_then (c.in_ok-put.ensures _) (adds_then c.in_ok-add_expression.ensures (adds_then (c.in_ok-put-2.ensures _) (adds_then c.in_ok-add_stats.ensures (adds_then (adds_as (ap (each elsif_do_text) (sym c.deref.ensures.value)) c.in_ok-add_each_elsif_do.ensures) (c.in_ok-put-3.ensures _))))))

pub add_elsif_do-returns : goal.add_elsif_do-returns
add_elsif_do-returns t c = adds_as (elsif_do_parts _) (adds_then (c.in_ok-put.ensures _) (adds_then c.in_ok-add_expression.ensures (adds_then (c.in_ok-put-2.ensures _) c.in_ok-add_stats.ensures)))

pub add_each_elsif_do-loop-tree-preserved : goal.add_each_elsif_do-loop-tree-preserved
add_each_elsif_do-loop-tree-preserved t c = adding_more elsif_do_text c.args.trees.now c.loop-tree.tree-index c.tree-item.result c.args.out.now.items c.loop-tree.out.items c.add_elsif_do.new.out.items c.loop-tree-test.true c.loop-tree.invariant (adds_as (ap elsif_do_text (sym c.tree-item.is)) c.in_ok-add_elsif_do.ensures)

pub add_each_elsif_do-returns : goal.add_each_elsif_do-returns
add_each_elsif_do-returns t c = adding_end elsif_do_text c.args.trees.now c.loop-tree.tree-index c.args.out.now.items c.loop-tree.out.items c.loop-tree-test.false c.loop-tree.invariant

pub add_repeat_stat-returns : goal.add_repeat_stat-returns
add_repeat_stat-returns t c = adds_as (repeat_stat_parts _) (adds_then (c.in_ok-put.ensures _) (adds_then c.in_ok-add_stats.ensures (adds_then (c.in_ok-put-2.ensures _) c.in_ok-add_expression.ensures)))

pub add_for_stat-returns : goal.add_for_stat-returns
add_for_stat-returns t c = adds_as (for_stat_parts _) (adds_then (c.in_ok-put.ensures _) (adds_then (c.in_ok-put-2.ensures _) (adds_then (c.in_ok-put-3.ensures _) (adds_then c.in_ok-add_expression.ensures (adds_then (c.in_ok-put-4.ensures _) (adds_then c.in_ok-add_expression-2.ensures (adds_then c.in_ok-add_by.ensures (adds_then (c.in_ok-put-5.ensures _) (adds_then c.in_ok-add_stats.ensures (c.in_ok-put-6.ensures _))))))))))
