-- Each right side, put together from its parts.
use Rattle.std.proofs.Common.{ap}
use Rattle.ob_syntax.specs.StatementText.{assign_or_call_text, if_stat_text, case_stat_text, while_stat_text, repeat_stat_text, for_stat_text, case_part_text, next_stat_text, elsif_text, elsif_do_text, next_case_text}
use Rattle.ob_syntax.proofs.StatementTexts.{stats_is, if_stat_is, elsif_is, else_is, case_stat_is, next_case_is, case_is, case_part_is, while_stat_is, elsif_do_is, repeat_stat_is, for_stat_is}
use Rattle.parse_steps.proofs.Steps.{as_text, reads_part, reads_then, reads_some, reads_none, fails_part, fails_first, fails_then, fails_some, fails_inside, reads_inside, one_more, fails_round, rounds_over, gives_err, left_out, stands_left, stands_right, reads_standing, breaks_left, breaks_right, fails_breaking, missing_both, reads_missing}
use Rattle.ob_parse.proofs.statements.+statements.Goals as goal

pub stats-returns-in_err-first : goal.stats-returns-in_err-first
stats-returns-in_err-first t c = gives_err _ c.from_residual.result c.from_residual.ensures.1 (fails_part (fails_first c.in_err-first.ensures))

pub stats-returns-in_err-more : goal.stats-returns-in_err-more
stats-returns-in_err-more t c = gives_err _ c.from_residual-in_err-more.result c.from_residual-in_err-more.ensures.1 (fails_part (fails_then c.in_ok-first.ensures c.in_err-more.ensures))

pub stats-returns : goal.stats-returns
stats-returns t c = as_text (stats_is _ _) (reads_part (reads_then c.in_ok-first.ensures c.in_ok-more.ensures))

pub more_stats-returns-in_err-next : goal.more_stats-returns-in_err-next
more_stats-returns-in_err-next t c = gives_err _ c.from_residual.result c.from_residual.ensures.1 (fails_round c.rounds.invariant c.in-Some.ensures.here (fails_then c.in-Some.ensures.read c.in_err-next.ensures))

pub more_stats-rounds-preserved : goal.more_stats-rounds-preserved
more_stats-rounds-preserved t c = one_more next_stat_text _ _ _ c.in_ok-push.ensures.items c.rounds.invariant c.in-Some.ensures.here (reads_then c.in-Some.ensures.read c.in_ok-next.ensures)

pub more_stats-returns : goal.more_stats-returns
more_stats-returns t c = rounds_over c.rounds.invariant c.in_default.ensures.none c.in_default.ensures

pub if_stat-returns-in_err-if_word : goal.if_stat-returns-in_err-if_word
if_stat-returns-in_err-if_word t c = gives_err _ c.from_residual.result c.from_residual.ensures.1 (c.in_err-if_word.ensures _)

pub if_stat-returns-in_err-guard : goal.if_stat-returns-in_err-guard
if_stat-returns-in_err-guard t c = gives_err _ c.from_residual-in_err-guard.result c.from_residual-in_err-guard.ensures.1 (fails_inside c.in_ok-if_word.ensures (fails_first c.in_err-guard.ensures))

pub if_stat-returns-in_err-then_word : goal.if_stat-returns-in_err-then_word
if_stat-returns-in_err-then_word t c = gives_err _ c.from_residual-in_err-then_word.result c.from_residual-in_err-then_word.ensures.1 (fails_inside c.in_ok-if_word.ensures (fails_then c.in_ok-guard.ensures (fails_first c.in_err-then_word.ensures.gives)))

pub if_stat-returns-in_err-body : goal.if_stat-returns-in_err-body
if_stat-returns-in_err-body t c = gives_err _ c.from_residual-in_err-body.result c.from_residual-in_err-body.ensures.1 (fails_inside c.in_ok-if_word.ensures (fails_then c.in_ok-guard.ensures (fails_then c.in_ok-then_word.ensures.gives (fails_first c.in_err-body.ensures))))

pub if_stat-returns-in_err-elsifs : goal.if_stat-returns-in_err-elsifs
if_stat-returns-in_err-elsifs t c = gives_err _ c.from_residual-in_err-elsifs.result c.from_residual-in_err-elsifs.ensures.1 (fails_inside c.in_ok-if_word.ensures (fails_then c.in_ok-guard.ensures (fails_then c.in_ok-then_word.ensures.gives (fails_then c.in_ok-body.ensures (fails_first c.in_err-elsifs.ensures)))))

pub if_stat-returns-in_err-otherwise : goal.if_stat-returns-in_err-otherwise
if_stat-returns-in_err-otherwise t c = gives_err _ c.from_residual-in_err-otherwise.result c.from_residual-in_err-otherwise.ensures.1 (fails_inside c.in_ok-if_word.ensures (fails_then c.in_ok-guard.ensures (fails_then c.in_ok-then_word.ensures.gives (fails_then c.in_ok-body.ensures (fails_then c.in_ok-elsifs.ensures (fails_first c.in_err-otherwise.ensures))))))

pub if_stat-returns-in_err-end_word : goal.if_stat-returns-in_err-end_word
if_stat-returns-in_err-end_word t c = gives_err _ c.from_residual-in_err-end_word.result c.from_residual-in_err-end_word.ensures.1 (fails_inside c.in_ok-if_word.ensures (fails_then c.in_ok-guard.ensures (fails_then c.in_ok-then_word.ensures.gives (fails_then c.in_ok-body.ensures (fails_then c.in_ok-elsifs.ensures (fails_then c.in_ok-otherwise.ensures c.in_err-end_word.ensures.gives))))))

pub if_stat-returns : goal.if_stat-returns
if_stat-returns t c = as_text (ap if_stat_text c.in_ok-held.ensures.ok) (as_text (if_stat_is _ _ _ _ _ _ _) (reads_inside _ c.in_ok-if_word.ensures (reads_then c.in_ok-guard.ensures (reads_then c.in_ok-then_word.ensures.gives (reads_then c.in_ok-body.ensures (reads_then c.in_ok-elsifs.ensures (reads_then c.in_ok-otherwise.ensures c.in_ok-end_word.ensures.gives))))) c.leave.ensures))

pub elsifs-returns-in_err-guard : goal.elsifs-returns-in_err-guard
elsifs-returns-in_err-guard t c = gives_err _ c.from_residual.result c.from_residual.ensures.1 (fails_round c.rounds.invariant c.in-Some.ensures.here (fails_then c.in-Some.ensures.read (fails_first c.in_err-guard.ensures)))

pub elsifs-returns-in_err-then_word : goal.elsifs-returns-in_err-then_word
elsifs-returns-in_err-then_word t c = gives_err _ c.from_residual-in_err-then_word.result c.from_residual-in_err-then_word.ensures.1 (fails_round c.rounds.invariant c.in-Some.ensures.here (fails_then c.in-Some.ensures.read (fails_then c.in_ok-guard.ensures (fails_first c.in_err-then_word.ensures.gives))))

pub elsifs-returns-in_err-body : goal.elsifs-returns-in_err-body
elsifs-returns-in_err-body t c = gives_err _ c.from_residual-in_err-body.result c.from_residual-in_err-body.ensures.1 (fails_round c.rounds.invariant c.in-Some.ensures.here (fails_then c.in-Some.ensures.read (fails_then c.in_ok-guard.ensures (fails_then c.in_ok-then_word.ensures.gives c.in_err-body.ensures))))

pub elsifs-rounds-preserved : goal.elsifs-rounds-preserved
elsifs-rounds-preserved t c = one_more elsif_text _ _ _ c.in_ok-push.ensures.items c.rounds.invariant c.in-Some.ensures.here (as_text (elsif_is _ _ _ _) (reads_then c.in-Some.ensures.read (reads_then c.in_ok-guard.ensures (reads_then c.in_ok-then_word.ensures.gives c.in_ok-body.ensures))))

pub elsifs-returns : goal.elsifs-returns
elsifs-returns t c = rounds_over c.rounds.invariant c.in_default.ensures.none c.in_default.ensures

pub maybe_else-returns-in_err-body-in-Some : goal.maybe_else-returns-in_err-body-in-Some
maybe_else-returns-in_err-body-in-Some t c = gives_err _ c.from_residual.result c.from_residual.ensures.1 (fails_some c.in-Some.ensures.here (fails_then c.in-Some.ensures.read c.in_err-body-in-Some.ensures))

pub maybe_else-returns-in-None : goal.maybe_else-returns-in-None
maybe_else-returns-in-None t c = left_out c.in-None.ensures.none c.in-None.ensures

pub maybe_else-returns-in_ok-body-in-Some : goal.maybe_else-returns-in_ok-body-in-Some
maybe_else-returns-in_ok-body-in-Some t c = as_text (else_is _ _) (reads_some c.in-Some.ensures.here (reads_then c.in-Some.ensures.read c.in_ok-body-in-Some.ensures))

pub while_stat-returns-in_err-while_word : goal.while_stat-returns-in_err-while_word
while_stat-returns-in_err-while_word t c = gives_err _ c.from_residual.result c.from_residual.ensures.1 (c.in_err-while_word.ensures _)

pub while_stat-returns-in_err-guard : goal.while_stat-returns-in_err-guard
while_stat-returns-in_err-guard t c = gives_err _ c.from_residual-in_err-guard.result c.from_residual-in_err-guard.ensures.1 (fails_inside c.in_ok-while_word.ensures (fails_first c.in_err-guard.ensures))

pub while_stat-returns-in_err-do_word : goal.while_stat-returns-in_err-do_word
while_stat-returns-in_err-do_word t c = gives_err _ c.from_residual-in_err-do_word.result c.from_residual-in_err-do_word.ensures.1 (fails_inside c.in_ok-while_word.ensures (fails_then c.in_ok-guard.ensures (fails_first c.in_err-do_word.ensures.gives)))

pub while_stat-returns-in_err-body : goal.while_stat-returns-in_err-body
while_stat-returns-in_err-body t c = gives_err _ c.from_residual-in_err-body.result c.from_residual-in_err-body.ensures.1 (fails_inside c.in_ok-while_word.ensures (fails_then c.in_ok-guard.ensures (fails_then c.in_ok-do_word.ensures.gives (fails_first c.in_err-body.ensures))))

pub while_stat-returns-in_err-elsifs : goal.while_stat-returns-in_err-elsifs
while_stat-returns-in_err-elsifs t c = gives_err _ c.from_residual-in_err-elsifs.result c.from_residual-in_err-elsifs.ensures.1 (fails_inside c.in_ok-while_word.ensures (fails_then c.in_ok-guard.ensures (fails_then c.in_ok-do_word.ensures.gives (fails_then c.in_ok-body.ensures (fails_first c.in_err-elsifs.ensures)))))

pub while_stat-returns-in_err-end_word : goal.while_stat-returns-in_err-end_word
while_stat-returns-in_err-end_word t c = gives_err _ c.from_residual-in_err-end_word.result c.from_residual-in_err-end_word.ensures.1 (fails_inside c.in_ok-while_word.ensures (fails_then c.in_ok-guard.ensures (fails_then c.in_ok-do_word.ensures.gives (fails_then c.in_ok-body.ensures (fails_then c.in_ok-elsifs.ensures c.in_err-end_word.ensures.gives)))))

pub while_stat-returns : goal.while_stat-returns
while_stat-returns t c = as_text (ap while_stat_text c.in_ok-held.ensures.ok) (as_text (while_stat_is _ _ _ _ _ _) (reads_inside _ c.in_ok-while_word.ensures (reads_then c.in_ok-guard.ensures (reads_then c.in_ok-do_word.ensures.gives (reads_then c.in_ok-body.ensures (reads_then c.in_ok-elsifs.ensures c.in_ok-end_word.ensures.gives)))) c.leave.ensures))

pub elsif_dos-returns-in_err-guard : goal.elsif_dos-returns-in_err-guard
elsif_dos-returns-in_err-guard t c = gives_err _ c.from_residual.result c.from_residual.ensures.1 (fails_round c.rounds.invariant c.in-Some.ensures.here (fails_then c.in-Some.ensures.read (fails_first c.in_err-guard.ensures)))

pub elsif_dos-returns-in_err-do_word : goal.elsif_dos-returns-in_err-do_word
elsif_dos-returns-in_err-do_word t c = gives_err _ c.from_residual-in_err-do_word.result c.from_residual-in_err-do_word.ensures.1 (fails_round c.rounds.invariant c.in-Some.ensures.here (fails_then c.in-Some.ensures.read (fails_then c.in_ok-guard.ensures (fails_first c.in_err-do_word.ensures.gives))))

pub elsif_dos-returns-in_err-body : goal.elsif_dos-returns-in_err-body
elsif_dos-returns-in_err-body t c = gives_err _ c.from_residual-in_err-body.result c.from_residual-in_err-body.ensures.1 (fails_round c.rounds.invariant c.in-Some.ensures.here (fails_then c.in-Some.ensures.read (fails_then c.in_ok-guard.ensures (fails_then c.in_ok-do_word.ensures.gives c.in_err-body.ensures))))

pub elsif_dos-rounds-preserved : goal.elsif_dos-rounds-preserved
elsif_dos-rounds-preserved t c = one_more elsif_do_text _ _ _ c.in_ok-push.ensures.items c.rounds.invariant c.in-Some.ensures.here (as_text (elsif_do_is _ _ _ _) (reads_then c.in-Some.ensures.read (reads_then c.in_ok-guard.ensures (reads_then c.in_ok-do_word.ensures.gives c.in_ok-body.ensures))))

pub elsif_dos-returns : goal.elsif_dos-returns
elsif_dos-returns t c = rounds_over c.rounds.invariant c.in_default.ensures.none c.in_default.ensures

pub repeat_stat-returns-in_err-repeat_word : goal.repeat_stat-returns-in_err-repeat_word
repeat_stat-returns-in_err-repeat_word t c = gives_err _ c.from_residual.result c.from_residual.ensures.1 (c.in_err-repeat_word.ensures _)

pub repeat_stat-returns-in_err-body : goal.repeat_stat-returns-in_err-body
repeat_stat-returns-in_err-body t c = gives_err _ c.from_residual-in_err-body.result c.from_residual-in_err-body.ensures.1 (fails_inside c.in_ok-repeat_word.ensures (fails_first c.in_err-body.ensures))

pub repeat_stat-returns-in_err-until_word : goal.repeat_stat-returns-in_err-until_word
repeat_stat-returns-in_err-until_word t c = gives_err _ c.from_residual-in_err-until_word.result c.from_residual-in_err-until_word.ensures.1 (fails_inside c.in_ok-repeat_word.ensures (fails_then c.in_ok-body.ensures (fails_first c.in_err-until_word.ensures.gives)))

pub repeat_stat-returns-in_err-guard : goal.repeat_stat-returns-in_err-guard
repeat_stat-returns-in_err-guard t c = gives_err _ c.from_residual-in_err-guard.result c.from_residual-in_err-guard.ensures.1 (fails_inside c.in_ok-repeat_word.ensures (fails_then c.in_ok-body.ensures (fails_then c.in_ok-until_word.ensures.gives c.in_err-guard.ensures)))

pub repeat_stat-returns : goal.repeat_stat-returns
repeat_stat-returns t c = as_text (ap repeat_stat_text c.in_ok-held.ensures.ok) (as_text (repeat_stat_is _ _ _ _) (reads_inside _ c.in_ok-repeat_word.ensures (reads_then c.in_ok-body.ensures (reads_then c.in_ok-until_word.ensures.gives c.in_ok-guard.ensures)) c.leave.ensures))

pub for_stat-returns-in_err-for_word : goal.for_stat-returns-in_err-for_word
for_stat-returns-in_err-for_word t c = gives_err _ c.from_residual.result c.from_residual.ensures.1 (c.in_err-for_word.ensures _)

pub for_stat-returns-in_err-variable : goal.for_stat-returns-in_err-variable
for_stat-returns-in_err-variable t c = gives_err _ c.from_residual-in_err-variable.result c.from_residual-in_err-variable.ensures.1 (fails_inside c.in_ok-for_word.ensures (fails_first c.in_err-variable.ensures.gives))

pub for_stat-returns-in_err-becomes : goal.for_stat-returns-in_err-becomes
for_stat-returns-in_err-becomes t c = gives_err _ c.from_residual-in_err-becomes.result c.from_residual-in_err-becomes.ensures.1 (fails_inside c.in_ok-for_word.ensures (fails_then c.in_ok-variable.ensures.gives (fails_first c.in_err-becomes.ensures.gives)))

pub for_stat-returns-in_err-from : goal.for_stat-returns-in_err-from
for_stat-returns-in_err-from t c = gives_err _ c.from_residual-in_err-from.result c.from_residual-in_err-from.ensures.1 (fails_inside c.in_ok-for_word.ensures (fails_then c.in_ok-variable.ensures.gives (fails_then c.in_ok-becomes.ensures.gives (fails_first c.in_err-from.ensures))))

pub for_stat-returns-in_err-to_word : goal.for_stat-returns-in_err-to_word
for_stat-returns-in_err-to_word t c = gives_err _ c.from_residual-in_err-to_word.result c.from_residual-in_err-to_word.ensures.1 (fails_inside c.in_ok-for_word.ensures (fails_then c.in_ok-variable.ensures.gives (fails_then c.in_ok-becomes.ensures.gives (fails_then c.in_ok-from.ensures (fails_first c.in_err-to_word.ensures.gives)))))

pub for_stat-returns-in_err-to : goal.for_stat-returns-in_err-to
for_stat-returns-in_err-to t c = gives_err _ c.from_residual-in_err-to.result c.from_residual-in_err-to.ensures.1 (fails_inside c.in_ok-for_word.ensures (fails_then c.in_ok-variable.ensures.gives (fails_then c.in_ok-becomes.ensures.gives (fails_then c.in_ok-from.ensures (fails_then c.in_ok-to_word.ensures.gives (fails_first c.in_err-to.ensures))))))

pub for_stat-returns-in_err-by : goal.for_stat-returns-in_err-by
for_stat-returns-in_err-by t c = gives_err _ c.from_residual-in_err-by.result c.from_residual-in_err-by.ensures.1 (fails_inside c.in_ok-for_word.ensures (fails_then c.in_ok-variable.ensures.gives (fails_then c.in_ok-becomes.ensures.gives (fails_then c.in_ok-from.ensures (fails_then c.in_ok-to_word.ensures.gives (fails_then c.in_ok-to.ensures (fails_first c.in_err-by.ensures)))))))

pub for_stat-returns-in_err-do_word : goal.for_stat-returns-in_err-do_word
for_stat-returns-in_err-do_word t c = gives_err _ c.from_residual-in_err-do_word.result c.from_residual-in_err-do_word.ensures.1 (fails_inside c.in_ok-for_word.ensures (fails_then c.in_ok-variable.ensures.gives (fails_then c.in_ok-becomes.ensures.gives (fails_then c.in_ok-from.ensures (fails_then c.in_ok-to_word.ensures.gives (fails_then c.in_ok-to.ensures (fails_then c.in_ok-by.ensures (fails_first c.in_err-do_word.ensures.gives))))))))

pub for_stat-returns-in_err-body : goal.for_stat-returns-in_err-body
for_stat-returns-in_err-body t c = gives_err _ c.from_residual-in_err-body.result c.from_residual-in_err-body.ensures.1 (fails_inside c.in_ok-for_word.ensures (fails_then c.in_ok-variable.ensures.gives (fails_then c.in_ok-becomes.ensures.gives (fails_then c.in_ok-from.ensures (fails_then c.in_ok-to_word.ensures.gives (fails_then c.in_ok-to.ensures (fails_then c.in_ok-by.ensures (fails_then c.in_ok-do_word.ensures.gives (fails_first c.in_err-body.ensures)))))))))

pub for_stat-returns-in_err-end_word : goal.for_stat-returns-in_err-end_word
for_stat-returns-in_err-end_word t c = gives_err _ c.from_residual-in_err-end_word.result c.from_residual-in_err-end_word.ensures.1 (fails_inside c.in_ok-for_word.ensures (fails_then c.in_ok-variable.ensures.gives (fails_then c.in_ok-becomes.ensures.gives (fails_then c.in_ok-from.ensures (fails_then c.in_ok-to_word.ensures.gives (fails_then c.in_ok-to.ensures (fails_then c.in_ok-by.ensures (fails_then c.in_ok-do_word.ensures.gives (fails_then c.in_ok-body.ensures c.in_err-end_word.ensures.gives)))))))))

pub for_stat-returns : goal.for_stat-returns
for_stat-returns t c = as_text (ap for_stat_text c.in_ok-held.ensures.ok) (as_text (for_stat_is _ _ _ _ _ _ _ _ _ _) (reads_inside _ c.in_ok-for_word.ensures (reads_then c.in_ok-variable.ensures.gives (reads_then c.in_ok-becomes.ensures.gives (reads_then c.in_ok-from.ensures (reads_then c.in_ok-to_word.ensures.gives (reads_then c.in_ok-to.ensures (reads_then c.in_ok-by.ensures (reads_then c.in_ok-do_word.ensures.gives (reads_then c.in_ok-body.ensures c.in_ok-end_word.ensures.gives)))))))) c.leave.ensures))

pub case_stat-returns-in_err-case_word : goal.case_stat-returns-in_err-case_word
case_stat-returns-in_err-case_word t c = gives_err _ c.from_residual.result c.from_residual.ensures.1 (c.in_err-case_word.ensures _)

pub case_stat-returns-in_err-selector : goal.case_stat-returns-in_err-selector
case_stat-returns-in_err-selector t c = gives_err _ c.from_residual-in_err-selector.result c.from_residual-in_err-selector.ensures.1 (fails_inside c.in_ok-case_word.ensures (fails_first c.in_err-selector.ensures))

pub case_stat-returns-in_err-of_word : goal.case_stat-returns-in_err-of_word
case_stat-returns-in_err-of_word t c = gives_err _ c.from_residual-in_err-of_word.result c.from_residual-in_err-of_word.ensures.1 (fails_inside c.in_ok-case_word.ensures (fails_then c.in_ok-selector.ensures (fails_first c.in_err-of_word.ensures.gives)))

pub case_stat-returns-in_err-first : goal.case_stat-returns-in_err-first
case_stat-returns-in_err-first t c = gives_err _ c.from_residual-in_err-first.result c.from_residual-in_err-first.ensures.1 (fails_inside c.in_ok-case_word.ensures (fails_then c.in_ok-selector.ensures (fails_then c.in_ok-of_word.ensures.gives (fails_first c.in_err-first.ensures))))

pub case_stat-returns-in_err-more : goal.case_stat-returns-in_err-more
case_stat-returns-in_err-more t c = gives_err _ c.from_residual-in_err-more.result c.from_residual-in_err-more.ensures.1 (fails_inside c.in_ok-case_word.ensures (fails_then c.in_ok-selector.ensures (fails_then c.in_ok-of_word.ensures.gives (fails_then c.in_ok-first.ensures (fails_first c.in_err-more.ensures)))))

pub case_stat-returns-in_err-end_word : goal.case_stat-returns-in_err-end_word
case_stat-returns-in_err-end_word t c = gives_err _ c.from_residual-in_err-end_word.result c.from_residual-in_err-end_word.ensures.1 (fails_inside c.in_ok-case_word.ensures (fails_then c.in_ok-selector.ensures (fails_then c.in_ok-of_word.ensures.gives (fails_then c.in_ok-first.ensures (fails_then c.in_ok-more.ensures c.in_err-end_word.ensures.gives)))))

pub case_stat-returns : goal.case_stat-returns
case_stat-returns t c = as_text (ap case_stat_text c.in_ok-held.ensures.ok) (as_text (case_stat_is _ _ _ _ _ _) (reads_inside _ c.in_ok-case_word.ensures (reads_then c.in_ok-selector.ensures (reads_then c.in_ok-of_word.ensures.gives (reads_then c.in_ok-first.ensures (reads_then c.in_ok-more.ensures c.in_ok-end_word.ensures.gives)))) c.leave.ensures))

pub more_cases-returns-in_err-next : goal.more_cases-returns-in_err-next
more_cases-returns-in_err-next t c = gives_err _ c.from_residual.result c.from_residual.ensures.1 (fails_round c.rounds.invariant c.in-Some.ensures.here (fails_then c.in-Some.ensures.read c.in_err-next.ensures))

pub more_cases-rounds-preserved : goal.more_cases-rounds-preserved
more_cases-rounds-preserved t c = one_more next_case_text _ _ _ c.in_ok-push.ensures.items c.rounds.invariant c.in-Some.ensures.here (as_text (next_case_is _ _) (reads_then c.in-Some.ensures.read c.in_ok-next.ensures))

pub more_cases-returns : goal.more_cases-returns
more_cases-returns t c = rounds_over c.rounds.invariant c.in_default.ensures.none c.in_default.ensures

pub case-returns-in_err-first : goal.case-returns-in_err-first
case-returns-in_err-first t c = gives_err _ c.from_residual.result c.from_residual.ensures.1 (fails_part (fails_some c.if-begins_label.ensures (fails_first c.in_err-first.ensures)))

pub case-returns-in_err-more : goal.case-returns-in_err-more
case-returns-in_err-more t c = gives_err _ c.from_residual-in_err-more.result c.from_residual-in_err-more.ensures.1 (fails_part (fails_some c.if-begins_label.ensures (fails_then c.in_ok-first.ensures (fails_first c.in_err-more.ensures))))

pub case-returns-in_err-colon : goal.case-returns-in_err-colon
case-returns-in_err-colon t c = gives_err _ c.from_residual-in_err-colon.result c.from_residual-in_err-colon.ensures.1 (fails_part (fails_some c.if-begins_label.ensures (fails_then c.in_ok-first.ensures (fails_then c.in_ok-more.ensures (fails_first c.in_err-colon.ensures.gives)))))

pub case-returns-in_err-body : goal.case-returns-in_err-body
case-returns-in_err-body t c = gives_err _ c.from_residual-in_err-body.result c.from_residual-in_err-body.ensures.1 (fails_part (fails_some c.if-begins_label.ensures (fails_then c.in_ok-first.ensures (fails_then c.in_ok-more.ensures (fails_then c.in_ok-colon.ensures.gives c.in_err-body.ensures)))))

pub case-returns-in_ok-held : goal.case-returns-in_ok-held
case-returns-in_ok-held t c = as_text (case_is _) (as_text (ap case_part_text c.in_ok-held.ensures.ok) (as_text (case_part_is _ _ _ _) (reads_part (reads_some c.if-begins_label.ensures (reads_then c.in_ok-first.ensures (reads_then c.in_ok-more.ensures (reads_then c.in_ok-colon.ensures.gives c.in_ok-body.ensures)))))))

pub case-returns-else-begins_label : goal.case-returns-else-begins_label
case-returns-else-begins_label t c = as_text (case_is _) (reads_part (reads_none c.if-begins_label.ensures))

pub stat-returns-in_err-made : goal.stat-returns-in_err-made
stat-returns-in_err-made t c = gives_err _ c.from_residual.result c.from_residual.ensures.1 (fails_part (fails_breaking (breaks_left (record { here = c.if-is_at.ensures.tells; fails = c.in_err-made.ensures }))))

pub stat-returns-in_ok-held : goal.stat-returns-in_ok-held
stat-returns-in_ok-held t c = as_text (ap assign_or_call_text c.in_ok-held.ensures.ok) (reads_part (reads_standing (stands_left (record { here = c.if-is_at.ensures.tells; read = c.in_ok-made.ensures }))))

pub stat-returns-in_err-made-2 : goal.stat-returns-in_err-made-2
stat-returns-in_err-made-2 t c = gives_err _ c.from_residual-in_err-made-2.result c.from_residual-in_err-made-2.ensures.1 (fails_part (fails_breaking (breaks_right c.if-is_at.ensures.tells (breaks_left (record { here = c.if-is_at-2.ensures.tells; fails = c.in_err-made-2.ensures })))))

pub stat-returns-in_ok-made-2 : goal.stat-returns-in_ok-made-2
stat-returns-in_ok-made-2 t c = reads_part (reads_standing (stands_right c.if-is_at.ensures.tells (stands_left (record { here = c.if-is_at-2.ensures.tells; read = c.in_ok-made-2.ensures }))))

pub stat-returns-in_err-made-3 : goal.stat-returns-in_err-made-3
stat-returns-in_err-made-3 t c = gives_err _ c.from_residual-in_err-made-3.result c.from_residual-in_err-made-3.ensures.1 (fails_part (fails_breaking (breaks_right c.if-is_at.ensures.tells (breaks_right c.if-is_at-2.ensures.tells (breaks_left (record { here = c.if-is_at-3.ensures.tells; fails = c.in_err-made-3.ensures }))))))

pub stat-returns-in_ok-made-3 : goal.stat-returns-in_ok-made-3
stat-returns-in_ok-made-3 t c = reads_part (reads_standing (stands_right c.if-is_at.ensures.tells (stands_right c.if-is_at-2.ensures.tells (stands_left (record { here = c.if-is_at-3.ensures.tells; read = c.in_ok-made-3.ensures })))))

pub stat-returns-in_err-made-4 : goal.stat-returns-in_err-made-4
stat-returns-in_err-made-4 t c = gives_err _ c.from_residual-in_err-made-4.result c.from_residual-in_err-made-4.ensures.1 (fails_part (fails_breaking (breaks_right c.if-is_at.ensures.tells (breaks_right c.if-is_at-2.ensures.tells (breaks_right c.if-is_at-3.ensures.tells (breaks_left (record { here = c.if-is_at-4.ensures.tells; fails = c.in_err-made-4.ensures })))))))

pub stat-returns-in_ok-made-4 : goal.stat-returns-in_ok-made-4
stat-returns-in_ok-made-4 t c = reads_part (reads_standing (stands_right c.if-is_at.ensures.tells (stands_right c.if-is_at-2.ensures.tells (stands_right c.if-is_at-3.ensures.tells (stands_left (record { here = c.if-is_at-4.ensures.tells; read = c.in_ok-made-4.ensures }))))))

pub stat-returns-in_err-made-5 : goal.stat-returns-in_err-made-5
stat-returns-in_err-made-5 t c = gives_err _ c.from_residual-in_err-made-5.result c.from_residual-in_err-made-5.ensures.1 (fails_part (fails_breaking (breaks_right c.if-is_at.ensures.tells (breaks_right c.if-is_at-2.ensures.tells (breaks_right c.if-is_at-3.ensures.tells (breaks_right c.if-is_at-4.ensures.tells (breaks_left (record { here = c.if-is_at-5.ensures.tells; fails = c.in_err-made-5.ensures }))))))))

pub stat-returns-in_ok-made-5 : goal.stat-returns-in_ok-made-5
stat-returns-in_ok-made-5 t c = reads_part (reads_standing (stands_right c.if-is_at.ensures.tells (stands_right c.if-is_at-2.ensures.tells (stands_right c.if-is_at-3.ensures.tells (stands_right c.if-is_at-4.ensures.tells (stands_left (record { here = c.if-is_at-5.ensures.tells; read = c.in_ok-made-5.ensures })))))))

pub stat-returns-in_err-made-6 : goal.stat-returns-in_err-made-6
stat-returns-in_err-made-6 t c = gives_err _ c.from_residual-in_err-made-6.result c.from_residual-in_err-made-6.ensures.1 (fails_part (fails_breaking (breaks_right c.if-is_at.ensures.tells (breaks_right c.if-is_at-2.ensures.tells (breaks_right c.if-is_at-3.ensures.tells (breaks_right c.if-is_at-4.ensures.tells (breaks_right c.if-is_at-5.ensures.tells (record { here = c.if-is_at-6.ensures.tells; fails = c.in_err-made-6.ensures }))))))))

pub stat-returns-in_ok-made-6 : goal.stat-returns-in_ok-made-6
stat-returns-in_ok-made-6 t c = reads_part (reads_standing (stands_right c.if-is_at.ensures.tells (stands_right c.if-is_at-2.ensures.tells (stands_right c.if-is_at-3.ensures.tells (stands_right c.if-is_at-4.ensures.tells (stands_right c.if-is_at-5.ensures.tells (record { here = c.if-is_at-6.ensures.tells; read = c.in_ok-made-6.ensures })))))))

pub stat-returns-else-is_at-6 : goal.stat-returns-else-is_at-6
stat-returns-else-is_at-6 t c = reads_part (reads_missing (missing_both c.if-is_at.ensures.tells (missing_both c.if-is_at-2.ensures.tells (missing_both c.if-is_at-3.ensures.tells (missing_both c.if-is_at-4.ensures.tells (missing_both c.if-is_at-5.ensures.tells (record { none = c.if-is_at-6.ensures.tells })))))))
