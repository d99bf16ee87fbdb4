-- Each call is of a part that stands lower in the grammar, or has fewer symbols ahead.
use Rattle.std.proofs.Common.{ℕ, ◌+◌, ◌*◌, length}
use Rattle.ob_grammar.specs.Grammar.{part, ◌·◌, DO, ELSIF, THEN, bar, case, expression, semicolon, stat, stats}
use Rattle.ob_syntax.specs.Leaves.{each}
use Rattle.ob_syntax.specs.StatementText.{next_stat_text, elsif_text, elsif_do_text, next_case_text}
use Rattle.parse_steps.specs.Parsing.{State, Repeated}
use Rattle.ob_parse.proofs.statements.+statements.Given as goal

abbrev rank : State → ℕ → ℕ
rank a n = 14 * length a.rest + n

abbrev pub decreases-stats : goal.decreases-stats
decreases-stats l = rank l.parser.now 13

abbrev pub decreases-stat : goal.decreases-stat
decreases-stat l = rank l.parser.now 12

abbrev pub decreases-if_stat : goal.decreases-if_stat
decreases-if_stat l = rank l.parser.now 11

abbrev pub decreases-case_stat : goal.decreases-case_stat
decreases-case_stat l = rank l.parser.now 10

abbrev pub decreases-while_stat : goal.decreases-while_stat
decreases-while_stat l = rank l.parser.now 9

abbrev pub decreases-repeat_stat : goal.decreases-repeat_stat
decreases-repeat_stat l = rank l.parser.now 8

abbrev pub decreases-for_stat : goal.decreases-for_stat
decreases-for_stat l = rank l.parser.now 7

abbrev pub decreases-case : goal.decreases-case
decreases-case l = rank l.parser.now 6

abbrev pub decreases-more_stats : goal.decreases-more_stats
decreases-more_stats l = rank l.parser.now 5

abbrev pub decreases-elsifs : goal.decreases-elsifs
decreases-elsifs l = rank l.parser.now 4

abbrev pub decreases-maybe_else : goal.decreases-maybe_else
decreases-maybe_else l = rank l.parser.now 3

abbrev pub decreases-elsif_dos : goal.decreases-elsif_dos
decreases-elsif_dos l = rank l.parser.now 2

abbrev pub decreases-more_cases : goal.decreases-more_cases
decreases-more_cases l = rank l.parser.now 1

abbrev pub invariant-more_stats-rounds : goal.invariant-more_stats-rounds
invariant-more_stats-rounds l = Repeated (semicolon · part stat) l.initial.parser l.parser (each next_stat_text l.more.items)

abbrev pub decreases-more_stats-rounds : goal.decreases-more_stats-rounds
decreases-more_stats-rounds l = length l.parser.rest

abbrev pub invariant-elsifs-rounds : goal.invariant-elsifs-rounds
invariant-elsifs-rounds l = Repeated (ELSIF · part expression · THEN · part stats) l.initial.parser l.parser (each elsif_text l.elsifs.items)

abbrev pub decreases-elsifs-rounds : goal.decreases-elsifs-rounds
decreases-elsifs-rounds l = length l.parser.rest

abbrev pub invariant-elsif_dos-rounds : goal.invariant-elsif_dos-rounds
invariant-elsif_dos-rounds l = Repeated (ELSIF · part expression · DO · part stats) l.initial.parser l.parser (each elsif_do_text l.elsifs.items)

abbrev pub decreases-elsif_dos-rounds : goal.decreases-elsif_dos-rounds
decreases-elsif_dos-rounds l = length l.parser.rest

abbrev pub invariant-more_cases-rounds : goal.invariant-more_cases-rounds
invariant-more_cases-rounds l = Repeated (bar · part case) l.initial.parser l.parser (each next_case_text l.more.items)

abbrev pub decreases-more_cases-rounds : goal.decreases-more_cases-rounds
decreases-more_cases-rounds l = length l.parser.rest
