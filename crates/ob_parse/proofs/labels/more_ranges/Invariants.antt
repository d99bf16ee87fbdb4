use Rattle.std.proofs.Common.{length}
use Rattle.ob_grammar.specs.Grammar.{part, ◌·◌, comma, range}
use Rattle.ob_syntax.specs.Leaves.{each}
use Rattle.ob_syntax.specs.StatementText.{next_range_text}
use Rattle.parse_steps.specs.Parsing.{Repeated}
use Rattle.ob_parse.proofs.labels.more_ranges.Given as goal

abbrev pub invariant-rounds : goal.invariant-rounds
invariant-rounds l = Repeated (comma · part range) l.initial.parser l.parser (each next_range_text l.more.items)

abbrev pub decreases-rounds : goal.decreases-rounds
decreases-rounds l = length l.parser.rest
