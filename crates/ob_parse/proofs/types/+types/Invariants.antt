-- Each call is of a part that stands lower in the grammar, or has fewer symbols ahead.
use Rattle.std.proofs.Common.{ℕ, ◌+◌, ◌*◌, length}
use Rattle.ob_grammar.specs.Grammar.{part, opt, ◌·◌, fields, semicolon}
use Rattle.ob_syntax.specs.Leaves.{each}
use Rattle.ob_syntax.specs.TypeText.{next_fields_text}
use Rattle.parse_steps.specs.Parsing.{State, Repeated}
use Rattle.ob_parse.proofs.types.+types.Given as goal

abbrev rank : State → ℕ → ℕ
rank a n = 8 * length a.rest + n

abbrev pub decreases-maybe_fields : goal.decreases-maybe_fields
decreases-maybe_fields l = rank l.parser.now 7

abbrev pub decreases-fields : goal.decreases-fields
decreases-fields l = rank l.parser.now 6

abbrev pub decreases-type_tree : goal.decreases-type_tree
decreases-type_tree l = rank l.parser.now 5

abbrev pub decreases-array_type : goal.decreases-array_type
decreases-array_type l = rank l.parser.now 4

abbrev pub decreases-record_type : goal.decreases-record_type
decreases-record_type l = rank l.parser.now 3

abbrev pub decreases-more_fields : goal.decreases-more_fields
decreases-more_fields l = rank l.parser.now 2

abbrev pub decreases-pointer_type : goal.decreases-pointer_type
decreases-pointer_type l = rank l.parser.now 1

abbrev pub invariant-more_fields-rounds : goal.invariant-more_fields-rounds
invariant-more_fields-rounds l = Repeated (semicolon · opt (part fields)) l.initial.parser l.parser (each next_fields_text l.more.items)

abbrev pub decreases-more_fields-rounds : goal.decreases-more_fields-rounds
decreases-more_fields-rounds l = length l.parser.rest
