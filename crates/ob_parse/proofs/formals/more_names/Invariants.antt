use Rattle.std.proofs.Common.{length}
use Rattle.ob_grammar.specs.Grammar.{◌·◌, comma, ident}
use Rattle.ob_syntax.specs.Leaves.{each}
use Rattle.ob_syntax.specs.NameText.{next_ident_text}
use Rattle.parse_steps.specs.Parsing.{Repeated}
use Rattle.ob_parse.proofs.formals.more_names.Given as goal

abbrev pub invariant-rounds : goal.invariant-rounds
invariant-rounds l = Repeated (comma · ident) l.initial.parser l.parser (each next_ident_text l.more.items)

abbrev pub decreases-rounds : goal.decreases-rounds
decreases-rounds l = length l.parser.rest
