use Rattle.std.proofs.Common.{length}
use Rattle.ob_grammar.specs.Grammar.{part, ◌·◌, comma, identdef}
use Rattle.ob_syntax.specs.Leaves.{each}
use Rattle.ob_syntax.specs.NameText.{next_identdef_text}
use Rattle.parse_steps.specs.Parsing.{Repeated}
use Rattle.parse_expressions.proofs.names.idents.Given as goal

abbrev pub invariant-rounds : goal.invariant-rounds
invariant-rounds l = Repeated (comma · part identdef) l.initial.parser l.parser (each next_identdef_text l.more.items)

abbrev pub decreases-rounds : goal.decreases-rounds
decreases-rounds l = length l.parser.rest
