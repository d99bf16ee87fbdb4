use Rattle.std.proofs.Common.{length}
use Rattle.ob_grammar.specs.Grammar.{part, ◌·◌, equal, expression, identdef, semicolon}
use Rattle.ob_syntax.specs.Leaves.{each}
use Rattle.ob_syntax.specs.DeclarationText.{const_decl_text}
use Rattle.parse_steps.specs.Parsing.{Repeated}
use Rattle.ob_parse.proofs.declarations.each_const_decl.Given as goal

abbrev pub invariant-rounds : goal.invariant-rounds
invariant-rounds l = Repeated (part identdef · equal · part expression · semicolon) l.initial.parser l.parser (each const_decl_text l.each.items)

abbrev pub decreases-rounds : goal.decreases-rounds
decreases-rounds l = length l.parser.rest
