use Rattle.std.proofs.Common.{length}
use Rattle.ob_grammar.specs.Grammar.{part, ◌·◌, equal, identdef, semicolon, type}
use Rattle.ob_syntax.specs.Leaves.{each}
use Rattle.ob_syntax.specs.DeclarationText.{type_decl_text}
use Rattle.parse_steps.specs.Parsing.{Repeated}
use Rattle.ob_parse.proofs.declarations.each_type_decl.Given as goal

abbrev pub invariant-rounds : goal.invariant-rounds
invariant-rounds l = Repeated (part identdef · equal · part type · semicolon) l.initial.parser l.parser (each type_decl_text l.each.items)

abbrev pub decreases-rounds : goal.decreases-rounds
decreases-rounds l = length l.parser.rest
