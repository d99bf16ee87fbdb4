-- Each call is of a part that stands lower in the grammar, or has fewer symbols ahead.
use Rattle.std.proofs.Common.{ℕ, ◌+◌, ◌*◌, length}
use Rattle.ob_grammar.specs.Grammar.{part, ◌·◌, procedure, semicolon}
use Rattle.ob_syntax.specs.Leaves.{each}
use Rattle.ob_syntax.specs.DeclarationText.{procedure_decl_text}
use Rattle.parse_steps.specs.Parsing.{State, Repeated}
use Rattle.ob_parse.proofs.declarations.+declarations.Given as goal

abbrev rank : State → ℕ → ℕ
rank a n = 4 * length a.rest + n

abbrev pub decreases-decls : goal.decreases-decls
decreases-decls l = rank l.parser.now 3

abbrev pub decreases-procedures : goal.decreases-procedures
decreases-procedures l = rank l.parser.now 2

abbrev pub decreases-procedure : goal.decreases-procedure
decreases-procedure l = rank l.parser.now 1

abbrev pub invariant-procedures-rounds : goal.invariant-procedures-rounds
invariant-procedures-rounds l = Repeated (part procedure · semicolon) l.initial.parser l.parser (each procedure_decl_text l.procedures.items)

abbrev pub decreases-procedures-rounds : goal.decreases-procedures-rounds
decreases-procedures-rounds l = length l.parser.rest
