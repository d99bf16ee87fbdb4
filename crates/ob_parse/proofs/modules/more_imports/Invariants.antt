use Rattle.std.proofs.Common.{length}
use Rattle.ob_grammar.specs.Grammar.{part, ◌·◌, comma, import}
use Rattle.ob_syntax.specs.Leaves.{each}
use Rattle.ob_syntax.specs.ModuleText.{next_import_text}
use Rattle.parse_steps.specs.Parsing.{Repeated}
use Rattle.ob_parse.proofs.modules.more_imports.Given as goal

abbrev pub invariant-rounds : goal.invariant-rounds
invariant-rounds l = Repeated (comma · part import) l.initial.parser l.parser (each next_import_text l.more.items)

abbrev pub decreases-rounds : goal.decreases-rounds
decreases-rounds l = length l.parser.rest
