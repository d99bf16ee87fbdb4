use Rattle.std.proofs.Common.{ap, ◌∙◌}
use Rattle.ob_grammar.specs.Leaves.{asked}
use Rattle.ob_grammar.proofs.OneTree.{tokens, is, same}
use Rattle.ob_syntax.proofs.ModulesSpelled.{module_spelled}
use Rattle.ob_syntax.proofs.laws.trees_are_modules.Goals as goal

pub returns : goal.returns
returns c = λ m. let s = module_spelled m in (tokens 0 s.tree, is 0 s.tree, same 0 s.tree ∙ ap (λ v. asked v) s.same)
