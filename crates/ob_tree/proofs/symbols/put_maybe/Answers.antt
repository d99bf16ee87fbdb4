use Rattle.std.proofs.Common.{ap}
use Rattle.ob_grammar.specs.Grammar.{one}
use Rattle.ob_syntax.specs.Leaves.{maybe}
use Rattle.ob_tree.proofs.Added.{adds_as}
use Rattle.ob_tree.proofs.symbols.put_maybe.Goals as goal

pub returns-in_ok-put-in-Some : goal.returns-in_ok-put-in-Some
returns-in_ok-put-in-Some c = λ k. adds_as (ap (maybe (one k)) c.in-Some.is) (c.in_ok-put-in-Some.ensures k)
