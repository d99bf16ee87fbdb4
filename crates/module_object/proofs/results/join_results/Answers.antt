use Rattle.std.proofs.Common.{◌++◌, sym, ap, ◌∙◌}
use Rattle.module_object.proofs.Behind.{joined_more}
use Rattle.module_object.proofs.results.join_results.Goals as goal

pub loop-own-preserved : goal.loop-own-preserved
loop-own-preserved c = c.in_ok-append.ensures.items ∙ ap (λ xs. xs ++ c.in-Some.own.items) c.loop-own.invariant ∙ sym (joined_more c.loop-own.yielded c.in-Some.own)
