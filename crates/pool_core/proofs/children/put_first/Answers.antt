use Rattle.std.proofs.Common.{ap, ◌∙◌, arith}
use Rattle.std.specs.Prelude.{None}
use mathlib.Core.Option.{some}
use Rattle.pool_core.proofs.Sums.{at_index}
use Rattle.pool_core.proofs.Chains.{put_before}
use Rattle.pool_core.proofs.children.put_first.Goals as goal

pub slice_copy_out-next : goal.slice_copy_out-next
slice_copy_out-next c = let at = at_index c.args.parents.now c.args.trace None c.requires.trace in omega (arith, c.requires.tree c.args.trace c.in-Some.parent (at ∙ ap some c.in-Some.is), c.requires.later.firsts, c.requires.trace)

pub bounds-first-parent : goal.bounds-first-parent
bounds-first-parent c = let at = at_index c.args.parents.now c.args.trace None c.requires.trace in omega (arith, c.requires.tree c.args.trace c.in-Some.parent (at ∙ ap some c.in-Some.is), c.requires.later.firsts, c.requires.trace)

pub returns-in-Some : goal.returns-in-Some
returns-in-Some c = put_before c.args.parents.now c.args.first.now c.args.next.now c.args.trace c.requires.trace c.in-Some.parent c.requires.tree c.in-Some.is c.requires.later
