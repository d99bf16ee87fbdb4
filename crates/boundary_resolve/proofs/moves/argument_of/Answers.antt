use Rattle.std.proofs.Common.{refl, sym, ◌∙◌, arith}
use Rattle.boundary_resolve.proofs.Sought.{argument_alone, argument_further}
use Rattle.boundary_resolve.proofs.moves.argument_of.Goals as goal

pub returns-then-i-args : goal.returns-then-i-args
returns-then-i-args c = sym (c.loop-i.invariant ∙ argument_alone c.args.params.now c.args.args.now c.loop-i.i c.args.value (omega arith))

pub loop-i-preserved : goal.loop-i-preserved
loop-i-preserved c = c.loop-i.invariant ∙ argument_further c.args.params.now c.args.args.now c.loop-i.i _ c.args.value c.loop-i-test.true (omega arith) refl c.if-param-value.false
