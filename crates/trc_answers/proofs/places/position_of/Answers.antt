use Rattle.std.proofs.Common.{arith, take}
use Rattle.std.proofs.lemmas.Grind.{common_steps}
use Rattle.trc_answers.proofs.LastLines.{lines_few, columns_few, behind_end, behind_other}
use Rattle.trc_answers.proofs.places.position_of.Goals as goal

pub overflow_add-place : goal.overflow_add-place
overflow_add-place c = grind (arith, common_steps, lines_few (take c.min.result c.args.text.now) c.loop-byte.byte-index)

pub overflow_add-place-else-byte-eq10 : goal.overflow_add-place-else-byte-eq10
overflow_add-place-else-byte-eq10 c = grind (arith, common_steps, columns_few (take c.min.result c.args.text.now) c.loop-byte.byte-index)

pub loop-byte-preserved : goal.loop-byte-preserved
loop-byte-preserved c = elim c.if-byte-eq10.branch [
  | goal.then-byte-eq10 w ↦ grind (arith, common_steps, behind_end (take c.min.result c.args.text.now) c.loop-byte.byte-index c.loop-byte.place.line c.loop-byte-test.true w.if-byte-eq10.true c.loop-byte.invariant.0)
  | goal.else-byte-eq10 w ↦ grind (arith, common_steps, behind_other (take c.min.result c.args.text.now) c.loop-byte.byte-index c.loop-byte.place.line c.loop-byte.place.column c.loop-byte-test.true w.if-byte-eq10.false c.loop-byte.invariant.0 c.loop-byte.invariant.1)
]
