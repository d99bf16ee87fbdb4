use Rattle.std.proofs.Common.{arith}
use Rattle.link_layout.proofs.Numbered.{numbered_more}
use Rattle.link_layout.proofs.blocks.by_number.Goals as goal

pub loop-i-preserved : goal.loop-i-preserved
loop-i-preserved c = record {
  in_order = omega (arith, c.loop-i.invariant.in_order);
  in_starts = omega (arith, c.loop-i.invariant.in_starts);
  found = λ same. numbered_more c.args.order.now c.args.starts.now c.loop-i.i _ c.args.count _ _ (c.loop-i.invariant.found same) (omega (arith, c.loop-i-test.true)) (omega (arith, c.loop-i.invariant.in_order, c.loop-i-test.true)) (omega (arith, c.loop-i.invariant.in_starts, c.loop-i-test.true)) c.put.ensures.size c.put.ensures.one c.put.ensures.others;
  size = omega (arith, c.put.ensures.size, c.loop-i.invariant.size);
  reach = λ starts. c.put.ensures.reach (starts _) (c.loop-i.invariant.reach starts);
}
