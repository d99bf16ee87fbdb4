use Rattle.std.proofs.Common.{sym, arith}
use Rattle.ob_scan.specs.Steps.{in_class}
use Rattle.ob_scan.proofs.Places.{passes}
use Rattle.ob_scan.proofs.classes.class_end.Goals as goal

pub bytes-preserved : goal.bytes-preserved
bytes-preserved c = record {
  rest = passes (in_class c.args.class) _ c.args.bytes.now c.bytes.i c.bytes-test.true (sym c.if-has.ensures) c.bytes.invariant.rest;
  low = omega arith;
  high = omega arith;
}
