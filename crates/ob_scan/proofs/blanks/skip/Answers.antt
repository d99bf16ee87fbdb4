use Rattle.std.proofs.Common.{arith}
use Rattle.ob_scan.proofs.Places.{skips_blank, skips_comment, past_open, past_byte}
use Rattle.ob_scan.proofs.blanks.skip.Goals as goal

pub bytes-preserved-then-bytes-i-le-LAST_BLANK : goal.bytes-preserved-then-bytes-i-le-LAST_BLANK
bytes-preserved-then-bytes-i-le-LAST_BLANK c = record {
  rest = skips_blank _ c.args.bytes.now c.bytes.i c.bytes-test.true c.if-bytes-i-le-LAST_BLANK.true c.bytes.invariant.rest;
  low = omega arith;
  high = omega arith;
}

pub bytes-preserved : goal.bytes-preserved
bytes-preserved c = record {
  rest = skips_comment _ c.args.bytes.now c.bytes.i c.in-Some.end c.if-has_two.ensures c.in-Some.ensures.0 c.bytes.invariant.rest;
  low = omega (arith, c.in-Some.ensures.1);
  high = c.in-Some.ensures.2;
}

pub returns-in-None-clause-past : goal.returns-in-None-clause-past
returns-in-None-clause-past c = past_open _ c.args.bytes.now c.bytes.i c.if-has_two.ensures c.in-None.ensures c.bytes.invariant.rest

pub returns-else-has_two-clause-past : goal.returns-else-has_two-clause-past
returns-else-has_two-clause-past c = past_byte _ c.args.bytes.now c.bytes.i c.bytes-test.true c.if-bytes-i-le-LAST_BLANK.false c.if-has_two.ensures c.bytes.invariant.rest
