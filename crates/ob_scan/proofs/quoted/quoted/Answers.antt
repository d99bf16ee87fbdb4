use Rattle.std.proofs.Common.{arith}
use Rattle.ob_scan.specs.Words.{is_quotable}
use Rattle.ob_scan.proofs.Turns.{run_at, text_found, text_open}
use Rattle.ob_scan.proofs.quoted.quoted.Goals as goal

pub returns-then-has_byte-clause-found : goal.returns-then-has_byte-clause-found
returns-then-has_byte-clause-found c = text_found c.args.bytes.now c.args.at c.class_end-end.result (run_at is_quotable c.args.bytes.now c.args.at c.class_end-end.result c.requires.inside (omega arith) c.class_end-end.ensures.passing c.class_end-end.ensures.stop) c.requires.quote c.if-has_byte.ensures

pub returns-else-has_byte-clause-refused : goal.returns-else-has_byte-clause-refused
returns-else-has_byte-clause-refused c = text_open c.args.bytes.now c.args.at c.class_end-end.result (run_at is_quotable c.args.bytes.now c.args.at c.class_end-end.result c.requires.inside (omega arith) c.class_end-end.ensures.passing c.class_end-end.ensures.stop) c.requires.quote c.if-has_byte.ensures
