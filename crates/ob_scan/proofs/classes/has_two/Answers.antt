use Rattle.std.proofs.Common.{◌∙◌, drop}
use Rattle.ob_scan.proofs.Places.{byte_there, two_by, no_first}
use Rattle.ob_scan.proofs.classes.has_two.Goals as goal

pub has_byte-requires-then-has_byte : goal.has_byte-requires-then-has_byte
has_byte-requires-then-has_byte c = (byte_there c.args.bytes.now c.args.at c.args.first c.if-has_byte.ensures).1

pub returns-then-has_byte : goal.returns-then-has_byte
returns-then-has_byte c = c.has_byte-then-has_byte.ensures ∙ two_by c.args.first c.args.second c.args.bytes.now c.args.at c.if-has_byte.ensures

pub returns-else-has_byte : goal.returns-else-has_byte
returns-else-has_byte c = no_first c.args.first c.args.second (drop c.args.at c.args.bytes.now) c.if-has_byte.ensures
