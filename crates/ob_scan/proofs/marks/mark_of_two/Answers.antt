use Rattle.std.proofs.Common.{arith}
use Rattle.ob_scan.proofs.Places.{no_two}
use Rattle.ob_scan.proofs.marks.mark_of_two.Goals as goal

pub returns-else-bytes-at-ge2 : goal.returns-else-bytes-at-ge2
returns-else-bytes-at-ge2 c = no_two c.args.bytes.now c.args.at (omega arith) (omega arith)
