use Rattle.std.proofs.Common.{◌+◌, ◌-◌, vec_len}
use Rattle.host_devices.proofs.files.read_at_most.Given as goal

abbrev pub decreases-loop-piece : goal.decreases-loop-piece
decreases-loop-piece g l = l.most + 1 - vec_len l.bytes
