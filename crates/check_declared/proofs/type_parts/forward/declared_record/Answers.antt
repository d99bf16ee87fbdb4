use Rattle.std.proofs.Common.{arith}
use Rattle.check_declared.proofs.type_parts.forward.declared_record.Goals as goal

pub last_declared-requires : goal.last_declared-requires
last_declared-requires c = let l = c.requires.open_scope in omega (arith, l)
