use Rattle.std.proofs.Common.{refl}
use Rattle.memory_devices.proofs.Holding.{others_same}
use Rattle.memory_devices.proofs.mem_files.MemFilesFiles.write.Goals as goal

pub returns-in-Err-clause-tells : goal.returns-in-Err-clause-tells
returns-in-Err-clause-tells c = (_, refl, others_same _ _ _ c.in-Err.ensures.err)
