use Rattle.std.proofs.Common.{arith}
use Rattle.a64_memory.proofs.Joining.{put_joined}
use Rattle.a64_memory.proofs.chunks.store_in.Goals as goal

pub returns-then-place-bytes-le-CHUNK-clause-bytes : goal.returns-then-place-bytes-le-CHUNK-clause-bytes
returns-then-place-bytes-le-CHUNK-clause-bytes c =
    (put_joined c.args.chunks.now c.args.at c.args.bytes.now c.put.new.self c.index-chunks-at.result c.requires.even (omega arith) (omega arith) c.put.ensures).0

pub returns-then-place-bytes-le-CHUNK-clause-even : goal.returns-then-place-bytes-le-CHUNK-clause-even
returns-then-place-bytes-le-CHUNK-clause-even c =
    (put_joined c.args.chunks.now c.args.at c.args.bytes.now c.put.new.self c.index-chunks-at.result c.requires.even (omega arith) (omega arith) c.put.ensures).1
