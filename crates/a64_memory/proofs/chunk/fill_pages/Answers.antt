use Rattle.std.proofs.Common.{◌-◌, ◌*◌, ◌++◌, take, replicate, ap, ◌∙◌, arith}
use Rattle.std.specs.Prelude.{is_ok, if◌then◌else◌}
use Rattle.a64_memory.proofs.Padding.{padded-resized}
use Rattle.a64_memory.proofs.chunk.fill_pages.Goals as goal

pub returns-clause-same : goal.returns-clause-same
returns-clause-same c =
    let old = c.args.bytes.now in
    let to = 4096 * c.div_ceil-pages.result in
    padded-resized 1048576 to old.items c.resize.new.self.items (is_ok c.resize.result)
    (c.resize.ensures.items ∙ ap (λ n. if is_ok c.resize.result then take to old.items ++ replicate (to - n) 0 else old.items) old.ok.0) (omega arith) (omega arith)
