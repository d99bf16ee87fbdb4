use Rattle.check_types.proofs.steps.Maps.{at_bytes_after}
use Rattle.table_builder.proofs.numbers.forget.Goals as goal

pub returns : goal.returns
returns c = λ q. at_bytes_after c.args.parts.now c.args.map.now c.remove.new.self _ c.remove.ensures.updates q
