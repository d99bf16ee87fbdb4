use Rattle.std.proofs.Common.{◌+◌, ap, ◌∙◌}
use Rattle.a64_memory.specs.Memory.{Area, written}
use Rattle.a64_memory.specs.Areas.{data_base}
use Rattle.a64_machine.proofs.Regions.{constants_stored}
use Rattle.a64_machine.proofs.layout.data_region.Goals as goal

pub returns : goal.returns
returns c =
    c.store.ensures ∙ ap (λ (a : Area). written a (data_base + c.args.globals) c.args.constants.now) c.in_ok-region.ensures
    ∙ constants_stored data_base c.args.globals c.args.constants.now
