use Rattle.std.proofs.Common.{◌≡◌, length, ◌∙◌, arith}
use Rattle.std.specs.Vec.{with_items}
use Rattle.std.proofs.lemmas.List.{with_items_is}
use Rattle.a64_machine.specs.View.{core_state}
use Rattle.a64_machine.proofs.Storing.{outside8}
use Rattle.a64_machine.proofs.processor.Core.stores8.Goals as goal

pub returns-else-store8 : goal.returns-else-store8
returns-else-store8 c =
    let v = c.args.self.now.memory in
    let held : length c.store8.new.regions ≡ v.len = omega arith in
    outside8 (core_state c.args.self.now) c.args.address c.args.value c.deref_mut.result.now (with_items v c.store8.new.regions).items c.deref_mut.ensures.value
    c.if-store8.ensures.done (with_items_is v c.store8.new.regions held ∙ c.if-store8.ensures.memory)
