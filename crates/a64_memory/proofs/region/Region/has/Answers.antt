use Rattle.std.proofs.Common.{◌≡◌, ◌-◌, nat_le, subst}
use Rattle.a64_memory.specs.Memory.{Area, lies}
use Rattle.a64_memory.proofs.Fronts.{front_lies}
use Rattle.a64_memory.proofs.region.Region.has.Goals as goal

pub returns-then-at-size : goal.returns-then-at-size
returns-then-at-size c =
    let at = c.args.address - c.self.inside.base in
    subst (λ (a : Area). nat_le c.args.count (c.self.inside.size - at) ≡ lies a c.args.address c.args.count) c.self.view_is
    (front_lies c.self.inside.base c.self.inside.size c.self.inside.chunks.items c.self.invariant c.args.address c.args.count c.if-address-self.false c.if-at-size.true)
