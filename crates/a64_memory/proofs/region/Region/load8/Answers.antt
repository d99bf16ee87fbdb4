use Rattle.std.proofs.Common.{◌≡◌, ◌-◌, true, arith, sym, ap, ◌∙◌, subst, w64}
use Rattle.std.specs.Int.{from_le_bytes}
use Rattle.a64_memory.specs.Bytes.{slab}
use Rattle.a64_memory.specs.Chunks.{joined}
use Rattle.a64_memory.specs.Memory.{Area, lies}
use Rattle.a64_memory.proofs.Fronts.{front_end, front_slab}
use Rattle.a64_memory.proofs.region.Region.load8.Goals as goal

pub load8_in-requires-clause-small : goal.load8_in-requires-clause-small
load8_in-requires-clause-small c =
    let here = c.self.inside in
    let inside = front_end here.base here.size here.chunks.items c.self.invariant c.args.address 8 (subst (λ (a : Area). lies a c.args.address 8 ≡ true) (sym c.self.view_is) c.requires) in
    let small = c.self.invariant.small in
    omega (arith, inside, small)

pub returns : goal.returns
returns c =
    let here = c.self.inside in
    let at = c.args.address in
    c.load8_in.ensures
    ∙ ap (λ cs. from_le_bytes w64 (slab (joined cs) (at - here.base) 8)) c.deref.ensures.value
    ∙ ap (from_le_bytes w64) (sym (front_slab here.base here.size here.chunks.items c.self.invariant at 8 (subst (λ (a : Area). lies a at 8 ≡ true) (sym c.self.view_is) c.requires)))
    ∙ ap (λ (a : Area). from_le_bytes w64 (slab a.bytes (at - a.base) 8)) c.self.view_is
