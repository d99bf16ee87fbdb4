use Rattle.std.proofs.Common.{◌≡◌, ◌-◌, [], ◌∷◌, true, sym, ap, ◌∙◌, get_or, subst}
use Rattle.a64_memory.specs.Bytes.{slab}
use Rattle.a64_memory.specs.Chunks.{joined}
use Rattle.a64_memory.specs.Memory.{Area, lies}
use Rattle.a64_memory.proofs.Fronts.{front_byte}
use Rattle.a64_memory.proofs.region.Region.byte.Goals as goal

pub returns : goal.returns
returns c =
    let view = c.self.inside in
    ap (λ (a : Area). slab a.bytes (c.args.address - a.base) 1) (sym c.self.view_is)
    ∙ front_byte view.base view.size view.chunks.items c.self.invariant c.args.address (subst (λ (a : Area). lies a c.args.address 1 ≡ true) (sym c.self.view_is) c.requires)
    ∙ ap (λ cs. get_or (joined cs) (c.args.address - view.base) 0 ∷ []) (sym c.deref.ensures.value)
    ∙ ap (λ n. n ∷ []) (sym c.byte_in.ensures)
