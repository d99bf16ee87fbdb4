use Rattle.std.proofs.Common.{◌≡◌, ◌-◌, length, true, sym, ap, ◌∙◌, subst}
use Rattle.std.proofs.lemmas.List.{with_items_is}
use Rattle.a64_memory.specs.Bytes.{splice}
use Rattle.a64_memory.specs.Chunks.{joined}
use Rattle.a64_memory.specs.Memory.{Area, lies, written}
use Rattle.a64_memory.proofs.Fronts.{front, front_stored}
use Rattle.a64_memory.proofs.region.Region.store.Goals as goal

pub returns : goal.returns
returns c =
    let here = c.self.inside in
    let at = c.args.address in
    let bytes = c.args.bytes.now in
    let size : length c.store_in.new.chunks ≡ here.chunks.len = c.store_in.auto.chunks ∙ c.deref_mut.ensures.len in
    ap (front here.base here.size) (with_items_is here.chunks c.store_in.new.chunks size)
    ∙ front_stored here.base here.size here.chunks.items c.self.invariant at bytes c.store_in.new.chunks (subst (λ (a : Area). lies a at (length bytes) ≡ true) (sym c.self.view_is) c.requires.inside)
    (c.store_in.ensures.bytes ∙ ap (λ cs. splice (joined cs) (at - here.base) bytes) c.deref_mut.ensures.value)
    ∙ ap (λ (a : Area). written a at bytes) c.self.view_is
