use Rattle.std.proofs.Common.{◌≡◌, ◌+◌, Some, slice_index_or, sym, ap, ◌∙◌, arith}
use Rattle.std.specs.Int.{to_le_bytes, w64}
use Rattle.a64_memory.specs.Memory.{written}
use Rattle.a64_memory.proofs.Places.{covers-none, covers-some, with_bytes-none, with_bytes-some}
use Rattle.a64_memory.proofs.access.store8.Goals as goal

pub returns-in-Some-clause-done : goal.returns-in-Some-clause-done
returns-in-Some-clause-done c = sym (covers-some c.args.regions.now 0 c.args.address 8 c.in-Some.i (sym c.find.ensures.first ∙ c.in-Some.is))

pub returns-in-Some-clause-memory : goal.returns-in-Some-clause-memory
returns-in-Some-clause-memory c =
    let zero_on : c.in-Some.i ≡ 0 + c.in-Some.i = omega arith in
    with_bytes-some c.args.regions.now 0 c.in-Some.i c.args.address (to_le_bytes w64 c.args.value) c.store.new.self c.index-regions-i.result
    (sym c.find.ensures.first ∙ c.in-Some.is ∙ ap Some zero_on) (c.store.ensures ∙ ap (written (slice_index_or c.args.regions.now c.in-Some.i c.index-regions-i.result) c.args.address) c.to_le_bytes.ensures)

pub returns-in-None-clause-done : goal.returns-in-None-clause-done
returns-in-None-clause-done c = sym (covers-none c.args.regions.now 0 c.args.address 8 (sym c.find.ensures.first ∙ c.in-None.is))

pub returns-in-None-clause-memory : goal.returns-in-None-clause-memory
returns-in-None-clause-memory c =
    sym (with_bytes-none c.args.regions.now c.args.address (to_le_bytes w64 c.args.value) (covers-none c.args.regions.now 0 c.args.address 8 (sym c.find.ensures.first ∙ c.in-None.is)))
