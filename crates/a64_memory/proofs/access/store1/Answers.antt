use Rattle.std.proofs.Common.{◌≡◌, ◌+◌, ◌%◌, ◌^◌, [], ◌∷◌, Some, slice_index_or, sym, ap, ◌∙◌, arith}
use Rattle.std.proofs.lemmas.Nat.{and_mask}
use Rattle.a64_memory.specs.Memory.{written}
use Rattle.a64_memory.proofs.Places.{covers-none, covers-some, with_bytes-none, with_bytes-some}
use Rattle.a64_memory.proofs.access.store1.Goals as goal

pub returns-in-Some-clause-done : goal.returns-in-Some-clause-done
returns-in-Some-clause-done c = sym (covers-some c.args.regions.now 0 c.args.address 1 c.in-Some.i (sym c.find.ensures.first ∙ c.in-Some.is))

pub returns-in-Some-clause-memory : goal.returns-in-Some-clause-memory
returns-in-Some-clause-memory c =
    let zero_on : c.in-Some.i ≡ 0 + c.in-Some.i = omega arith in
    with_bytes-some c.args.regions.now 0 c.in-Some.i c.args.address (c.args.value % 2 ^ 8 ∷ []) c.store.new.self c.index-regions-i.result
    (sym c.find.ensures.first ∙ c.in-Some.is ∙ ap Some zero_on) (c.store.ensures ∙ ap (λ n. written (slice_index_or c.args.regions.now c.in-Some.i c.index-regions-i.result) c.args.address (n ∷ [])) (and_mask c.args.value 8))

pub returns-in-None-clause-done : goal.returns-in-None-clause-done
returns-in-None-clause-done c = sym (covers-none c.args.regions.now 0 c.args.address 1 (sym c.find.ensures.first ∙ c.in-None.is))

pub returns-in-None-clause-memory : goal.returns-in-None-clause-memory
returns-in-None-clause-memory c =
    sym (with_bytes-none c.args.regions.now c.args.address (c.args.value % 2 ^ 8 ∷ []) (covers-none c.args.regions.now 0 c.args.address 1 (sym c.find.ensures.first ∙ c.in-None.is)))
