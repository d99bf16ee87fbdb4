use Rattle.std.proofs.Common.{◌≡◌, ℕ, [], length, drop, map, sym, ◌∙◌, ap, arith}
use Rattle.std.proofs.lemmas.List.{drop_all}
use Rattle.block_runs.specs.Live.{defs_of}
use Rattle.ssa_core.specs.Procedures.{operation_of}
use Rattle.ssa_valid.specs.Tables.{tallied}
use Rattle.ssa_valid.proofs.Tables.{tallied-append}
use Rattle.ssa_valid.proofs.makers.tally_block.Goals as goal

pub returns : goal.returns
returns c =
    let b = c.args.block.now in
    let a = tallied-append b.params (defs_of (map operation_of b.ops)) c.args.counts.now.items in
    let l : length {A = ℕ} b.params ≡ length c.as_slice-value-items.result.now = ap length (sym c.as_slice-value-items.ensures) in
    let d : drop c.loop-value.value-index b.params ≡ [] = drop_all c.loop-value.value-index b.params (omega (arith, l)) in
    let m : c.loop-value.counts.items ≡ tallied b.params c.args.counts.now.items = sym (ap (λ ps. tallied ps c.loop-value.counts.items) d) ∙ c.loop-value.invariant in
    c.tally_operations.ensures ∙ ap (λ xs. tallied (defs_of (map operation_of xs)) c.loop-value.counts.items) c.as_slice.ensures ∙ ap (tallied (defs_of (map operation_of b.ops))) m ∙ sym a
