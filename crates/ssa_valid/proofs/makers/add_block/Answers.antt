use Rattle.std.proofs.Common.{◌≡◌, ℕ, [], length, drop, map, sym, ◌∙◌, ap, arith}
use Rattle.std.proofs.lemmas.List.{drop_all}
use Rattle.block_runs.specs.Live.{defs_of}
use Rattle.ssa_core.specs.Procedures.{operation_of}
use Rattle.ssa_valid.specs.Tables.{made_in}
use Rattle.ssa_valid.proofs.makers.add_block.Goals as goal
use Rattle.global_live.proofs.Tables.{made_in-append}

pub returns : goal.returns
returns c =
    let b = c.args.block.now in
    let a = made_in-append c.args.number b.params (defs_of (map operation_of b.ops)) c.args.makers.now.items in
    let l : length {A = ℕ} b.params ≡ length c.as_slice-value-items.result.now = ap length (sym c.as_slice-value-items.ensures) in
    let d : drop c.loop-value.value-index b.params ≡ [] = drop_all c.loop-value.value-index b.params (omega (arith, l)) in
    let m : c.loop-value.makers.items ≡ made_in c.args.number b.params c.args.makers.now.items = sym (ap (λ ps. made_in c.args.number ps c.loop-value.makers.items) d) ∙ c.loop-value.invariant in
    c.add_operations.ensures ∙ ap (λ xs. made_in c.args.number (defs_of (map operation_of xs)) c.loop-value.makers.items) c.as_slice.ensures ∙ ap (made_in c.args.number (defs_of (map operation_of b.ops))) m ∙ sym a
