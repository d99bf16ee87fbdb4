use Rattle.std.proofs.Common.{◌≡◌, ℕ, [], length, drop, sym, ◌∙◌, ap, arith}
use Rattle.std.proofs.lemmas.List.{drop_all}
use Rattle.block_runs.specs.Live.{defs_of}
use Rattle.global_live.specs.Search.{made_in, operations_of}
use Rattle.global_live.proofs.Tables.{made_in-append}
use Rattle.global_live.proofs.makers.add_node.Goals as goal

pub returns : goal.returns
returns c =
    let a = made_in-append c.args.number c.args.node.now.params (defs_of (operations_of c.args.node.now.lirs)) c.args.makers.now.items in
    let l : length {A = ℕ} c.args.node.now.params ≡ length c.as_slice-value-items.result.now = ap length (sym c.as_slice-value-items.ensures) in
    let d : drop c.loop-value.value-index c.args.node.now.params ≡ [] = drop_all c.loop-value.value-index c.args.node.now.params (omega (arith, l)) in
    let m : c.loop-value.makers.items ≡ made_in c.args.number c.args.node.now.params c.args.makers.now.items = sym (ap (λ ps. made_in c.args.number ps c.loop-value.makers.items) d) ∙ c.loop-value.invariant in
    c.add_operations.ensures ∙ ap (λ xs. made_in c.args.number (defs_of (operations_of xs)) c.loop-value.makers.items) c.as_slice.ensures ∙ ap (made_in c.args.number (defs_of (operations_of c.args.node.now.lirs))) m ∙ sym a
