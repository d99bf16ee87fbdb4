use Rattle.std.proofs.Common.{ℕ, Option, None, get_or, set, ap, ◌∙◌, arith, rules}
use Rattle.std.proofs.lemmas.List.Edits.{map_over_more}
use Rattle.lir_core.specs.Rows.{has_bit}
use Rattle.linear_scan.specs.Starts.{if_live}
use Rattle.linear_scan.proofs.starting.keep_live.Goals as goal

pub loop-content-preserved : goal.loop-content-preserved
loop-content-preserved c =
    let live = if_live (has_bit c.args.head.now.live.now c.args.head.now.node) in
    let row = c.loop-content.row in
    let i = c.loop-content.content-index in
    let x = get_or row i None in
    ap (set row i) c.if_live.ensures ∙ map_over_more {X = Option ℕ} live c.args.row.now row i x (omega arith) c.loop-content.invariant (search rules)
