use Rattle.std.proofs.Common.{ℕ, Option, None, get_or, set, ap, ◌∙◌, arith, rules}
use Rattle.std.proofs.lemmas.List.Edits.{map_over_more}
use Rattle.lir_core.specs.Walks.{without}
use Rattle.trace_rows.proofs.registers.clear.Goals as goal

pub loop-held-preserved : goal.loop-held-preserved
loop-held-preserved c =
    let v = c.args.value in
    let regs = c.loop-held.regs in
    let i = c.loop-held.held-index in
    let x = get_or regs i None in
    let step = map_over_more {X = Option ℕ} (without v) c.args.regs.now regs i x (omega arith) c.loop-held.invariant (search rules) in
    ap (set regs i) c.without.ensures ∙ step
