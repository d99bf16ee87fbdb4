use Rattle.std.proofs.Common.{◌≡◌, drop, ap, sym, arith, ◌∙◌, length}
use Rattle.ssa_core.specs.Procedures.{code_blocks}
use Rattle.ssa_valid.proofs.Tables.{length-makers}
use Rattle.ssa_valid.proofs.makers.makers.Goals as goal
use Rattle.global_live.proofs.Tables.{length-makers_from}

pub returns-clause-few : goal.returns-clause-few
returns-clause-few c =
    let a : length c.loop-number.makers.items ≡ c.args.values =
    sym (length-makers_from c.loop-number.number (code_blocks (drop c.loop-number.number c.args.blocks.now)) c.loop-number.makers.items) ∙ ap length c.loop-number.invariant ∙ length-makers (code_blocks c.args.blocks.now) c.args.values in
    omega (arith, a, c.ranges.values.fits)
