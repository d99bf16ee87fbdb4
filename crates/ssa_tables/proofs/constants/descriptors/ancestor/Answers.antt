use Rattle.std.proofs.Common.{sym, ◌∙◌}
use Rattle.ssa_tables.proofs.constants.Telling.{ancestor_on}
use Rattle.ssa_tables.proofs.constants.descriptors.ancestor.Goals as goal

pub loop-level-preserved : goal.loop-level-preserved
loop-level-preserved c =
    ancestor_on c.args.types.now c.args.level c.loop-level.left c.loop-level.at c.in-Some.base (λ e. c.loop-level-test.true (c.level_of.ensures ∙ e)) c.if-left-eq0.false (sym c.base_of.ensures ∙ c.in-Some.is)
    ∙ c.loop-level.invariant
