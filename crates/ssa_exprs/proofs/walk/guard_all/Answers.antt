use Rattle.std.proofs.Common.{subst, get_or}
use Rattle.ssa_lowered.specs.Values.{guarded}
use Rattle.ssa_exprs.specs.Making.{Gives}
use Rattle.ssa_exprs.specs.Tables.{level_in}
use Rattle.ssa_exprs.proofs.Guards.{guarding_more, guarding_end}
use Rattle.ssa_exprs.proofs.walk.guard_all.Goals as goal

pub loop-r-init : goal.loop-r-init
loop-r-init c = λ program here s new g. g

pub loop-r-preserved : goal.loop-r-preserved
loop-r-preserved c = λ program here s new g. c.loop-r.invariant program here s new (guarding_more program here c.args.t.now c.args.types.now c.loop-r.r-index 0 s c.loop-r-test.true
    (λ v m h. subst (λ k. Gives v c.guard.new.b (guarded m k (level_in c.args.t.now.program.now (get_or c.args.types.now c.loop-r.r-index 0))) c.args.p) c.descriptor.ensures (subst (λ k. Gives v c.guard.new.b (guarded m c.descriptor.result k) c.args.p) c.level.ensures (c.in_ok-guard.ensures v m h))) g)

pub returns : goal.returns
returns c = λ program here s v m g. (c.loop-r.invariant program here s _ (guarding_end program here c.args.types.now c.loop-r.r-index _ _ c.loop-r-test.false)).by v m g
