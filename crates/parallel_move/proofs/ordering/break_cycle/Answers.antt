use Rattle.std.proofs.Common.{refl}
use Rattle.std.proofs.lemmas.Result.{on_ok_weaker}
use Rattle.parallel_move.proofs.Along.{both, breaks, breaks_made}
use Rattle.parallel_move.proofs.ordering.break_cycle.Goals as goal

pub returns-clause-made : goal.returns-clause-made
returns-clause-made c = on_ok_weaker c.make_along.result (λ h. breaks_made c.args.i c.args.entries.now c.save.new.entries c.make.new.entries c.make_along.new.entries c.requires c.in_ok-save.ensures.entries c.in_ok-make.ensures.entries h) c.make_along.ensures.made

pub returns-clause-steps : goal.returns-clause-steps
returns-clause-steps c = both c.make_along.result (λ h k. breaks c.args.i c.args.entries.now c.save.new.entries c.make.new.entries c.make_along.new.entries c.args.steps.now.items c.save.new.steps.items c.make.new.steps.items c.make_along.new.steps.items _ _ c.requires c.in_ok-save.ensures.entries c.in_ok-save.ensures.steps c.in_ok-make.ensures.entries c.in_ok-make.ensures.steps refl refl h k) c.make_along.ensures.made c.make_along.ensures.steps
