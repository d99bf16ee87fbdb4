use Rattle.std.proofs.Common.{subst, sym, ◌∙◌}
use Rattle.check_bodies.specs.Strings.{EachAlike}
use Rattle.check_bodies.proofs.Strings.{all_alike}
use Rattle.check_bodies.proofs.names.are_alike.Goals as goal

pub loop-declared-init : goal.loop-declared-init
loop-declared-init c = λ h. subst EachAlike (c.into_iter-declared-iterator.ensures.into_iter_gives ∙ c.values-declared-items.ensures.rest) h

pub loop-declared-preserved : goal.loop-declared-preserved
loop-declared-preserved c = λ rest. c.loop-declared.invariant (subst EachAlike (sym c.in-Some.ensures.steps) (c.is_alike.ensures c.if-not-is_alike.false, rest))

pub returns : goal.returns
returns c = λ e. all_alike c.args.names.now (c.loop-declared.invariant (subst EachAlike (sym c.in-None.ensures.steps.0) tt))
