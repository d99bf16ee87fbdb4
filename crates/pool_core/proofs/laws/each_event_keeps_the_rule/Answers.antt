use Rattle.pool_core.proofs.Law.{keeps}
use Rattle.pool_core.proofs.laws.each_event_keeps_the_rule.Goals as goal

pub returns : goal.returns
returns c P whole s i e tree kept can = keeps P tree whole s i e kept can
