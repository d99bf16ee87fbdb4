use Rattle.pool_core.proofs.Law.{waits}
use Rattle.pool_core.proofs.laws.the_lowest_unfinished_waits.Goals as goal

pub returns : goal.returns
returns c P whole s t tree kept none unset t_in not_done lower = waits P tree whole kept.0 s kept.1 none unset t t_in not_done lower
