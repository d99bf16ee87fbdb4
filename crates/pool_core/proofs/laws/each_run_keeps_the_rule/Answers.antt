use Rattle.std.proofs.Common.{◌*◌, [], replicate}
use Rattle.pool_core.specs.Runs.{opening, fresh}
use Rattle.pool_core.specs.Machine.{one_share}
use Rattle.pool_core.proofs.Law.{runs_keep}
use Rattle.pool_core.proofs.Opens.{opens_with}
use Rattle.pool_core.proofs.laws.each_run_keeps_the_rule.Goals as goal

pub returns : goal.returns
returns c P n es tree allowed = runs_keep P tree (n * one_share) es (opening P (replicate n (fresh one_share))) ([], opens_with P n) allowed
