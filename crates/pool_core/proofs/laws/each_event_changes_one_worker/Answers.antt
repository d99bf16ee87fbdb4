use Rattle.pool_core.proofs.Changes.{others_stay, finishes_own}
use Rattle.pool_core.proofs.laws.each_event_changes_one_worker.Goals as goal

pub returns-clause-others : goal.returns-clause-others
returns-clause-others c P s i j e ne = others_stay P s i j e ne

pub returns-clause-finished : goal.returns-clause-finished
returns-clause-finished c P s i e w v at can after = finishes_own P s i e w v at can after
