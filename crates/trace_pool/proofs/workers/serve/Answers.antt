use Rattle.std.proofs.Common.{subst}
use Rattle.pool_core.specs.Fits.{FitsRun}
use Rattle.trace_pool.proofs.workers.serve.Goals as goal

pub perform-requires-clause-trace : goal.perform-requires-clause-trace
perform-requires-clause-trace g c κs within = (c.look.ensures.task _ _ c.in-Task.is).0

pub perform-requires-clause-hint : goal.perform-requires-clause-hint
perform-requires-clause-hint g c κs within = subst (λ (w : g.row.W.Denot). FitsRun (g.W.Work.parents w) (g.W.Work.is_hint w c.in-Task.trace) c.in-Task.trace c.in-Task.hint) c.requires.work.0 (c.look.ensures.task _ _ c.in-Task.is).2
