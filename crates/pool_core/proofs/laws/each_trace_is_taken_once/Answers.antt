use Rattle.std.proofs.Common.{◌≡◌, ◌+◌, suc, ap, arith}
use Rattle.pool_core.specs.Sums.{hit, times}
use Rattle.pool_core.specs.Rule.{having}
use Rattle.pool_core.proofs.Sums.{total-add}
use Rattle.pool_core.proofs.Once.{once, is_trace}
use Rattle.pool_core.proofs.Law.{set_once}
use Rattle.pool_core.proofs.laws.each_trace_is_taken_once.Goals as goal

pub returns-clause-shown : goal.returns-clause-shown
returns-clause-shown c P whole s t tree kept = let e : t + 1 ≡ suc t = omega arith in omega (arith, ap (λ k. times k s.cells) e, (once P tree whole kept.0 s kept.1 t).0)

pub returns-clause-traces : goal.returns-clause-traces
returns-clause-traces c P whole s t tree kept some_shown = let e : t + 1 ≡ suc t = omega arith in is_trace P tree whole kept.0 s kept.1 t (omega (arith, ap (λ k. times k s.cells) e))

pub returns-clause-taken : goal.returns-clause-taken
returns-clause-taken c P whole s t tree kept = omega (arith, (once P tree whole kept.0 s kept.1 t).1, total-add (λ w. having (hit t) w.stage) (λ w. times t w.finished) s.workers)

pub returns-clause-finished : goal.returns-clause-finished
returns-clause-finished c P whole s t tree kept = set_once P tree whole kept.0 s kept.1 t
