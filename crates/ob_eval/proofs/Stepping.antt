-- One step among others: what stops it, and what is left behind it.
use Rattle.std.proofs.Common.{◌≡◌, ◌<◌, ◌≤◌, List, [], ◌∷◌, ℕ, Ok, sym, ap, subst, ◌∙◌}
use Rattle.run_laws.specs.Turns.{Gives}
use Rattle.ob_types.specs.declared.program.Program.{Program}
use Rattle.eval_store.specs.Did.{Stopped, Sensible}
use Rattle.eval_store.specs.declared.stop.Stop.{Stop}
use Rattle.eval_tasks.specs.Tasks.{does, rest}
use Rattle.eval_tasks.specs.Weights.{weight, weights}
use Rattle.eval_tasks.specs.declared.task.Task.{Task}
use Rattle.ob_eval.specs.Steps.{left, before, Falls}
use Rattle.ob_eval.specs.declared.machine.Machine.{Machine}
use Rattle.ob_eval.proofs.LoopSteps.{stopped_as}

module _ (p : Program) (first m : Machine) (same : left p first ≡ left p m) where
  -- nothing is left to do
  pub all_done : m.tasks ≡ [] → left p first ≡ Gives tt m.world
  all_done e = same ∙ ap (λ l. rest p l m.active m.values m.world) e

  module _ (t : Task) (ts : List Task) (is : m.tasks ≡ t ∷ ts) where
    abbrev behind : Machine
    behind = record m { tasks = ts }

    next : left p first ≡ before p (does p t) behind
    next = same ∙ ap (λ l. rest p l m.active m.values m.world) is

    pub step_sensible : Sensible (left p first) → Sensible (before p (does p t) behind)
    step_sensible h = subst Sensible next h

    pub step_goes : (m1 : Machine) → left p m1 ≡ before p (does p t) behind → left p first ≡ left p m1
    step_goes m1 h = next ∙ sym h

    pub step_stops : (stop : Stop) (out : List ℕ) → Stopped (before p (does p t) behind) stop out → Stopped (left p first) stop out
    step_stops stop out h = stopped_as (left p first) (before p (does p t) behind) stop out next h

    pub step_lighter : (m1 : Machine) → Falls (weight t) behind (Ok tt) m1 → m.world.turns ≤ m1.world.turns → weights m1.tasks < weights m.tasks
    step_lighter m1 f h = let W : List Task → Type 0 = λ l. weights m1.tasks < weights l in subst W (sym is) (f.1 h)
