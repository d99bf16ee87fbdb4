-- What an answer says of the meaning and of the sink.
use Rattle.std.specs.Prelude.{◌≡◌, List, [], ◌++◌, ℕ}
use Rattle.run_laws.specs.Runs.{Outcome, Ended, Trapped, Going, output}
use Rattle.ob_types.specs.Store.{Trap, Kind}
use Rattle.eval_store.specs.declared.stop.Stop.{Stop}
use Rattle.eval_store.specs.declared.stop.Stop.TheVariants as stop
use Rattle.ob_eval.specs.declared.answer.Eval.{Eval}
use Rattle.ob_eval.specs.declared.answer.Eval.TheVariants as answer
use Rattle.ob_eval.specs.declared.machine.Machine.{Machine}

-- how the meaning comes out, and that the sink took all of its output; after a fault of the sink or want of memory, that it took a front of it
abbrev pub Evaluated : Eval → Outcome Trap → (List ℕ → Type 0) → (List ℕ → Type 0) → Type 0
Evaluated answer.Ended outcome all front = (out : List ℕ) × (outcome ≡ Ended out) × all out
Evaluated (answer.Trapped kind f) outcome all front = (out : List ℕ) × (outcome ≡ Trapped (Kind kind f) out) × all out
Evaluated answer.Going outcome all front = (out : List ℕ) × (outcome ≡ Going out) × all out
Evaluated answer.WriteFault outcome all front = front (output outcome)
Evaluated answer.Memory outcome all front = front (output outcome)

-- the answer for a stop
abbrev pub stop_answer : Stop → Eval
stop_answer (stop.Trapped kind f) = answer.Trapped kind f
stop_answer stop.TurnsSpent = answer.Going
stop_answer stop.NoSense = answer.Memory
stop_answer stop.NoMemory = answer.Memory

-- an answer, once all was written; or a fault of the sink
abbrev pub Finished : Eval → Eval → Type 0 → Type 0 → Type 0
Finished given answer.WriteFault all front = front
Finished given result all front = (result ≡ given) × all

-- nothing is written yet
abbrev pub silent : Machine → Machine
silent m = record m { world = record m.world { out = [] } }

-- a front of what was written is gone, and was taken
pub record Drained (taken : List ℕ → Type 0) (old new : Machine) : Type 0 where
  pub front : List ℕ
  pub took : taken front
  pub shown : old ≡ record new { world = record new.world { out = front ++ new.world.out } }
