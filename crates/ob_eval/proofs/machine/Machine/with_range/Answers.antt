use Rattle.std.proofs.Common.{ℕ, List, refl, sym, ap, subst, ◌∙◌}
use Rattle.std.specs.Prelude.{bit_or}
use Rattle.run_laws.specs.Turns.{◌>>=◌}
use Rattle.ob_types.specs.Store.{Bits, Value, Handed, unless, bits_in}
use Rattle.ob_types.specs.Operators.{inside, elements}
use Rattle.ob_types.specs.Statements.{Deed}
use Rattle.eval_store.specs.Did.{Stopped}
use Rattle.eval_tasks.specs.declared.task.Act.TheVariants.{WithRange}
use Rattle.eval_tasks.specs.Tasks.{pushes, acts, rest}
use Rattle.ob_eval.specs.Steps.{before, with_handed}
use Rattle.ob_eval.specs.declared.machine.Machine.{Machine}
use Rattle.ob_eval.proofs.Acting.{low_stops}
use Rattle.ob_eval.proofs.Steps.{number_stops}
use Rattle.ob_eval.proofs.machine.Machine.with_range.Goals as goal

pub returns-in-Err-take_number-clause-went : goal.returns-in-Err-take_number-clause-went
returns-in-Err-take_number-clause-went c =
    let p = c.args.laid.now in
    let m = c.take_cell.new.self in
    let S : Machine → Type 0 = λ z. Stopped (before p (acts p WithRange) z) c.in-Err-take_number.stop c.take_number.new.self.world.out in
    let G : ℕ → ℕ → List Handed → Deed = λ b low more. bits_in c.in-Ok.e >>= λ high. unless m.active.procedure 7 (inside high 64) >>= λ _. pushes (rest p m.tasks) m.active more (Bits (bit_or b (elements low high))) in
    subst S (sym c.in-Ok.ensures) (low_stops m c.take_number.new.self G c.in-Err-take_number.stop c.in-Err-take_number.ensures)

pub returns-in-Err-take_number-2-clause-went : goal.returns-in-Err-take_number-2-clause-went
returns-in-Err-take_number-2-clause-went c =
    let p = c.args.laid.now in
    let m = c.take_number.new.self in
    let low = c.in-Ok-take_number.low in
    let out = c.take_number-in-Ok-take_number.new.self.world.out in
    let S : Machine → Type 0 = λ z. Stopped (before p (acts p WithRange) z) c.in-Err-take_number-2.stop out in
    let N : ℕ → List Handed → Deed = λ b more. bits_in c.in-Ok.e >>= λ high. unless m.active.procedure 7 (inside high 64) >>= λ _. pushes (rest p m.tasks) m.active more (Bits (bit_or b (elements low high))) in
    subst S (sym (c.in-Ok.ensures ∙ ap (with_handed (Value c.in-Ok.e)) c.in-Ok-take_number.ensures)) (number_stops m c.take_number-in-Ok-take_number.new.self _ N c.in-Err-take_number-2.stop c.in-Err-take_number-2.ensures (λ c more t. refl))
