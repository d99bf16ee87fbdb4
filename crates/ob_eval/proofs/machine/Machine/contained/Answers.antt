use Rattle.std.proofs.Common.{ℕ, List, refl, sym, subst}
use Rattle.run_laws.specs.Turns.{◌>>=◌}
use Rattle.wrapping_numbers.specs.Sets.{has}
use Rattle.ob_types.specs.Store.{Bits, Handed, bits_in}
use Rattle.ob_types.specs.Operators.{truth}
use Rattle.ob_types.specs.Statements.{Deed}
use Rattle.eval_store.specs.Did.{Stopped}
use Rattle.eval_tasks.specs.declared.task.Act.TheVariants.{Contained}
use Rattle.eval_tasks.specs.Tasks.{pushes, acts, rest}
use Rattle.ob_eval.specs.Steps.{before}
use Rattle.ob_eval.specs.declared.machine.Machine.{Machine}
use Rattle.ob_eval.proofs.Steps.{number_stops}
use Rattle.ob_eval.proofs.machine.Machine.contained.Goals as goal

pub returns-in-Err-take_number-clause-went : goal.returns-in-Err-take_number-clause-went
returns-in-Err-take_number-clause-went c =
    let p = c.args.laid.now in
    let m = c.take_cell.new.self in
    let S : Machine → Type 0 = λ z. Stopped (before p (acts p Contained) z) c.in-Err-take_number.stop c.take_number.new.self.world.out in
    let N : ℕ → List Handed → Deed = λ n more. bits_in c.in-Ok.d >>= λ b. pushes (rest p m.tasks) m.active more (Bits (truth (has b n))) in
    subst S (sym c.in-Ok.ensures) (number_stops m c.take_number.new.self _ N c.in-Err-take_number.stop c.in-Err-take_number.ensures (λ c more t. refl))
