-- Steps that call: from the values on the stack to the body.
use Rattle.std.proofs.Common.{◌≡◌, ℕ, ◌-◌, List, take, drop, Bool, Ok, Err, sym, ap, subst, ◌∙◌}
use Rattle.std.specs.Prelude.{reverse}
use Rattle.run_laws.specs.Turns.{State, Ending, Gives, after, ◌>>=◌}
use Rattle.ob_types.specs.Store.{Cell, Store, Trap, Handed, code_in}
use Rattle.ob_types.specs.Statements.{Deed}
use Rattle.ob_types.specs.Meaning.{procedure_of, effects_of, at_most}
use Rattle.ob_types.specs.declared.statements.Stmt.{Stmt}
use Rattle.ob_types.specs.declared.program.Program.{Program}
use Rattle.eval_store.specs.Did.{Stopped}
use Rattle.eval_store.specs.declared.stop.Stop.{Stop}
use Rattle.eval_store.proofs.Endings.{same}
use Rattle.eval_at_once.specs.Here.{here_of}
use Rattle.eval_at_once.specs.declared.active.Active.{Active}
use Rattle.eval_at_once.proofs.Going.{stops_first}
use Rattle.eval_tasks.specs.declared.task.Act.TheVariants.{Invoke, InvokeValue}
use Rattle.eval_tasks.specs.Tasks.{popped, results, performs_all, acts, rest}
use Rattle.ob_eval.specs.Calling.{answers, calls_with, enters}
use Rattle.ob_eval.specs.Steps.{before, TookCell}
use Rattle.ob_eval.specs.declared.machine.Machine.{Machine}

-- a call's body, with what is left behind it
pub entered_is : (p : Program) (g : ℕ) (hs : List Handed) (frame : ℕ) (wanted : Bool) (old m1 : Machine) (next : Active) → next ≡ record { fuel = old.active.fuel - 1; procedure = g; frame = frame; arguments = hs } → m1 ≡ record old { active = next; tasks = m1.tasks } → ((x : Active) (vs : List Handed) (s : State Store) → rest p m1.tasks x vs s ≡ answers p old.active (procedure_of p g).answer wanted (rest p old.tasks) x vs s) → before p (performs_all p (procedure_of p g).body) m1 ≡ before p (enters p g hs frame wanted) old
entered_is p g hs frame wanted old m1 next is e follows =
    let B : List Stmt = (procedure_of p g).body in
    let G : Machine → Ending Store Trap (Unit {0}) = λ z. performs_all p B (rest p m1.tasks) z.active z.values z.world in
    let X : Active → Ending Store Trap (Unit {0}) = λ x. performs_all p B (answers p old.active (procedure_of p g).answer wanted (rest p old.tasks)) x old.values old.world in
    ap G e
    ∙ same (effects_of p (at_most p next.fuel) (here_of next) next.fuel B old.world) (λ _ t. follows next old.values t)
    ∙ ap X is

-- a call of a procedure with the last values
pub invoke_is : (p : Program) (g n : ℕ) (wanted : Bool) (old m1 : Machine) (args : List Handed) → args ≡ reverse (take n old.values) → m1 ≡ record old { values = drop n old.values } → before p (calls_with p g args wanted) m1 ≡ before p (acts p (Invoke g n wanted)) old
invoke_is p g n wanted old m1 args a e =
    let L : List Handed → Ending Store Trap (Unit {0}) = λ l. before p (calls_with p g l wanted) m1 in
    let M : Machine → Ending Store Trap (Unit {0}) = λ z. before p (calls_with p g (reverse (take n old.values)) wanted) z in
    ap L a ∙ ap M e

-- a call of the procedure value behind them
module _ (p : Program) (n : ℕ) (wanted : Bool) (old m1 : Machine) (e : m1 ≡ record old { values = drop n old.values }) where
  abbrev F : List Handed → Machine → Ending Store Trap (Unit {0})
  F l z = popped z.values (λ c more. code_in z.active.procedure c >>= λ g. at_most p z.active.fuel g l >>= results wanted (rest p z.tasks) z.active more) z.world

  abbrev behind : List Handed
  behind = reverse (take n old.values)

  starts : before p (acts p (InvokeValue n wanted)) old ≡ F behind m1
  starts = ap (F behind) (sym e)

  pub no_value : (m2 : Machine) (stop : Stop) → TookCell m1 (Err stop) m2 → Stopped (before p (acts p (InvokeValue n wanted)) old) stop m2.world.out
  no_value m2 stop h =
      let P : Stop → Type 0 = λ t. Stopped (before p (acts p (InvokeValue n wanted)) old) t m2.world.out in
      subst P (sym h.0) (starts ∙ h.1 (λ c more. code_in m1.active.procedure c >>= λ g. at_most p m1.active.fuel g behind >>= results wanted (rest p m1.tasks) m1.active more))

  module _ (m2 : Machine) (c : Cell) (took : TookCell m1 (Ok c) m2) where
    abbrev C : List Handed → ℕ → Deed
    C l g = at_most p m2.active.fuel g l >>= results wanted (rest p m2.tasks) m2.active m2.values

    tested : before p (acts p (InvokeValue n wanted)) old ≡ after (code_in m2.active.procedure c m2.world) (C behind)
    tested = starts ∙ ap (F behind) took

    pub no_code : (stop : Stop) (out : List ℕ) → Stopped (code_in m2.active.procedure c m2.world) stop out → Stopped (before p (acts p (InvokeValue n wanted)) old) stop out
    no_code stop out h = stops_first (code_in m2.active.procedure c m2.world) (C behind) (before p (acts p (InvokeValue n wanted)) old) stop out tested h

    pub value_is : (g : ℕ) (args : List Handed) → args ≡ behind → code_in m2.active.procedure c m2.world ≡ Gives g m2.world → before p (calls_with p g args wanted) m2 ≡ before p (acts p (InvokeValue n wanted)) old
    value_is g args a code =
        let L : List Handed → Ending Store Trap (Unit {0}) = λ l. before p (calls_with p g l wanted) m2 in
        ap L a ∙ sym (tested ∙ ap (λ e. after e (C behind)) code)
