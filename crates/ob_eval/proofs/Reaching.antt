-- Calls and their arguments, as tasks.
use Rattle.std.proofs.Common.{◌≡◌, ℕ, Vec, Global, List, ◌∷◌, length, Bool, Option, sym, ap, ◌∙◌}
use Rattle.run_laws.specs.Turns.{after}
use Rattle.ob_types.specs.Store.{Cell, Act}
use Rattle.ob_types.specs.Meaning.{kind_in, length_of_kind, record_of_kind, at_most}
use Rattle.ob_types.specs.declared.tree.Expr.{Expr}
use Rattle.ob_types.specs.declared.tree.Designator.{Designator}
use Rattle.ob_types.specs.declared.tree.Argument.{Argument, ByValue, ByPlace, ByRecord, ByOpen}
use Rattle.ob_types.specs.declared.tree.Call.{Direct, Indirect}
use Rattle.ob_types.specs.declared.program.Program.{Program}
use Rattle.eval_at_once.specs.Here.{here_of}
use Rattle.eval_at_once.proofs.Rows.{called_direct, called_indirect}
use Rattle.eval_tasks.specs.declared.task.Act.TheVariants.{Fetch, AsSpan, AsPlace, AsRecord, Invoke, InvokeValue}
use Rattle.eval_tasks.specs.Tasks.{results, evaluates, locates, gathers, reaches, acts, rest}
use Rattle.eval_tasks.proofs.Calls.{g_value, g_place, g_record, g_open, c_direct, c_indirect}
use Rattle.eval_tasks.proofs.Turned.{turned, back, left}
use Rattle.ob_eval.specs.Steps.{before}
use Rattle.ob_eval.specs.declared.machine.Machine.{Machine}

pub direct_is : (p : Program) (g : ℕ) (xs : Vec Argument Global) (wanted : Bool) (m : Machine) → before p (λ k. gathers p xs.items (acts p (Invoke g (length xs.items) wanted) k)) m ≡ before p (reaches p (Direct g xs) wanted) m
direct_is p g xs wanted m =
    sym (ap (λ (a : Act (Option Cell)). after (a m.world) (results wanted (rest p m.tasks) m.active m.values)) (called_direct p (at_most p m.active.fuel) (here_of m.active) g xs)
    ∙ c_direct p (rest p m.tasks) m.active m.values m.world back left g wanted xs.items)

pub indirect_is : (p : Program) (d : Designator) (xs : Vec Argument Global) (wanted : Bool) (m : Machine) → before p (λ k. locates p d (acts p Fetch (gathers p xs.items (acts p (InvokeValue (length xs.items) wanted) k)))) m ≡ before p (reaches p (Indirect d xs) wanted) m
indirect_is p d xs wanted m =
    sym (ap (λ (a : Act (Option Cell)). after (a m.world) (results wanted (rest p m.tasks) m.active m.values)) (called_indirect p (at_most p m.active.fuel) (here_of m.active) d xs)
    ∙ c_indirect p (rest p m.tasks) m.active m.values m.world back left d wanted xs.items)

pub by_value_is : (p : Program) (e : Expr) (xs : List Argument) (m : Machine) → before p (λ k. evaluates p e (gathers p xs k)) m ≡ before p (gathers p (ByValue e ∷ xs)) m
by_value_is p e xs m = sym (g_value p (rest p m.tasks) m.active m.values m.world turned e xs)

pub by_place_is : (p : Program) (d : Designator) (xs : List Argument) (m : Machine) → before p (λ k. locates p d (acts p AsPlace (gathers p xs k))) m ≡ before p (gathers p (ByPlace d ∷ xs)) m
by_place_is p d xs m = sym (g_place p (rest p m.tasks) m.active m.values m.world turned d xs)

pub by_record_is : (p : Program) (d : Designator) (xs : List Argument) (m : Machine) → before p (λ k. locates p d (acts p (AsRecord (record_of_kind (kind_in d))) (gathers p xs k))) m ≡ before p (gathers p (ByRecord d ∷ xs)) m
by_record_is p d xs m = sym (g_record p (rest p m.tasks) m.active m.values m.world turned d xs)

pub by_open_is : (p : Program) (d : Designator) (xs : List Argument) (m : Machine) → before p (λ k. locates p d (acts p (AsSpan (length_of_kind (kind_in d))) (gathers p xs k))) m ≡ before p (gathers p (ByOpen d ∷ xs)) m
by_open_is p d xs m = sym (g_open p (rest p m.tasks) m.active m.values m.world turned d xs)
