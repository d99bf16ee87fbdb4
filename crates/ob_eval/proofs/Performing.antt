-- Statements: what stops them, and what is left behind those that were done at once.
use Rattle.std.proofs.Common.{◌≡◌, ℕ, List, [], ◌∷◌, refl, sym, ap, ◌∙◌}
use Rattle.run_laws.specs.Turns.{State, Gives, after}
use Rattle.ob_types.specs.Store.{Store}
use Rattle.ob_types.specs.Statements.{Deed}
use Rattle.ob_types.specs.Meaning.{effect, at_most}
use Rattle.ob_types.specs.declared.statements.Stmt.{Stmt}
use Rattle.ob_types.specs.declared.program.Program.{Program}
use Rattle.eval_store.specs.Did.{Stopped}
use Rattle.eval_store.specs.declared.stop.Stop.{Stop}
use Rattle.eval_at_once.specs.Here.{here_of}
use Rattle.eval_at_once.proofs.Going.{stops_first}
use Rattle.eval_tasks.specs.Tasks.{performs, performs_all, rest}
use Rattle.eval_tasks.proofs.Statements.{p_cons}
use Rattle.ob_eval.specs.Parts.{body_of}
use Rattle.ob_eval.specs.Steps.{left, before}
use Rattle.ob_eval.specs.declared.machine.Machine.{Machine}

module _ (p : Program) (m : Machine) where
  abbrev K : Unit {0} → Deed
  K u = rest p m.tasks m.active m.values

  abbrev does : Stmt → Deed
  does s = effect p (at_most p m.active.fuel) (here_of m.active) m.active.fuel s

  -- some statements were done, or one of them stopped

  pub all_stop : (all : List Stmt) (stop : Stop) (out : List ℕ) → Stopped (body_of p m.active all m.world) stop out → Stopped (before p (performs_all p all) m) stop out
  all_stop all stop out h = stops_first (body_of p m.active all m.world) K (before p (performs_all p all) m) stop out refl h

  pub some_left : (all more : List Stmt) (t : State Store) → body_of p m.active all m.world ≡ body_of p m.active more t → before p (performs_all p more) (record m { world = t }) ≡ before p (performs_all p all) m
  some_left all more t h = sym (ap (λ e. after e K) h)

  pub none_left : (all more : List Stmt) (t : State Store) → more ≡ [] → body_of p m.active all m.world ≡ body_of p m.active more t → left p (record m { world = t }) ≡ before p (performs_all p all) m
  none_left all more t e h = sym (ap (λ l. before p (performs_all p l) (record m { world = t })) e) ∙ some_left all more t h

  -- one statement

  pub one_stops : (s : Stmt) (stop : Stop) (out : List ℕ) → Stopped (does s m.world) stop out → Stopped (before p (performs p s) m) stop out
  one_stops s stop out h = stops_first (does s m.world) K (before p (performs p s) m) stop out refl h

  pub one_done : (s : Stmt) (t : State Store) → does s m.world ≡ Gives tt t → left p (record m { world = t }) ≡ before p (performs p s) m
  one_done s t h = sym (ap (λ e. after e K) h)

  -- the first of several
  pub first_of : (s : Stmt) (more : List Stmt) → before p (λ k. performs p s (performs_all p more k)) m ≡ before p (performs_all p (s ∷ more)) m
  first_of s more = sym (p_cons p (rest p m.tasks) m.active m.values m.world s more)
