-- The bodies of all modules, the last ones first.
use Rattle.std.proofs.Common.{◌≡◌, ◌<◌, ◌≤◌, ℕ, ◌+◌, List, [], ◌∷◌, map, length, drop, get_or, sym, ap, subst, ◌∙◌}
use Rattle.run_laws.specs.Turns.{State, Ending}
use Rattle.ob_types.specs.Store.{Cell, Bits, Store, Trap, Handed}
use Rattle.ob_types.specs.Meaning.{bodies, effects_of, at_most, procedure_of, texts_of, zeros, start}
use Rattle.ob_types.specs.declared.statements.Stmt.{Stmt}
use Rattle.ob_types.specs.declared.program.Module.{Module}
use Rattle.ob_types.specs.declared.program.Program.{Program}
use Rattle.eval_store.proofs.Endings.{same}
use Rattle.eval_layouts.specs.First.{string_of}
use Rattle.eval_at_once.specs.declared.active.Active.{Active}
use Rattle.eval_at_once.proofs.Going.{at_item, no_item}
use Rattle.eval_tasks.specs.Tasks.{Next, performs_all, resumes, does, rest}
use Rattle.eval_tasks.specs.declared.task.Task.{Task}
use Rattle.ob_eval.specs.Starting.{active_of, body_before, DoBodies}

-- a body, and the call in which it is done
pub body_added : (p : Program) (n g : ℕ) (old mid new : List Task) (first then : Task) (b : List Stmt) (a : Active) → mid ≡ first ∷ old → new ≡ then ∷ mid → does p first ≡ performs_all p b → does p then ≡ resumes p a → b ≡ (procedure_of p g).body → a ≡ active_of n g → (x : Active) (vs : List Handed) (s : State Store) → rest p new x vs s ≡ body_before p n g (rest p old) vs s
body_added p n g old mid new first then b a e1 e2 d1 d2 eb ea x vs s =
    let T : List Task → List Task = λ l. then ∷ l in
    let F : (Next → Next) → Ending Store Trap (Unit {0}) = λ f. f (does p first (rest p old)) x vs s in
    let G : (Next → Next) → Ending Store Trap (Unit {0}) = λ f. f (rest p old) a vs s in
    let B : List Stmt → Ending Store Trap (Unit {0}) = λ l. performs_all p l (rest p old) a vs s in
    let A : Active → Ending Store Trap (Unit {0}) = λ z. performs_all p (procedure_of p g).body (rest p old) z vs s in
    ap (λ l. rest p l x vs s) (e2 ∙ ap T e1) ∙ ap F d2 ∙ ap G d1 ∙ ap B eb ∙ ap A ea

-- one body more
pub one_more : (p : Program) (n : ℕ) (old new : List Task) (m : Module) (ms : List Module) → ((x : Active) (vs : List Handed) (s : State Store) → rest p new x vs s ≡ body_before p n m.body (rest p old) vs s) → DoBodies p n old ms → DoBodies p n new (m ∷ ms)
one_more p n old new m ms first others x vs s = first x vs s ∙ same (effects_of p (at_most p n) (record { procedure = m.body; frame = 0; arguments = [] }) n (procedure_of p m.body).body s) (λ _ t. others (active_of n m.body) vs t)

pub none_yet : (p : Program) (n : ℕ) (ms : List Module) (i : ℕ) → length ms ≤ i → DoBodies p n [] (drop i ms)
none_yet p n ms i h x vs s = ap (λ l. bodies p n l s) (sym (no_item ms i h))

pub another : (p : Program) (n : ℕ) (old new : List Task) (ms : List Module) (i : ℕ) (m : Module) → i < length ms → m ≡ get_or ms i m → ((x : Active) (vs : List Handed) (s : State Store) → rest p new x vs s ≡ body_before p n m.body (rest p old) vs s) → DoBodies p n old (drop (i + 1) ms) → DoBodies p n new (drop i ms)
another p n old new ms i m l is first others = subst (DoBodies p n new) (sym (at_item ms i m l is)) (one_more p n old new m (drop (i + 1) ms) first others)

-- the world before the first body
pub begins : (p : Program) (n : ℕ) (input bytes : List ℕ) (globals strings : List (List Cell)) (tasks : List Task) (x : Active) (vs : List Handed) (w : State Store) → DoBodies p n tasks p.modules → w ≡ record { store = record { globals = globals; frames = []; heap = []; tags = []; strings = strings; input = bytes }; out = []; turns = n } → globals ≡ (Bits 0 ∷ []) ∷ map (λ m. zeros p m.variables) p.modules → strings ≡ map string_of (texts_of p.procedures) → bytes ≡ input → rest p tasks x vs w ≡ bodies p n p.modules (record { store = start p input; out = []; turns = n })
begins p n input bytes globals strings tasks x vs w h is gs ss bs =
    let whole : List (List Cell) → List (List Cell) → List ℕ → State Store = λ g t b. record { store = record { globals = g; frames = []; heap = []; tags = []; strings = t; input = b }; out = []; turns = n } in
    h x vs w ∙ ap (λ w. bodies p n p.modules w) (is ∙ ap (λ g. whole g strings bytes) gs ∙ ap (λ t. whole ((Bits 0 ∷ []) ∷ map (λ m. zeros p m.variables) p.modules) t bytes) ss ∙ ap (λ b. whole ((Bits 0 ∷ []) ∷ map (λ m. zeros p m.variables) p.modules) (map string_of (texts_of p.procedures)) b) bs)
