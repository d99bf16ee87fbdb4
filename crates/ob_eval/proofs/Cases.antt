-- IF and CASE: what stops them, and what is left where a part is chosen.
use Rattle.std.proofs.Common.{◌≡◌, ℕ, List, ◌∷◌, Vec, Global, Bool, true, false, Option, Err, refl, sym, ap}
use Rattle.std.specs.Prelude.{if◌then◌else◌}
use Rattle.run_laws.specs.Turns.{Gives, Fails, after, ◌>>=◌, give}
use Rattle.ob_types.specs.Store.{Cell, Kind, Act, Handed, Value, bits_in, unless}
use Rattle.ob_types.specs.Expressions.{pointer_type, parameter_type}
use Rattle.ob_types.specs.Statements.{Deed, skip, otherwise}
use Rattle.ob_types.specs.Meaning.{at_most}
use Rattle.ob_types.specs.declared.statements.Stmt.{Stmt, If}
use Rattle.ob_types.specs.declared.statements.Branch.{Branch}
use Rattle.ob_types.specs.declared.statements.CasePart.{CasePart}
use Rattle.ob_types.specs.declared.statements.TypePart.{TypePart}
use Rattle.ob_types.specs.declared.program.Program.{Program}
use Rattle.eval_store.specs.Did.{Stopped}
use Rattle.eval_store.specs.declared.stop.Stop.{Stop}
use Rattle.eval_store.proofs.Endings.{assoc}
use Rattle.eval_at_once.specs.Here.{here_of}
use Rattle.eval_at_once.specs.Lists.{case_parts_by, type_parts_by}
use Rattle.eval_at_once.proofs.Going.{stops_first}
use Rattle.eval_at_once.proofs.Rows.{effect_if}
use Rattle.eval_tasks.specs.declared.task.Branching.TheVariants.{Try}
use Rattle.eval_tasks.specs.declared.task.Typing.TheVariants.{OfPointer, OfParameter}
use Rattle.eval_tasks.specs.Tasks.{tries, performs, performs_all, otherwise_all, branching, cases, typing, rest}
use Rattle.eval_tasks.proofs.Statements.{p_if, if_chosen, case_chosen, type_chosen}
use Rattle.ob_eval.specs.Parts.{body_of, if_goes, types_go}
use Rattle.ob_eval.specs.Steps.{left, before, TookNumber, with_number, with_handed}
use Rattle.ob_eval.specs.declared.machine.Machine.{Machine}
use Rattle.ob_eval.proofs.Steps.{number_stops}

module _ (p : Program) (m : Machine) where
  abbrev K : Unit {0} → Deed
  K u = rest p m.tasks m.active m.values

  -- IF

  pub if_stops : (bs : List Branch) (other : List Stmt) (stop : Stop) (out : List ℕ) → Stopped (tries p m.active bs m.world) stop out → Stopped (before p (if_goes p bs other) m) stop out
  if_stops bs other stop out h =
      let F : Bool → Deed = λ done. if done then skip else body_of p m.active other in
      stops_first (otherwise (tries p m.active bs) (body_of p m.active other) m.world) K (before p (if_goes p bs other) m) stop out refl
      (stops_first (tries p m.active bs m.world) F (otherwise (tries p m.active bs) (body_of p m.active other) m.world) stop out refl h)

  pub if_body : (bs : List Branch) (other body : List Stmt) → tries p m.active bs m.world ≡ (body_of p m.active body >>= λ _. give true) m.world → before p (performs_all p body) m ≡ before p (if_goes p bs other) m
  if_body bs other body h = sym (if_chosen p (rest p m.tasks) m.active m.values m.world bs other body h)

  pub if_other : (bs : List Branch) (other : List Stmt) → tries p m.active bs m.world ≡ Gives false m.world → before p (performs_all p other) m ≡ before p (if_goes p bs other) m
  if_other bs other h = sym (ap (λ e. after (after e (λ done. if done then skip else body_of p m.active other)) K) h)

  pub if_asks : (bs : List Branch) (other : List Stmt) → before p (λ k. branching p Try bs (otherwise_all p other k)) m ≡ before p (if_goes p bs other) m
  if_asks bs other = sym (p_if p (rest p m.tasks) m.active m.values m.world bs other)

  pub if_is_performed : (bs : Vec Branch Global) (other : Vec Stmt Global) → before p (if_goes p bs.items other.items) m ≡ before p (performs p (If bs other)) m
  if_is_performed bs other = sym (ap (λ (d : Deed). after (d m.world) K) (effect_if p (at_most p m.active.fuel) (here_of m.active) m.active.fuel bs other))

  -- CASE on numbers

  abbrev parts_at : ℕ → List CasePart → Act Bool
  parts_at v ps = case_parts_by p (at_most p m.active.fuel) (here_of m.active) m.active.fuel v ps

  pub case_stops : (ps : List CasePart) (m1 : Machine) (stop : Stop) → TookNumber m (Err stop) m1 → Stopped (before p (cases p ps) m) stop m1.world.out
  case_stops ps m1 stop h =
      let F : ℕ → Deed = λ v. parts_at v ps >>= λ ok. unless m.active.procedure 6 ok in
      number_stops m m1 _ (λ v more t. after (F v t) (λ _. rest p m.tasks m.active more)) stop h (λ c more t. assoc (bits_in c t) F (λ _. rest p m.tasks m.active more))

  pub case_none : (ps : List CasePart) (v : ℕ) → parts_at v ps m.world ≡ Gives false m.world → before p (cases p ps) (with_number v m) ≡ Fails (Kind 6 m.active.procedure) m.world.out
  case_none ps v h = ap (λ e. after (after e (λ ok. unless m.active.procedure 6 ok)) K) h

  pub case_some : (ps : List CasePart) (v : ℕ) (body : List Stmt) → parts_at v ps m.world ≡ (body_of p m.active body >>= λ _. give true) m.world → before p (performs_all p body) m ≡ before p (cases p ps) (with_number v m)
  case_some ps v body h = sym (case_chosen p (rest p m.tasks) m.active m.values m.world v ps body h)

  -- CASE on types

  abbrev types_at : List TypePart → Option ℕ → Act Bool
  types_at ps t = type_parts_by p (at_most p m.active.fuel) (here_of m.active) m.active.fuel t ps

  abbrev T : List TypePart → Option ℕ → Deed
  T ps t = types_at ps t >>= λ _. skip

  pub pointer_stops : (ps : List TypePart) (c : Cell) (stop : Stop) (out : List ℕ) → Stopped (pointer_type (give c) m.world) stop out → Stopped (before p (typing p OfPointer ps) (record m { values = Value c ∷ m.values })) stop out
  pointer_stops ps c stop out h =
      stops_first (after (pointer_type (give c) m.world) (T ps)) K (before p (typing p OfPointer ps) (record m { values = Value c ∷ m.values })) stop out refl
      (stops_first (pointer_type (give c) m.world) (T ps) (after (pointer_type (give c) m.world) (T ps)) stop out refl h)

  pub pointer_goes : (ps : List TypePart) (c : Cell) (t : Option ℕ) → pointer_type (give c) m.world ≡ Gives t m.world → before p (types_go p t ps) m ≡ before p (typing p OfPointer ps) (record m { values = Value c ∷ m.values })
  pointer_goes ps c t h = sym (ap (λ e. after (after e (T ps)) K) h)

  pub parameter_stops : (ps : List TypePart) (h : Handed) (stop : Stop) (out : List ℕ) → Stopped (parameter_type (give h) m.world) stop out → Stopped (before p (typing p OfParameter ps) (with_handed h m)) stop out
  parameter_stops ps h stop out is =
      stops_first (after (parameter_type (give h) m.world) (T ps)) K (before p (typing p OfParameter ps) (with_handed h m)) stop out refl
      (stops_first (parameter_type (give h) m.world) (T ps) (after (parameter_type (give h) m.world) (T ps)) stop out refl is)

  pub parameter_goes : (ps : List TypePart) (h : Handed) (t : Option ℕ) → parameter_type (give h) m.world ≡ Gives t m.world → before p (types_go p t ps) m ≡ before p (typing p OfParameter ps) (with_handed h m)
  parameter_goes ps h t is = sym (ap (λ e. after (after e (T ps)) K) is)

  pub type_none : (ps : List TypePart) (t : Option ℕ) → types_at ps t m.world ≡ Gives false m.world → left p m ≡ before p (types_go p t ps) m
  type_none ps t h = sym (ap (λ e. after (after e (λ _. skip)) K) h)

  pub type_some : (ps : List TypePart) (t : Option ℕ) (body : List Stmt) → types_at ps t m.world ≡ (body_of p m.active body >>= λ _. give true) m.world → before p (performs_all p body) m ≡ before p (types_go p t ps) m
  type_some ps t body h = sym (type_chosen p (rest p m.tasks) m.active m.values m.world t ps body h)
