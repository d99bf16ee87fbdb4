-- Expressions and designators: what stops them, and what is left behind their steps.
use Rattle.std.proofs.Common.{◌≡◌, ℕ, List, ◌∷◌, Box, Global, true, Option, sym, ap, ◌∙◌, refl}
use Rattle.run_laws.specs.Turns.{Ending, Gives, after, give}
use Rattle.ob_types.specs.Layout.{cells}
use Rattle.ob_types.specs.Store.{Store, Trap, Act, Handed}
use Rattle.ob_types.specs.Expressions.{by_open}
use Rattle.ob_types.specs.Statements.{Deed}
use Rattle.ob_types.specs.Meaning.{select, base_of, kind_in, length_of_kind, at_most}
use Rattle.ob_types.specs.declared.tree.Relation.{Relation}
use Rattle.ob_types.specs.declared.tree.Expr.{Expr, Guard, Guard', CompareTexts, CompareTexts', Call', Length}
use Rattle.ob_types.specs.declared.tree.Expr.{Call as Calls}
use Rattle.ob_types.specs.declared.tree.Call.{Call}
use Rattle.ob_types.specs.declared.tree.Link.{Link, Elements, Elements'}
use Rattle.ob_types.specs.declared.tree.Designator.{Designator, Part}
use Rattle.ob_types.specs.declared.tree.Access.{Access}
use Rattle.ob_types.specs.declared.tree.Selector.{Selector, Index}
use Rattle.ob_types.specs.declared.program.Program.{Program}
use Rattle.eval_store.specs.Did.{Stopped}
use Rattle.eval_store.specs.declared.stop.Stop.{Stop}
use Rattle.eval_at_once.specs.Here.{here_of}
use Rattle.eval_at_once.proofs.Going.{stops_first}
use Rattle.eval_at_once.proofs.Rows.{designated_part}
use Rattle.eval_tasks.specs.declared.task.Act.TheVariants.{Fetch, TextsCompared, LengthOf, AsSpan, ElementOf, WithRange}
use Rattle.eval_tasks.specs.declared.task.Act.TheVariants.{Element as AsElement}
use Rattle.eval_tasks.specs.Tasks.{Next, hands, evaluates, follows, locates, selects, guards, reaches, acts, rest}
use Rattle.eval_tasks.proofs.Expressions.{e_guard, e_texts, e_length, e_call, f_elements, s_index, s_first, d_part}
use Rattle.ob_eval.specs.Steps.{before, with_number, with_handed}
use Rattle.ob_eval.specs.declared.machine.Machine.{Machine}

module _ (p : Program) (m : Machine) where
  -- the tasks of some expressions, and any other as it is
  abbrev tasks_of : Expr → Next → Next
  tasks_of (Guard' _ d rs) k = locates p d (acts p Fetch (guards p rs k))
  tasks_of (CompareTexts' r _ d _ e) k = locates p d (acts p (AsSpan (length_of_kind (kind_in d))) (locates p e (acts p (AsSpan (length_of_kind (kind_in e))) (acts p (TextsCompared r) k))))
  tasks_of (Call' _ c) k = reaches p c true k
  tasks_of e k = evaluates p e k

  are_tasks : (e : Expr) → before p (tasks_of e) m ≡ before p (evaluates p e) m
  are_tasks (Guard' b d rs) = sym (e_guard p (rest p m.tasks) m.active m.values m.world b d rs)
  are_tasks (CompareTexts' r a d b e) = sym (e_texts p (rest p m.tasks) m.active m.values m.world r a b d e)
  are_tasks (Call' b c) = sym (e_call p (rest p m.tasks) m.active m.values m.world b c)
  are_tasks _ = refl

  pub guard_is : (d : Box Designator Global) (rs : List ℕ) → before p (λ k. locates p d.value (acts p Fetch (guards p rs k))) m ≡ before p (evaluates p (Guard d rs)) m
  guard_is d rs = are_tasks (Guard d rs)

  pub texts_is : (r : Relation) (d e : Box Designator Global) → before p (λ k. locates p d.value (acts p (AsSpan (length_of_kind (kind_in d.value))) (locates p e.value (acts p (AsSpan (length_of_kind (kind_in e.value))) (acts p (TextsCompared r) k))))) m ≡ before p (evaluates p (CompareTexts r d e)) m
  texts_is r d e = are_tasks (CompareTexts r d e)

  pub length_is : (d : Designator) → before p (λ k. locates p d (acts p (LengthOf (length_of_kind (kind_in d))) k)) m ≡ before p (evaluates p (Length d)) m
  length_is d = sym (e_length p (rest p m.tasks) m.active m.values m.world d)

  pub call_is : (c : Box Call Global) → before p (reaches p c.value true) m ≡ before p (evaluates p (Calls c)) m
  call_is c = are_tasks (Calls c)

  -- the tasks of a range, and any other link as it is
  abbrev linked : Link → List Link → ℕ → Ending Store Trap (Unit {0})
  linked (Elements' _ y _ z) ls a = before p (λ k. evaluates p y (acts p AsElement (evaluates p z (acts p WithRange (follows p ls k))))) (with_number a m)
  linked l ls a = before p (follows p (l ∷ ls)) (with_number a m)

  are_linked : (l : Link) (ls : List Link) (a : ℕ) → linked l ls a ≡ before p (follows p (l ∷ ls)) (with_number a m)
  are_linked (Elements' i y j z) ls a = sym (f_elements p (rest p m.tasks) m.active m.values m.world i j y z ls a)
  are_linked _ ls a = refl

  pub elements_is : (y z : Box Expr Global) (ls : List Link) (a : ℕ) → before p (λ k. evaluates p y.value (acts p AsElement (evaluates p z.value (acts p WithRange (follows p ls k))))) (with_number a m) ≡ before p (follows p (Elements y z ∷ ls)) (with_number a m)
  elements_is y z ls a = are_linked (Elements y z) ls a

  -- selectors

  abbrev H : Handed → Deed
  H h = hands (rest p m.tasks) m.active m.values h

  abbrev chosen : Selector → Handed → Act Handed
  chosen l h = select p (at_most p m.active.fuel) (here_of m.active) l (give h)

  abbrev J : List Selector → Handed → Deed
  J ls h = selects p ls (rest p m.tasks) m.active (h ∷ m.values)

  pub select_stops : (l : Selector) (ls : List Selector) (h : Handed) (stop : Stop) (out : List ℕ) → Stopped (chosen l h m.world) stop out → Stopped (before p (selects p (l ∷ ls)) (with_handed h m)) stop out
  select_stops l ls h stop out is = stops_first (chosen l h m.world) (J ls) (before p (selects p (l ∷ ls)) (with_handed h m)) stop out (s_first p (rest p m.tasks) m.active m.values m.world l ls h) is

  pub select_goes : (l : Selector) (ls : List Selector) (h g : Handed) → chosen l h m.world ≡ Gives g m.world → before p (selects p ls) (with_handed g m) ≡ before p (selects p (l ∷ ls)) (with_handed h m)
  select_goes l ls h g is = sym (s_first p (rest p m.tasks) m.active m.values m.world l ls h ∙ ap (λ e. after e (J ls)) is)

  abbrev I : ℕ → Expr → List Selector → Handed → Deed
  I el y ls a = evaluates p y (acts p (ElementOf (cells p.types el)) (selects p ls (rest p m.tasks))) m.active (a ∷ m.values)

  pub index_stops : (n : Option ℕ) (el : ℕ) (y : Expr) (ls : List Selector) (h : Handed) (stop : Stop) (out : List ℕ) → Stopped (by_open (give h) n m.world) stop out → Stopped (before p (selects p (Index n el y ∷ ls)) (with_handed h m)) stop out
  index_stops n el y ls h stop out is = stops_first (by_open (give h) n m.world) (I el y ls) (before p (selects p (Index n el y ∷ ls)) (with_handed h m)) stop out (s_index p (rest p m.tasks) m.active m.values m.world n el y ls h) is

  pub index_goes : (n : Option ℕ) (el : ℕ) (y : Expr) (ls : List Selector) (h a : Handed) → by_open (give h) n m.world ≡ Gives a m.world → before p (λ k. evaluates p y (acts p (ElementOf (cells p.types el)) (selects p ls k))) (with_handed a m) ≡ before p (selects p (Index n el y ∷ ls)) (with_handed h m)
  index_goes n el y ls h a is = sym (s_index p (rest p m.tasks) m.active m.values m.world n el y ls h ∙ ap (λ e. after e (I el y ls)) is)

  -- designators

  abbrev begins : Box Access Global → Act Handed
  begins a = base_of p (at_most p m.active.fuel) (here_of m.active) a.value.base

  part : (a : Box Access Global) → before p (locates p (Part a)) m ≡ after (begins a m.world) (J a.value.selectors.items)
  part a = ap (λ (d : Act Handed). after (d m.world) H) (designated_part p (at_most p m.active.fuel) (here_of m.active) a) ∙ d_part p (rest p m.tasks) m.active m.values m.world a.value.selectors.items a.value.base

  pub part_stops : (a : Box Access Global) (stop : Stop) (out : List ℕ) → Stopped (begins a m.world) stop out → Stopped (before p (locates p (Part a)) m) stop out
  part_stops a stop out h = stops_first (begins a m.world) (J a.value.selectors.items) (before p (locates p (Part a)) m) stop out (part a) h

  pub part_goes : (a : Box Access Global) (h : Handed) → begins a m.world ≡ Gives h m.world → before p (selects p a.value.selectors.items) (with_handed h m) ≡ before p (locates p (Part a)) m
  part_goes a h is = sym (part a ∙ ap (λ e. after e (J a.value.selectors.items)) is)
