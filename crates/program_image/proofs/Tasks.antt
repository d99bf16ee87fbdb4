-- What the tasks of procedures give, once all have ended.
use Rattle.std.proofs.Common.{◌≡◌, ℕ, zero, suc, ◌+◌, ◌<◌, List, [], ◌∷◌, ◌++◌, length, get_or, true, Option, Some, None, refl, sym, ap, ◌∙◌, subst, arith, append_assoc}
use Rattle.std.specs.Prelude.{slice_get, IfOk, Result, Ok, Err, Vec}
use Rattle.std.specs.Global.{Global}
use Rattle.outside.specs.declared.memory.Memory.{Memory}
use Rattle.std.proofs.lemmas.List.{length-map, append-nil}
use Rattle.std.proofs.lemmas.List.Elements.{All-cons, All-nil}
use Rattle.std.proofs.lemmas.Option.{same_Some, slice_get_read, slice_get_within}
use mathlib.Core.Option.{some, some-injective, some-ne-none}
use lib.ListN.{get_elem?}
use Rattle.ob_types.specs.declared.program.Procedure.{Procedure}
use Rattle.ob_types.specs.declared.program.Program.{Program}
use Rattle.ssa_lowered.specs.Data.{layout}
use Rattle.ssa_lowered.specs.Limits.{or_else, limit_in, limits_from}
use Rattle.ssa_lowered.specs.Lowered.{proc_of, procs_from}
use Rattle.ssa_tables.specs.Faults.{Tells}
use Rattle.ssa_tables.specs.declared.fault.LowerFault.{LowerFault}
use Rattle.ssa_tables.specs.declared.fault.LowerFault.TheVariants as fault
use Rattle.lowered_valid.specs.Claims.{IsShort}
use Rattle.lir_core.specs.declared.flow.Flow.{Flow}
use Rattle.pool_core.specs.Tree.{IsTree}
use Rattle.pool_core.specs.Fits.{FitsAt}
use Rattle.trace_pool.specs.Ends.{AreFinal}
use Rattle.alloc_choice.specs.declared.choice.Choice.{Choice}
use Rattle.back_end.specs.Numbers.{node_numbers}
use Rattle.back_end.specs.Tasks.{IsOutcome}
use Rattle.back_end.specs.declared.outcome.Outcome.{Outcome}
use Rattle.program_image.specs.declared.work.Task.{Task}
use Rattle.program_image.specs.declared.work.Task.TheVariants.{Past, Lowered}
use Rattle.program_image.specs.Tasks.{no_parents, flow_of, flows_from, IsLowered, IsTask, IsTaskAt, AreTasks, AreMade}

---- No task has a parent

pub parent_at : (qs : List Procedure) (i : ℕ) → i < length (no_parents qs) → get_elem? (no_parents qs) i ≡ some None
parent_at [] i lt = absurd (omega (arith, lt))
parent_at (q ∷ qs) zero lt = refl
parent_at (q ∷ qs) (suc i) lt = parent_at qs i (omega (arith, lt))

pub no_child : (qs : List Procedure) (i p : ℕ) → get_elem? (no_parents qs) i ≡ some (Some p) → ⊥
no_child [] i p e = some-ne-none (Some p) (sym e)
no_child (q ∷ qs) zero p e = let both : None ≡ Some p = some-injective None (Some p) e in absurd (let z : ⊥ = cc in z)
no_child (q ∷ qs) (suc i) p e = no_child qs i p e

pub is_tree : (qs : List Procedure) → IsTree (no_parents qs)
is_tree qs i p e = absurd (no_child qs i p e)

pub run_within : {H : Type 0} (qs : List Procedure) (fits : H → Type 0) (i : ℕ) (hint : Option H) → FitsAt (get_elem? (no_parents qs) i) fits hint → i < length qs
run_within [] fits i hint h = absurd h
run_within (q ∷ qs) fits zero hint h = omega arith
run_within (q ∷ qs) fits (suc i) hint h = let l = run_within qs fits i hint h in omega (arith, l)

---- The procedure of a task

pub found_at : (qs slice : List Procedure) (i : ℕ) (x : Procedure) → slice ≡ qs → i < length qs → x ≡ get_or slice i x → slice_get qs i ≡ Some x
found_at qs slice i x same lt is = slice_get_read qs (length qs) i x refl lt (is ∙ ap (λ rs. get_or rs i x) same)

module _ (p : Program) (f : ℕ) (x q : Procedure) (here : slice_get p.procedures f ≡ Some x) (there : slice_get p.procedures f ≡ Some q) where
  same_procedure : x ≡ q
  same_procedure = same_Some x q (sym here ∙ there)

  pub is_lowered : (choice : Choice) (flow : Flow) (outcome : Outcome) → IsLowered p f x → flow ≡ flow_of p f x → IsOutcome choice flow outcome → IsLowered p f q × IsOutcome choice (flow_of p f q) outcome
  is_lowered choice flow outcome h is made = subst (λ r. IsLowered p f r × IsOutcome choice (flow_of p f r) outcome) same_procedure (h, subst (λ g. IsOutcome choice g outcome) is made)

  pub is_past : (e : LowerFault) (n i : ℕ) → e ≡ fault.Limit n i → Tells e (limit_in p (layout p.types) f x) → limit_in p (layout p.types) f q ≡ Some (record { number = n; index = i })
  is_past e n i is told = subst (λ r. limit_in p (layout p.types) f r ≡ Some (record { number = n; index = i })) same_procedure (subst (λ g. Tells g (limit_in p (layout p.types) f x)) is told)

---- One task for each procedure

module _ (choice : Choice) (p : Program) where
  tasks_from : (f : ℕ) (qs : List Procedure) (tasks : List Task) → length tasks ≡ length qs
      → ((i : ℕ) (q : Procedure) (task : Task) → slice_get qs i ≡ Some q → get_elem? tasks i ≡ some task → IsTask choice p (f + i) q task) → AreTasks choice p f qs tasks
  tasks_from f [] [] e each = tt
  tasks_from f [] (t ∷ tasks) e each = absurd (omega (arith, e))
  tasks_from f (q ∷ qs) [] e each = absurd (omega (arith, e))
  tasks_from f (q ∷ qs) (t ∷ tasks) e each =
      let here : f + 0 ≡ f = omega arith in (
        subst (λ n. IsTask choice p n q t) here (each 0 q t refl refl),
        tasks_from (suc f) qs tasks (omega (arith, e)) (λ i r s there at. let n : f + suc i ≡ suc f + i = omega arith in subst (λ n. IsTask choice p n r s) n (each (suc i) r s there at)),
      )

  pub are_tasks : (tasks : List Task) → AreFinal (IsTaskAt choice p) (no_parents p.procedures) tasks → AreTasks choice p 0 p.procedures tasks
  are_tasks tasks final = tasks_from 0 p.procedures tasks (final.0 ∙ long) each
    where
      long : length (no_parents p.procedures) ≡ length p.procedures
      long = length-map p.procedures (λ (q : Procedure). None)

      each : (i : ℕ) (q : Procedure) (task : Task) → slice_get p.procedures i ≡ Some q → get_elem? tasks i ≡ some task → IsTask choice p (0 + i) q task
      each i q task there at =
          let lt = slice_get_within p.procedures i q there in
          let d = final.1 i (omega (arith, lt, long)) in
          let n : i ≡ 0 + i = omega arith in
          subst (λ k. IsTask choice p k q task) n (subst (IsTask choice p i q) (some-injective d.0 task (sym d.1 ∙ at)) (d.2 q there))

  pub tasks_in : (result : Result (Vec Task Global) Memory) → IfOk result (λ tasks. AreFinal (IsTaskAt choice p) (no_parents p.procedures) tasks.items) → IfOk result (λ tasks. AreTasks choice p 0 p.procedures tasks.items)
  tasks_in (Ok tasks) final = are_tasks tasks.items final
  tasks_in (Err e) final = tt

  ---- Outcomes, one after the other

  made_none : (f : ℕ) → AreMade choice p f [] []
  made_none f = record { are = tt; within = refl; short = All-nil IsShort; numbers = All-nil (λ (flow : Flow). node_numbers flow.nodes ≡ true) }

  within_more : (f : ℕ) (q : Procedure) (qs : List Procedure) → IsLowered p f q → limits_from p (layout p.types) f (q ∷ qs) ≡ limits_from p (layout p.types) (suc f) qs
  within_more f q qs h = ap (λ o. or_else o (limits_from p (layout p.types) (suc f) qs)) h.within

  made_more : (f : ℕ) (q : Procedure) (qs : List Procedure) (outcome : Outcome) (more : List Outcome) → IsLowered p f q → IsOutcome choice (flow_of p f q) outcome → AreMade choice p (suc f) qs more → AreMade choice p f (q ∷ qs) (outcome ∷ more)
  made_more f q qs outcome more h is made = record {
    are = (is, made.are);
    within = within_more f q qs h ∙ made.within;
    short = All-cons IsShort (proc_of p (layout p.types) f q) (procs_from p (layout p.types) (suc f) qs) h.short made.short;
    numbers = All-cons (λ (flow : Flow). node_numbers flow.nodes ≡ true) (flow_of p f q) (flows_from p (suc f) qs) h.numbers made.numbers;
  }

  -- some tasks are done, the others are left
  pub record IsUnderWay (done : List Outcome) (left : List Task) : Type 0 where
    pub f : ℕ
    pub qs : List Procedure
    pub ahead : AreTasks choice p f qs left
    pub behind : (more : List Outcome) → AreMade choice p f qs more → AreMade choice p 0 p.procedures (done ++ more)
    pub limits : limits_from p (layout p.types) 0 p.procedures ≡ limits_from p (layout p.types) f qs

  pub begun : (done : List Outcome) (left : List Task) → AreTasks choice p 0 p.procedures left → done ≡ [] → IsUnderWay done left
  begun done left h none = record { f = 0; qs = p.procedures; ahead = h; behind = λ more made. subst (λ z. AreMade choice p 0 p.procedures (z ++ more)) (sym none) made; limits = refl }

  pub further : (done done' : List Outcome) (left left' : List Task) (outcome : Outcome) → IsUnderWay done left → left ≡ Lowered outcome ∷ left' → done' ≡ done ++ outcome ∷ [] → IsUnderWay done' left'
  further done done' left left' outcome h is more = from h.f h.qs (subst (AreTasks choice p h.f h.qs) is h.ahead) h.behind h.limits
    where
      from : (f : ℕ) (qs : List Procedure) → AreTasks choice p f qs (Lowered outcome ∷ left') → ((ms : List Outcome) → AreMade choice p f qs ms → AreMade choice p 0 p.procedures (done ++ ms)) → limits_from p (layout p.types) 0 p.procedures ≡ limits_from p (layout p.types) f qs → IsUnderWay done' left'
      from f [] none behind limits = absurd none
      from f (q ∷ qs) ahead behind limits = record {
        f = suc f;
        qs = qs;
        ahead = ahead.1;
        behind = λ ms made. subst (λ z. AreMade choice p 0 p.procedures z) (sym (append_assoc done (outcome ∷ []) ms) ∙ ap (λ z. z ++ ms) (sym more)) (behind (outcome ∷ ms) (made_more f q qs outcome ms ahead.0.0 ahead.0.1 made));
        limits = limits ∙ within_more f q qs ahead.0.0;
      }

  pub told : (done : List Outcome) (left left' : List Task) (n i : ℕ) → IsUnderWay done left → left ≡ Past n i ∷ left' → limits_from p (layout p.types) 0 p.procedures ≡ Some (record { number = n; index = i })
  told done left left' n i h is = from h.f h.qs (subst (AreTasks choice p h.f h.qs) is h.ahead) h.limits
    where
      from : (f : ℕ) (qs : List Procedure) → AreTasks choice p f qs (Past n i ∷ left') → limits_from p (layout p.types) 0 p.procedures ≡ limits_from p (layout p.types) f qs → limits_from p (layout p.types) 0 p.procedures ≡ Some (record { number = n; index = i })
      from f [] none limits = absurd none
      from f (q ∷ qs) ahead limits = limits ∙ ap (λ o. or_else o (limits_from p (layout p.types) (suc f) qs)) ahead.0

  pub ended : (done : List Outcome) (left : List Task) → IsUnderWay done left → left ≡ [] → AreMade choice p 0 p.procedures done
  ended done left h none = from h.f h.qs (subst (AreTasks choice p h.f h.qs) none h.ahead) h.behind
    where
      from : (f : ℕ) (qs : List Procedure) → AreTasks choice p f qs [] → ((ms : List Outcome) → AreMade choice p f qs ms → AreMade choice p 0 p.procedures (done ++ ms)) → AreMade choice p 0 p.procedures done
      from f [] ahead behind = subst (λ z. AreMade choice p 0 p.procedures z) (append-nil done) (behind [] (made_none f))
      from f (q ∷ qs) ahead behind = absurd ahead
