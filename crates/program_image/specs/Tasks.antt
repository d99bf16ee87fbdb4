-- What the tasks of a program's procedures give.
use Rattle.std.specs.Prelude.{◌≡◌, ℕ, suc, true, List, [], ◌∷◌, map, All, Option, Some, None, slice_get}
use Rattle.ob_types.specs.declared.program.Procedure.{Procedure}
use Rattle.ob_types.specs.declared.program.Program.{Program}
use Rattle.ssa_lowered.specs.Data.{layout}
use Rattle.ssa_lowered.specs.Limits.{limit_in, limits_from, limit_of}
use Rattle.ssa_lowered.specs.Lowered.{proc_of, procs_from, lowered}
use Rattle.lowered_valid.specs.Claims.{IsShort}
use Rattle.lir_core.specs.declared.flow.Flow.{Flow}
use Rattle.a64_select.specs.Selected.{selected}
use Rattle.alloc_choice.specs.declared.choice.Choice.{Choice}
use Rattle.back_end.specs.Numbers.{node_numbers}
use Rattle.back_end.specs.Tasks.{IsOutcome, AreOutcomes}
use Rattle.back_end.specs.Planning.{IsPlanned}
use Rattle.back_end.specs.declared.outcome.Outcome.{Outcome}
use Rattle.back_end.specs.declared.joining.Planned.{Planned}
use Rattle.program_image.specs.declared.work.Task.{Task}
use Rattle.program_image.specs.declared.work.Task.TheVariants.{Past, Lowered}

-- no task waits for another
abbrev pub no_parents : List Procedure → List (Option ℕ)
no_parents qs = map (λ q. None) qs

abbrev pub flow_of : Program → ℕ → Procedure → Flow
flow_of p f q = selected (proc_of p (layout p.types) f q)

-- a procedure that passes no limit and is short; numbers of its operations have 64 bits
pub record IsLowered (p : Program) (f : ℕ) (q : Procedure) : Type 0 where
  pub within : limit_in p (layout p.types) f q ≡ None
  pub short : IsShort (proc_of p (layout p.types) f q)
  pub numbers : node_numbers (flow_of p f q).nodes ≡ true

-- the limit that the procedure passes, or what its flow comes to
abbrev pub IsTask : Choice → Program → ℕ → Procedure → Task → Type 0
IsTask choice p f q (Past n i) = limit_in p (layout p.types) f q ≡ Some (record { number = n; index = i })
IsTask choice p f q (Lowered outcome) = IsLowered p f q × IsOutcome choice (flow_of p f q) outcome

abbrev pub IsTaskAt : Choice → Program → ℕ → Task → Type 0
IsTaskAt choice p f task = (q : Procedure) → slice_get p.procedures f ≡ Some q → IsTask choice p f q task

-- one for each of some procedures, the first of which has this number
abbrev pub AreTasks : Choice → Program → ℕ → List Procedure → List Task → Type 0
AreTasks choice p f [] [] = Unit {0}
AreTasks choice p f (q ∷ qs) (t ∷ ts) = IsTask choice p f q t × AreTasks choice p (suc f) qs ts
AreTasks choice p f _ _ = ⊥

abbrev pub flows_from : Program → ℕ → List Procedure → List Flow
flows_from p f qs = map selected (procs_from p (layout p.types) f qs)

-- what the flows of some procedures come to, the first of which has this number, none of which passes a limit
pub record AreMade (choice : Choice) (p : Program) (f : ℕ) (qs : List Procedure) (outcomes : List Outcome) : Type 0 where
  pub are : AreOutcomes choice (flows_from p f qs) outcomes
  pub within : limits_from p (layout p.types) f qs ≡ None
  pub short : All IsShort (procs_from p (layout p.types) f qs)
  pub numbers : All (λ (flow : Flow). node_numbers flow.nodes ≡ true) (flows_from p f qs)

-- the flows of the lowered procedures are planned, which pass no limit and are short, with numbers of 64 bits
pub record IsPlannedProgram (choice : Choice) (p : Program) (planned : Planned) : Type 0 where
  pub are : IsPlanned choice (map selected (lowered p)) planned
  pub within : limit_of p ≡ None
  pub short : All IsShort (lowered p)
  pub numbers : All (λ (flow : Flow). node_numbers flow.nodes ≡ true) (map selected (lowered p))
