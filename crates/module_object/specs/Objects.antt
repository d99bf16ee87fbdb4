-- The object of a program's last module.
use Rattle.std.specs.Prelude.{◌≡◌, ℕ, suc, ◌-◌, ◌≤◌, ◌==◌, List, [], ◌∷◌, map, take, drop, length, true, None, if◌then◌else◌}
use Rattle.ob_types.specs.WellFormed.{well_formed}
use Rattle.ob_types.specs.declared.program.Procedure.{Procedure}
use Rattle.ob_types.specs.declared.program.Program.{Program}
use Rattle.ssa_lowered.specs.Limits.{limit_of}
use Rattle.lir_core.specs.declared.flow.Flow.{Flow}
use Rattle.lir_core.specs.declared.places.TraceOut.{TraceOut}
use Rattle.trace_build.specs.Traces.{traces_in}
use Rattle.linked_flows.specs.Allocations.{Cut}
use Rattle.planned_image.specs.words.alloc_choice.declared.choice.Choice.{Choice}
use Rattle.planned_image.specs.audited_allocations.Joined.{joined}
use Rattle.planned_image.specs.words.flow_allocation.Allocations.{AllAllocations}
use Rattle.planned_image.specs.words.compiled_runs.Compiled.{flows_of}
use Rattle.planned_image.specs.words.program_image.Limits.{most_traces}
use Rattle.planned_image.specs.words.source_program.Texts.{IsProgramOfTexts}
use Rattle.object_form.specs.declared.object.Object.{Object}

-- how many procedures stand before the first one of the module with this number; procedures stand in the order of their modules
abbrev pub before_module : ℕ → List Procedure → ℕ
before_module m [] = 0
before_module m (q ∷ qs) = if q.«module» == m then 0 else suc (before_module m qs)

-- the final results by a choice of the traces of all flows but the first so many, by the numbers that these traces have behind those of
-- the first ones
pub record AreResultsBehind (choice : Choice) (first : ℕ) (flows : List Flow) (outs : List TraceOut) : Type 0 where
  pub cuts : List Cut
  pub flows_are : map (λ c. c.flow) cuts ≡ drop first flows
  pub each : AllAllocations choice (traces_in choice.builder (take first flows)) cuts
  pub is : outs ≡ joined (map (λ c. c.outs) cuts)

-- those of a program's procedures from the module with this number on
abbrev pub AreOwnResults : Choice → (number : ℕ) → Program → List TraceOut → Type 0
AreOwnResults choice number p outs = AreResultsBehind choice (before_module number p.procedures) (flows_of p) outs

-- a choice, a text, and these results
pub record IsObjectOf (choice : Choice) (number : ℕ) (p : Program) (text : List ℕ) (object : Object) : Type 0 where
  pub policy : object.policy ≡ choice.policy
  pub builder : object.builder ≡ choice.builder
  pub regs : object.regs ≡ choice.regs
  pub source : object.source ≡ text
  pub results : AreOwnResults choice number p object.outs

-- the last of some texts
abbrev pub last_text : List (List ℕ) → List ℕ
last_text [] = []
last_text (t ∷ []) = t
last_text (t ∷ u ∷ more) = last_text (u ∷ more)

-- of the last of some texts, by the last module of a program that they are; no limit on the way to its traces is passed
pub record IsObjectOfTexts (choice : Choice) (texts : List (List ℕ)) (object : Object) : Type 0 where
  pub program : Program
  pub of_texts : IsProgramOfTexts texts program
  pub well_formed : well_formed program ≡ true
  pub within : limit_of program ≡ None
  pub few : traces_in choice.builder (flows_of program) ≤ most_traces
  pub is : IsObjectOf choice (length texts - 1) program (last_text texts) object
