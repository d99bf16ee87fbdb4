-- Each fault tells of the limit that is passed first.
use Rattle.std.proofs.Common.{◌≡◌, ◌<◌, ◌≤◌, ◌^◌, List, map, Option, None, refl, sym, subst, arith}
use Rattle.ob_types.specs.declared.program.Program.{Program}
use Rattle.ssa_core.specs.declared.procedure.Proc.{Proc}
use Rattle.ssa_tables.specs.declared.fault.LowerFault.{LowerFault}
use Rattle.ssa_tables.specs.declared.fault.LowerFault.TheVariants as low
use Rattle.ssa_tables.specs.Faults.{first_limit, last_limit}
use Rattle.ssa_tables.specs.Faults.{Tells as TellsLowered}
use Rattle.ssa_build.proofs.Limits.{limit_parts, tells_as, tells_first, tells_later}
use Rattle.ssa_lowered.specs.Data.{layout}
use Rattle.ssa_lowered.specs.Limits.{Limit, or_else, limits_from, limit_of}
use Rattle.ssa_lowered.specs.Lowered.{lowered}
use Rattle.a64_select.specs.Selected.{selected}
use Rattle.linked_flows.specs.Allocations.{Cut}
use Rattle.alloc_choice.specs.declared.choice.Choice.{Choice}
use Rattle.flow_allocation.specs.Allocations.{trace_count}
use Rattle.flow_allocation.proofs.Counting.{counted}
use Rattle.back_end.specs.Images.{AreCutsOf, code_length}
use Rattle.back_end.specs.declared.fault.ImageFault.{ImageFault}
use Rattle.back_end.specs.declared.fault.ImageFault.TheVariants as back
use Rattle.compiled_runs.specs.Compiled.{flows_of}
use Rattle.program_image.specs.Faults.{Tells, TellsOfTraces, of_lowering, of_imaging}
use Rattle.trace_build.specs.Traces.{traces_in}
use Rattle.program_image.specs.Limits.{most_traces, IsPassedFirst, InLowering, ByTraces, BeforeCode, ByWords}

pub lowering_tells_early : (choice : Choice) (p : Program) (fault : LowerFault) → TellsLowered fault (limit_of p) → TellsOfTraces choice p (of_lowering fault)
lowering_tells_early choice p (low.Limit n i) h = InLowering (record { number = n; index = i }) h
lowering_tells_early choice p low.Memory h = tt

pub lowering_tells : (choice : Choice) (p : Program) (fault : LowerFault) → TellsLowered fault (limit_of p) → Tells choice p (of_lowering fault)
lowering_tells choice p (low.Limit n i) h = BeforeCode (record { number = n; index = i }) (InLowering (record { number = n; index = i }) h)
lowering_tells choice p low.Memory h = tt

---- The parts of lowering, in the order in which their limits are tried

module _ (choice : Choice) (p : Program) (fault : LowerFault) where
  abbrev procedures : Option Limit
  procedures = limits_from p (layout p.types) 0 p.procedures

  in_parts : TellsLowered fault (or_else (first_limit p) (or_else procedures (last_limit p))) → Tells choice p (of_lowering fault)
  in_parts h = lowering_tells choice p fault (tells_as fault (or_else (first_limit p) (or_else procedures (last_limit p))) (limit_of p) (sym (limit_parts p)) h)

  pub first_tells : TellsLowered fault (first_limit p) → Tells choice p (of_lowering fault)
  first_tells h = in_parts (tells_first fault (first_limit p) (or_else procedures (last_limit p)) h)

  pub procedures_tell : first_limit p ≡ None → TellsLowered fault procedures → Tells choice p (of_lowering fault)
  procedures_tell first h = in_parts (tells_later fault (first_limit p) (or_else procedures (last_limit p)) first (tells_first fault procedures (last_limit p) h))

  pub constants_tell : first_limit p ≡ None → procedures ≡ None → TellsLowered fault (last_limit p) → Tells choice p (of_lowering fault)
  constants_tell first none h = in_parts (tells_later fault (first_limit p) (or_else procedures (last_limit p)) first (tells_later fault procedures (last_limit p) none h))

---- The passes behind

module _ (choice : Choice) (p : Program) (none : limit_of p ≡ None) where
  -- as the back end tells of them
  abbrev HasTraces : List Proc → Type 0
  HasTraces procs = 262144 < traces_in choice.builder (map selected procs)

  abbrev HasWords : List Proc → Type 0
  HasWords procs = (cuts : List Cut) × AreCutsOf choice procs cuts × (trace_count cuts ≤ 262144) × (2 ^ 18 < code_length cuts)

  pub count_is : (cuts : List Cut) → AreCutsOf choice (lowered p) cuts → trace_count cuts ≡ traces_in choice.builder (flows_of p)
  count_is cuts are = counted choice 0 cuts (flows_of p) are.flows are.each

  by_words : HasWords (lowered p) → IsPassedFirst choice p (record { number = 54; index = 0 })
  by_words h = let a = count_is h.0 h.1 in let b = h.2 in let c = h.3 in ByWords none (omega (arith, a, b)) (h.0, h.1, omega (arith, c))

  pub imaging_tells : (procs : List Proc) → procs ≡ lowered p → (fault : ImageFault) → (fault ≡ back.Traces → HasTraces procs) → (fault ≡ back.Code → HasWords procs) → Tells choice p (of_imaging fault)
  imaging_tells procs same back.Traces traces words = BeforeCode (record { number = 57; index = 0 }) (ByTraces none (subst HasTraces same (traces refl)))
  imaging_tells procs same back.Code traces words = by_words (subst HasWords same (words refl))
  imaging_tells procs same back.Misfit traces words = tt
  imaging_tells procs same back.Memory traces words = tt

  pub few_traces : (cuts : List Cut) → AreCutsOf choice (lowered p) cuts → trace_count cuts ≤ most_traces → traces_in choice.builder (flows_of p) ≤ most_traces
  few_traces cuts are few = let a = count_is cuts are in omega (arith, a, few)
