-- Each fault tells of the limit that is passed first.
use Rattle.std.proofs.Common.{◌≡◌, ◌<◌, ◌≤◌, ◌^◌, List, None, arith}
use Rattle.ob_types.specs.declared.program.Program.{Program}
use Rattle.ssa_lowered.specs.Limits.{Limit, limit_of}
use Rattle.ssa_lowered.specs.Lowered.{lowered}
use Rattle.trace_build.specs.Traces.{traces_in}
use Rattle.linked_flows.specs.Allocations.{Cut}
use Rattle.noted_image.specs.words.alloc_choice.declared.choice.Choice.{Choice}
use Rattle.noted_image.specs.words.flow_allocation.Allocations.{trace_count}
use Rattle.noted_image.specs.words.back_end.Images.{AreCutsOf, code_length}
use Rattle.noted_image.specs.words.compiled_runs.Compiled.{flows_of}
use Rattle.noted_image.specs.words.program_image.Faults.{Tells}
use Rattle.noted_image.specs.words.program_image.Limits.{InLowering, ByTraces, BeforeCode, ByWords, of_all}
use Rattle.noted_image.specs.words.program_image.declared.fault.ProgramFault.{ProgramFault}
use Rattle.noted_image.specs.words.program_image.declared.fault.ProgramFault.TheVariants as whole
use Rattle.noted_image.proofs.words.program_image.Telling.{count_is}
use Rattle.noted_image.specs.planned_image.Plans.{TellsOfLowering}

module _ (choice : Choice) (p : Program) where
  pub lowering_told : (fault : ProgramFault) → TellsOfLowering p fault → Tells choice p fault
  lowering_told (whole.Limit n i) h = let limit : Limit = record { number = n; index = i } in BeforeCode limit (InLowering limit h)
  lowering_told whole.Memory h = tt

  pub traces_told : limit_of p ≡ None → 262144 < traces_in choice.builder (flows_of p) → Tells choice p (whole.Limit 57 0)
  traces_told none over = BeforeCode (of_all 57) (ByTraces none over)

  pub words_told : limit_of p ≡ None → (cuts : List Cut) → AreCutsOf choice (lowered p) cuts → trace_count cuts ≤ 262144 → 2 ^ 18 < code_length cuts → Tells choice p (whole.Limit 54 0)
  words_told none cuts are few over =
      let n = count_is choice p none cuts are in
      ByWords none (omega (arith, n, few)) (cuts, are, omega (arith, over))
