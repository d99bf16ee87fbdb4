-- Each fault tells of the limit that is passed first.
use Rattle.std.proofs.Common.{◌≡◌, ◌<◌, ◌≤◌, ◌^◌, List, map, length, None, arith, ◌∙◌, ap, subst, sym}
use Rattle.image_form.specs.declared.image.Image.{Image}
use Rattle.image_form.specs.Form.{IsInForm}
use Rattle.ob_types.specs.declared.program.Program.{Program}
use Rattle.ssa_lowered.specs.Limits.{Limit, limit_of}
use Rattle.ssa_lowered.specs.Lowered.{lowered}
use Rattle.trace_build.specs.Traces.{traces_in}
use Rattle.linked_flows.specs.Allocations.{Cut}
use Rattle.planned_image.specs.words.alloc_choice.declared.choice.Choice.{Choice}
use Rattle.planned_image.specs.words.flow_allocation.Allocations.{trace_count}
use Rattle.planned_image.specs.audited_allocations.Joined.{joined}
use Rattle.trace_notes.specs.Notes.{notes, most_bytes}
use Rattle.planned_image.specs.words.back_end.Images.{AreCutsOf, code_length}
use Rattle.planned_image.specs.words.compiled_runs.Compiled.{flows_of}
use Rattle.planned_image.specs.words.program_image.Images.{IsProgramImage}
use Rattle.planned_image.specs.words.program_image.Limits.{InLowering, ByTraces, BeforeCode, ByWords, of_all}
use Rattle.planned_image.specs.words.program_image.declared.fault.ProgramFault.{ProgramFault}
use Rattle.planned_image.specs.words.program_image.declared.fault.ProgramFault.TheVariants as whole
use Rattle.planned_image.proofs.words.program_image.Telling.{count_is}
use Rattle.planned_image.specs.Plans.{TellsOfLowering}
use Rattle.noted_image.specs.Faults.{TellsWithNotes, BeforeNotes, ByNotes}

module _ (choice : Choice) (p : Program) where
  pub lowering_told : (fault : ProgramFault) → TellsOfLowering p fault → TellsWithNotes choice p fault
  lowering_told (whole.Limit n i) h = let limit : Limit = record { number = n; index = i } in BeforeNotes limit (BeforeCode limit (InLowering limit h))
  lowering_told whole.Memory h = tt

  pub traces_told : limit_of p ≡ None → 262144 < traces_in choice.builder (flows_of p) → TellsWithNotes choice p (whole.Limit 57 0)
  traces_told none over = BeforeNotes (of_all 57) (BeforeCode (of_all 57) (ByTraces none over))

  pub words_told : limit_of p ≡ None → (cuts : List Cut) → AreCutsOf choice (lowered p) cuts → trace_count cuts ≤ 262144 → 2 ^ 18 < code_length cuts → TellsWithNotes choice p (whole.Limit 54 0)
  words_told none cuts are few over =
      let n = count_is choice p none cuts are in
      BeforeNotes (of_all 54) (ByWords none (omega (arith, n, few)) (cuts, are, omega (arith, over)))

  pub notes_told : limit_of p ≡ None → (cuts : List Cut) (image : Image) → IsInForm image → IsProgramImage choice p cuts image → most_bytes < length (notes (joined (map (λ c. c.outs) cuts))) → TellsWithNotes choice p (whole.Limit 67 0)
  notes_told none cuts image form is long = ByNotes (record { within = none; cuts = cuts; image = image; form = form; is = is; long = long })
