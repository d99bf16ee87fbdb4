-- Texts whose program has no plan.
use Rattle.std.proofs.Common.{◌≡◌, ℕ, List, true}
use Rattle.ob_types.specs.WellFormed.{well_formed}
use Rattle.ob_types.specs.declared.program.Program.{Program}
use Rattle.trace_build.specs.declared.builder.Builder.{Builder}
use Rattle.image_words.specs.program_image.declared.fault.ProgramFault.{ProgramFault}
use Rattle.image_words.specs.program_image.declared.fault.ProgramFault.TheVariants as whole
use Rattle.image_words.specs.source_program.Texts.{IsProgramOfTexts}
use Rattle.image_words.specs.source_image.Refusals.{IsRefusalOf, of_program}
use Rattle.planned_image.specs.Plans.{TellsOfPlan}

pub program_refused : (builder : Builder) (texts : List (List ℕ)) (p : Program) → IsProgramOfTexts texts p → well_formed p ≡ true → (fault : ProgramFault) → TellsOfPlan builder p fault → IsRefusalOf (TellsOfPlan builder) texts (of_program fault)
program_refused builder texts p of_texts fine (whole.Limit n i) h = record { program = p; of_texts = of_texts; well_formed = fine; tells = h }
program_refused builder texts p of_texts fine whole.Memory h = tt
