-- A program's image with all from which it was made.
use Rattle.std.specs.Prelude.{◌≡◌, List, map, None}
use Rattle.image_form.specs.Form.{IsInForm}
use Rattle.ob_types.specs.declared.program.Program.{Program}
use Rattle.ssa_lowered.specs.Limits.{limit_of}
use Rattle.boundary_resolve.specs.Placing.{placed_of}
use Rattle.linked_flows.specs.Allocations.{Cut}
use Rattle.kept_plans.specs.Above.{AreAllParents}
use Rattle.link_blocks.specs.Plans.{placed_in}
use Rattle.noted_image.specs.words.link_plan.Linked.{plans_of}
use Rattle.noted_image.specs.words.alloc_choice.declared.choice.Choice.{Choice}
use Rattle.noted_image.specs.words.program_image.Images.{IsProgramImage}
use Rattle.shown_program.specs.declared.making.ShownProgram.{ShownProgram}

-- a program's image by a choice, its flows, their traces with the results and the traces above them, the lines of their code, and their plans
pub record IsShownProgram (choice : Choice) (p : Program) (made : ShownProgram) : Type 0 where
  pub within : limit_of p ≡ None
  pub cuts : List Cut
  pub is : IsProgramImage choice p cuts made.image
  pub form : IsInForm made.image
  pub flows : made.flows.items ≡ map (λ c. c.flow) cuts
  pub traces : map (λ v. v.items) made.cuts.items ≡ map (λ c. c.traces) cuts
  pub parents : AreAllParents made.flows.items (map (λ v. v.items) made.cuts.items) (map (λ v. v.items) made.parents.items)
  pub lines : map (λ v. v.items) made.lines.items ≡ map (λ c. placed_of c.flow c.traces c.outs) cuts
  pub outs : map (λ v. v.items) made.outs.items ≡ map (λ c. c.outs) cuts
  pub plans : map placed_in made.plans.items ≡ plans_of cuts
