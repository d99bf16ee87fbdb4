-- A choice's results for a program, linked, with the figures of its code.
use Rattle.std.proofs.Common.{◌≡◌, ℕ, ◌<◌, ◌≤◌, ◌^◌, List, length, get_or, sym, ap, ◌∙◌, subst, arith, true}
use Rattle.a64_memory.specs.Memory.{AreBytes}
use Rattle.image_form.specs.declared.image.Image.{Image}
use Rattle.image_form.specs.Form.{IsInForm}
use Rattle.ob_types.specs.WellFormed.{well_formed}
use Rattle.ob_types.specs.declared.program.Program.{Program}
use Rattle.ssa_lowered.specs.Lowered.{lowered}
use Rattle.lir_core.specs.declared.places.TraceOut.{TraceOut}
use Rattle.boundary_resolve.specs.declared.code_line.CodeLine.{CodeLine}
use Rattle.trace_build.specs.Traces.{traces_in}
use Rattle.linked_flows.specs.Allocations.{Cut}
use Rattle.noted_image.specs.words.link_plan.Linked.{linked, Runs}
use Rattle.noted_image.specs.words.alloc_choice.declared.choice.Choice.{Choice}
use Rattle.noted_image.specs.words.flow_allocation.Allocations.{AreAllocated, trace_count}
use Rattle.noted_image.specs.words.back_end.Images.{AreCutsOf, code_length}
use Rattle.noted_image.specs.words.program_image.Images.{IsProgramImage, DoesAsMeant}
use Rattle.noted_image.specs.words.program_image.Limits.{ByTraces, BeforeCode, ByWords, of_all}
use Rattle.noted_image.specs.words.program_image.Faults.{Tells}
use Rattle.noted_image.specs.words.program_image.declared.fault.ProgramFault.TheVariants as whole
use Rattle.noted_image.proofs.words.program_image.Telling.{count_is}
use Rattle.noted_image.specs.planned_image.declared.planning.ProgramFlows.{ProgramFlows}
use Rattle.noted_image.specs.planned_image.Plans.{AreProgramFlows}
use Rattle.noted_image.proofs.Linked.{image_is, image_means}
use Rattle.program_figures.specs.Lines.{over_all, moves_in, stores_in, loads_in}
use Rattle.program_figures.specs.Images.{IsFiguredImage, figures_of, lines_of}
use Rattle.program_figures.specs.declared.figuring.CodeFigures.{CodeFigures}
use Rattle.program_figures.specs.declared.figuring.FiguredImage.{FiguredImage}

---- Figures

abbrev pub figures_with : Image → (traces moves stores loads : ℕ) → CodeFigures
figures_with image traces moves stores loads = record { words = length image.code; traces = traces; moves = moves; stores = stores; loads = loads; frame = image.frame }

module _ (choice : Choice) (few : choice.regs ≤ 16) (p : Program) (made : ProgramFlows) (is : AreProgramFlows p made) (parts : List (List CodeLine)) (outs : List (List TraceOut)) (traces : ℕ)
    (h : AreAllocated choice 0 made.flows.items parts outs traces) where
  figures_are : (image : Image) (result : FiguredImage) (moves stores loads : ℕ) → result.image ≡ image → result.figures ≡ figures_with image traces moves stores loads
      → moves ≡ over_all moves_in parts → stores ≡ over_all stores_in parts → loads ≡ over_all loads_in parts → result.figures ≡ figures_of h.cuts result.image
  figures_are image result moves stores loads same figures moves_are stores_are loads_are =
      let n = trace_count h.cuts in
      let m = over_all moves_in (lines_of h.cuts) in
      let s = over_all stores_in (lines_of h.cuts) in
      figures
      ∙ ap (λ i. figures_with i traces moves stores loads) (sym same)
      ∙ ap (λ t. figures_with result.image t moves stores loads) h.count
      ∙ ap (λ t. figures_with result.image n t stores loads) (moves_are ∙ ap (over_all moves_in) h.parts_are)
      ∙ ap (λ t. figures_with result.image n m t loads) (stores_are ∙ ap (over_all stores_in) h.parts_are)
      ∙ ap (λ t. figures_with result.image n m s t) (loads_are ∙ ap (over_all loads_in) h.parts_are)

  pub figured : well_formed p ≡ true → traces ≤ 262144 → (image : Image) → image ≡ linked h.cuts made.extra
      → ((input : List ℕ) → AreBytes made.extra.constants → ((i : ℕ) → get_or input i 0 < 2 ^ 64) → Runs image h.cuts made.extra input) → IsInForm image
      → (result : FiguredImage) (moves stores loads : ℕ) → result.image ≡ image → result.figures ≡ figures_with image traces moves stores loads
      → moves ≡ over_all moves_in parts → stores ≡ over_all stores_in parts → loads ≡ over_all loads_in parts → IsFiguredImage choice p result
  figured fine short image e runs form result moves stores loads same figures moves_are stores_are loads_are = record {
    cuts = h.cuts;
    is = subst (IsProgramImage choice p h.cuts) (sym same) (image_is choice few p made is parts outs traces h short image e);
    means = subst (DoesAsMeant p h.cuts) (sym same) (image_means choice few p made is parts outs traces h fine image e runs form);
    form = subst IsInForm (sym same) form;
    figures = figures_are image result moves stores loads same figures moves_are stores_are loads_are;
  }

---- Limits

module _ (choice : Choice) (p : Program) (made : ProgramFlows) (is : AreProgramFlows p made) where
  pub traces_told : 262144 < traces_in choice.builder made.flows.items → Tells choice p (whole.Limit 57 0)
  traces_told over = BeforeCode (of_all 57) (ByTraces is.within (subst (λ fs. 262144 < traces_in choice.builder fs) is.flows over))

  pub words_told : (cuts : List Cut) → AreCutsOf choice (lowered p) cuts → trace_count cuts ≤ 262144 → 2 ^ 18 < code_length cuts → Tells choice p (whole.Limit 54 0)
  words_told cuts are few over =
      let n = count_is choice p is.within cuts are in
      ByWords is.within (omega (arith, n, few)) (cuts, are, omega (arith, over))
