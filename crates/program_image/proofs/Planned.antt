-- A program that is planned can be linked.
use Rattle.std.proofs.Common.{◌≡◌, true, refl, sym, ◌∙◌}
use Rattle.ob_types.specs.WellFormed.{well_formed}
use Rattle.ob_types.specs.declared.program.Program.{Program}
use Rattle.ssa_lowered.specs.Lowered.{lowered}
use Rattle.placed_code.specs.declared.data.ImageData.{ImageData}
use Rattle.alloc_choice.specs.declared.choice.Choice.{Choice}
use Rattle.alloc_choice.specs.Choice.{IsFitChoice}
use Rattle.back_end.specs.Planning.{ArePlanned, HaveNames}
use Rattle.back_end.specs.declared.joining.Planned.{Planned}
use Rattle.back_end.proofs.Naming.{piece_for_each}
use Rattle.back_end.proofs.Planning.{pieces_are}
use Rattle.compiled_runs.specs.Compiled.{data_of}
use Rattle.program_image.specs.Tasks.{IsPlannedProgram}
use Rattle.program_image.proofs.Fitting.{all_named}
use Rattle.program_image.proofs.Ready.{ready}

module _ (choice : Choice) (fit : IsFitChoice choice) (p : Program) (fine : well_formed p ≡ true) (planned : Planned) (h : IsPlannedProgram choice p planned) where
  abbrev pub can_link : ArePlanned choice (lowered p) planned
  can_link = record { fit = fit; ready = ready p fine h.within h.short; numbers = h.numbers; are = h.are }

  pub names_for_all : (extra : ImageData) → extra ≡ data_of p → HaveNames planned extra
  names_for_all extra is e f =
      all_named p (lowered p) extra refl is
      ∙ sym (piece_for_each (lowered p) planned.pieces.items h.are.cuts h.are.flows_are (pieces_are choice (lowered p) planned can_link e f).pieces_are)
