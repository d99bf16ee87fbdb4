-- An image of a program is one of each program with the same lowering.
use Rattle.std.proofs.Common.{◌≡◌, ℕ, List, [], ◌∷◌, map, refl, sym, ap, subst, ◌∙◌}
use Rattle.std.specs.Prelude.{if◌then◌else◌}
use Rattle.image_form.specs.declared.image.Image.{Image}
use Rattle.ob_types.specs.declared.program.Procedure.{Procedure}
use Rattle.ob_types.specs.declared.program.Program.{Program}
use Rattle.a64_memory.specs.Areas.{data_base}
use Rattle.placed_code.specs.declared.data.ProcName.{ProcName}
use Rattle.placed_code.specs.declared.data.ImageData.{ImageData}
use Rattle.linked_flows.specs.Allocations.{Cut}
use Rattle.source_image.specs.link_plan.Linked.{linked}
use Rattle.source_image.specs.alloc_choice.declared.choice.Choice.{Choice}
use Rattle.source_image.specs.back_end.Images.{AreCutsOf}
use Rattle.source_image.specs.compiled_runs.Compiled.{name_of, procedure_names, data_of}
use Rattle.source_image.specs.program_image.Images.{IsProgramImage}
use Rattle.one_lowering.specs.Forms.{place_of, HaveOneLowering}

-- a procedure's name by where it stands
abbrev named_at : ℕ × ℕ → ProcName
named_at x = record { «module» = x.0; line = x.1 }

names_are : (qs : List Procedure) → map name_of qs ≡ map named_at (map place_of qs)
names_are [] = refl
names_are (q ∷ qs) = ap (λ xs. name_of q ∷ xs) (names_are qs)

pub one_data : (p q : Program) → HaveOneLowering p q → data_of p ≡ data_of q
one_data p q h =
    let names : procedure_names p ≡ procedure_names q = names_are p.procedures ∙ ap (λ xs. map named_at xs) h.places ∙ sym (names_are q.procedures) in
    λ k. let extra : ImageData = record { flags = if h.imports k then 1 else 0; globals = h.globals k; constants = h.constants data_base k; names = names k } in extra

pub moved : (b : Choice) (p q : Program) (cuts : List Cut) (image : Image) → HaveOneLowering p q → IsProgramImage b q cuts image → IsProgramImage b p cuts image
moved b p q cuts image h y = record {
  are = subst (λ procs. AreCutsOf b procs cuts) (sym h.procedures) y.are;
  few = y.few;
  is = y.is ∙ sym (ap (linked cuts) (one_data p q h));
}
