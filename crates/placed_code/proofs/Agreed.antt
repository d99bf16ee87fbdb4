-- The machine that runs the image of sound results is in step with what their flows keep up with.
use Rattle.std.proofs.Common.{ℕ, ◌<◌, ◌≤◌, ◌^◌, List, [], ◌∷◌, length, get_or, arith, sym, subst}
use Rattle.run_laws.specs.Runs.{Outcome, Keeps, InStep}
use Rattle.run_laws.specs.Layers.{Through}
use Rattle.a64_instr.specs.declared.instr.Instr.{Instr}
use Rattle.a64_table.specs.Table.{word_of}
use Rattle.a64_machine.specs.Machine.{start, system}
use Rattle.a64_machine.proofs.Steps as machine
use Rattle.block_runs.specs.Blocks.{Procedure}
use Rattle.block_runs.specs.States.{Stop, Fault}
use Rattle.block_runs.specs.Steps.{block_system}
use Rattle.block_runs.specs.Points.{least, all_points}
use Rattle.lir_core.specs.declared.places.Move.{Move}
use Rattle.placed_code.specs.declared.data.ImageData.{ImageData}
use Rattle.placed_code.specs.Placed.{Copy, Placed}
use Rattle.placed_code.specs.Layout.{all_words}
use Rattle.placed_code.specs.Claims.{AllInRange, image_of, code_places, breaks_as}
use Rattle.placed_code.specs.Results.{Allocated, all_placed, procedures_of, IsSequence, AreSoundResults, IsImageOf, same_reason, begins_with, Agrees}
use Rattle.placed_code.proofs.Parts.{length_map, procedures_are}
use Rattle.placed_code.proofs.Sounds.{orders, Begins, is_placement}
use Rattle.placed_code.proofs.Whole.{agrees}

in_range : (is : List Instr) → AllInRange is → machine.AllInRange is
in_range [] r = tt
in_range (i ∷ is) r = (r.0, in_range is r.1)

module _ (k frame : ℕ) (steps : List Move → List Copy) (rs : List Allocated) (extra : ImageData) (input : List ℕ) (few_regs : k ≤ 16) (sequence : IsSequence steps) (sound : AreSoundResults k frame steps rs) (image : IsImageOf steps rs extra frame) (small : (i : ℕ) → get_or input i 0 < 2 ^ 64) where
  abbrev ps : List Placed
  ps = all_placed steps rs

  few : length (all_words ps) ≤ 2 ^ 18
  few = let n = length_map word_of (all_words ps) in let c = image.form.code in omega (arith, n, c)

  pub agreed_with : {U : Type 0} (before : U → Stop → Type 0) → ((u : U) (at : ℕ) → before u (Fault at) → ⊥) → (meaning : ℕ → Outcome U)
      → ((n : ℕ) → Keeps (block_system (procedures_of rs) (code_places ps)) (least (procedures_of rs)) (all_points (procedures_of rs)) before (begins_with extra input) n (meaning n))
      → InStep (system (image_of ps extra frame)) (length (image_of ps extra frame).code) (Through before (breaks_as ps)) (start (image_of ps extra frame) input) meaning
  agreed_with {U} before none meaning keeps =
      let table = in_range (all_words ps) image.in_table in
      let placement = is_placement k frame few_regs steps sequence rs sound few table in
      agrees ps extra frame image.form image.bytes few table (orders k frame few_regs steps sequence rs sound) (Begins k frame few_regs steps sequence rs sound) placement input small {U = U} before none meaning
      (λ n. subst (λ (fs : List Procedure). Keeps (block_system fs (code_places ps)) (least fs) (all_points fs) before (begins_with extra input) n (meaning n)) (sym (procedures_are steps rs)) (keeps n))

  pub agreed : Agrees steps rs extra frame input
  agreed meaning keeps = agreed_with same_reason (λ u at h. h) meaning keeps
