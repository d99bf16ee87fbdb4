-- The linked image runs as the flows mean.
use Rattle.std.proofs.Common.{◌≡◌, ℕ, suc, ◌<◌, ◌≤◌, ◌^◌, List, [], ◌∷◌, ◌++◌, map, length, get_or, refl, arith, sym, ap, ◌∙◌, subst}
use Rattle.std.specs.Prelude.{replicate, drop}
use Rattle.std.proofs.lemmas.List.{length-replicate}
use Rattle.run_laws.specs.Runs.{Outcome, Keeps, InStep}
use Rattle.run_laws.specs.Layers.{Through, places_from}
use Rattle.run_laws.proofs.Layers.{length-places_from}
use Rattle.run_laws.proofs.Agreement.{in_step as agreement}
use Rattle.run_laws.proofs.Lowering.{Keeps-least}
use Rattle.a64_memory.specs.Memory.{AreBytes}
use Rattle.a64_table.specs.Table.{word_of}
use Rattle.image_form.specs.declared.image.Image.{Image}
use Rattle.image_form.specs.Form.{IsInForm}
use Rattle.a64_instr.specs.declared.instr.Instr.{Instr}
use Rattle.a64_memory.specs.Areas.{data_base, local_base, local_bytes, heap_base, heap_bytes, frames_base, frames_bytes, zeroed}
use Rattle.a64_machine.specs.Machine.{start, system}
use Rattle.a64_machine.proofs.Regions.{first_memory-rises}
use Rattle.a64_machine.proofs.Steps.{AllInRange}
use Rattle.a64_machine.proofs.Numbers.{numbers_stay, numbers_at_start}
use Rattle.block_runs.specs.Blocks.{block_of, procedure_of}
use Rattle.block_runs.specs.States.{Stop, Fault, Point, Begin, Entry, In, At}
use Rattle.block_runs.specs.First.{first_world}
use Rattle.block_runs.specs.Steps.{block_system}
use Rattle.block_runs.specs.Points.{least, all_points}
use Rattle.lir_core.specs.Spots.{Spot}
use Rattle.placed_code.specs.declared.data.ImageData.{ImageData}
use Rattle.placed_code.specs.Placed.{Placed, procedures, proc_of}
use Rattle.placed_code.specs.Layout.{all_words, code_of}
use Rattle.placed_code.specs.Results.{begins_with}
use Rattle.placed_code.specs.Claims.{Ordered, Safe, image_of, code_places, breaks_as}
use Rattle.placed_code.proofs.Relation.{Starting}
use Rattle.placed_code.proofs.Linking.{linked, standing, Sound, opens, fits}
use Rattle.placed_code.proofs.Carried.{keeps_small, in_step_with, least_small, safe_start}

length_words : (is : List Instr) → length (map word_of is) ≡ length is
length_words [] = refl
length_words (i ∷ is) = ap suc (length_words is)

least_le : (ps : List Placed) (p : Point) → least (procedures ps) p ≤ 1
least_le ps (Begin j) = omega arith
least_le ps (Entry p) = omega arith
least_le ps (In p b i) = least_small (drop i (block_of (procedure_of (procedures ps) p) b).ops) (block_of (procedure_of (procedures ps) p) b).end
least_le ps (At part) = omega arith

module _ (ps : List Placed) (extra : ImageData) (frame : ℕ) (form : IsInForm (image_of ps extra frame)) (bytes : AreBytes extra.constants)
    (few : length (all_words ps) ≤ 2 ^ 18) (in_table : AllInRange (all_words ps)) (orders : (q : ℕ) → q < length ps → Ordered (proc_of ps q))
    (Begins : (p b : ℕ) → (ℕ → ℕ) → (Spot → ℕ) → Type 0) (sound : Sound ps frame few in_table orders Begins) (input : List ℕ) (small : (i : ℕ) → get_or input i 0 < 2 ^ 64) where
  abbrev image : Image
  image = image_of ps extra frame

  starting : Starting (linked ps frame few in_table orders) Begins (keeps_small (linked ps frame few in_table orders) Begins (numbers_stay (code_of ps)) refl (opens ps frame few in_table orders Begins sound)) (first_world extra.globals extra.constants input) (start image input)
  starting =
      let size : length (replicate {A = ℕ} (frames_bytes frame) 0) ≡ frames_bytes frame = length-replicate (frames_bytes frame) 0 in
      record {
        stack = zeroed frames_base (frames_bytes frame);
        at = record {
          pc = refl;
          sp = refl;
          memory = record {
            below = record { base = data_base; bytes = replicate extra.globals 0 ++ extra.constants } ∷ zeroed local_base local_bytes ∷ [];
            above = zeroed heap_base heap_bytes ∷ [];
            without = refl;
            among = refl;
            rises = first_memory-rises image form;
          };
          fixed = record { calls = refl; cells = refl; local = refl; globals = refl; next = refl; free = refl };
          input = refl;
          space = record { base = refl; size = size; small = form.frame; bottom = omega arith; top = omega arith };
          small = numbers_at_start image input form bytes small;
        };
        calls = refl;
        cells = refl;
        few = omega arith;
        standing = standing ps frame few in_table orders Begins sound;
      }

  -- what flows without a fault keep, the machine that runs their image is in step with
  in_step : {U : Type 0} (before : U → Stop → Type 0) (meaning : ℕ → Outcome U) → Safe (procedures ps) (code_places ps) (begins_with extra input)
      → ((n : ℕ) → Keeps (block_system (procedures ps) (code_places ps)) (least (procedures ps)) (all_points (procedures ps)) before (begins_with extra input) n (meaning n))
      → InStep (system image) (length image.code) (Through before (breaks_as ps)) (start image input) meaning
  in_step {U} before meaning safe keeps =
      let l = linked ps frame few in_table orders in
      let op = opens ps frame few in_table orders Begins sound in
      let s = in_step_with l Begins (numbers_stay (code_of ps)) refl op {U = U} (all_points (procedures ps)) (places_from 0 (length (all_words ps))) before (fits ps frame few in_table orders Begins) (first_world extra.globals extra.constants input) (start image input) safe starting meaning keeps in
      let n : length (places_from 0 (length (all_words ps))) ≡ length image.code = length-places_from 0 (length (all_words ps)) ∙ sym (length_words (all_words ps)) in
      subst (λ m. InStep (system image) m (Through before (breaks_as ps)) (start image input) meaning) n s

  -- whatever meaning the flows keep up with, where none of its traps is a fault
  pub agrees : {U : Type 0} (before : U → Stop → Type 0) → ((u : U) (at : ℕ) → before u (Fault at) → ⊥) → (meaning : ℕ → Outcome U)
      → ((n : ℕ) → Keeps (block_system (procedures ps) (code_places ps)) (least (procedures ps)) (all_points (procedures ps)) before (begins_with extra input) n (meaning n))
      → InStep (system image) (length image.code) (Through before (breaks_as ps)) (start image input) meaning
  agrees {U} before none meaning keeps =
      let all = all_points (procedures ps) in
      let y = block_system (procedures ps) (code_places ps) in
      let first = begins_with extra input in
      let safe : Safe (procedures ps) (code_places ps) first = safe_start (procedures ps) (code_places ps) (length all) before first meaning
      (agreement y all before first meaning (λ n. Keeps-least y (least (procedures ps)) (λ p. 1) (least_le ps) all before first n (meaning n) (keeps n))) none in
      in_step {U = U} before meaning safe keeps
