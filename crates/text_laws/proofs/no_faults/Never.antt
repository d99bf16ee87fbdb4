-- What a program means corresponds to no fault of the machine.
use Rattle.std.proofs.Common.{◌≡◌, ◌<◌, ◌^◌, ℕ, zero, suc, List, [], ◌∷◌, length, Bool, true, false, ◌&&◌, refl, arith}
use Rattle.std.specs.Prelude.{get_or, nat_lt}
use Rattle.std.proofs.lemmas.Bool.{lt-ltb}
use Rattle.a64_memory.specs.Memory.{AreBytes}
use Rattle.ob_types.specs.Forms.{all}
use Rattle.lowered_runs.specs.Words.{AreInput}
use Rattle.run_laws.specs.Runs.{Trapped, run}
use Rattle.run_laws.proofs.Agreement.{trap_never}
use Rattle.image_form.specs.declared.image.Image.{Image}
use Rattle.a64_machine.specs.State.{Trap, Broke, Undefined, BadAddress, BadCall}
use Rattle.a64_machine.specs.Machine.{start, step_of, system}
use Rattle.ob_types.specs.Store as store
use Rattle.ob_types.specs.Meaning.{meaning}
use Rattle.ob_types.specs.declared.program.Program.{Program}
use Rattle.linked_flows.specs.Allocations.{Cut}
use Rattle.placed_code.specs.Placed.{Placed}
use Rattle.source_image.specs.compiled_runs.Compiled.{Means, placed_of, same_break}
use Rattle.source_image.specs.alloc_choice.declared.choice.Choice.{Choice}
use Rattle.source_image.specs.program_image.declared.imaging.Compiled.{Compiled}
use Rattle.source_image.specs.Images.{IsImageOfTexts}
use Rattle.text_laws.specs.no_faults.Faults.{IsBreak}

-- bytes are an input
both : (a b : Bool) → a ≡ true → b ≡ true → (a && b) ≡ true
both true b e f = f
both false b e f = e

pub are_input : (bs : List ℕ) → AreBytes bs → AreInput bs
are_input [] h = refl
are_input (b ∷ bs) h = let first = h 0 in both (nat_lt b 256) (all (λ x. nat_lt x 256) bs) (lt-ltb b 256 (omega (arith, first))) (are_input bs (λ i. h (suc i)))

module _ (p : Program) (ps : List Placed) (image : Image) where
  no_undefined : (word : ℕ) (mine : store.Trap) → same_break p ps image mine (Undefined word) → ⊥
  no_undefined word (store.Kind kind procedure) h = h.0
  no_undefined word store.Senseless h = h

  no_address : (address : ℕ) (mine : store.Trap) → same_break p ps image mine (BadAddress address) → ⊥
  no_address address (store.Kind kind procedure) h = h.0
  no_address address store.Senseless h = h

  no_call : (number : ℕ) (mine : store.Trap) → same_break p ps image mine (BadCall number) → ⊥
  no_call number (store.Kind kind procedure) h = h.0
  no_call number store.Senseless h = h

module _ (p : Program) (cuts : List Cut) (image : Image) (input : List ℕ) (means : Means p cuts image input) (steps : ℕ) (out : List ℕ) where
  pub is_break : (trap : Trap) → run (step_of image.code) steps (start image input) [] ≡ Trapped trap out → IsBreak trap
  is_break (Broke kind place) is = tt
  is_break (Undefined word) is = trap_never (system image) (length image.code) (same_break p (placed_of cuts) image) (start image input) (meaning p input) means (Undefined word) (no_undefined p (placed_of cuts) image word) steps out is
  is_break (BadAddress address) is = trap_never (system image) (length image.code) (same_break p (placed_of cuts) image) (start image input) (meaning p input) means (BadAddress address) (no_address p (placed_of cuts) image address) steps out is
  is_break (BadCall number) is = trap_never (system image) (length image.code) (same_break p (placed_of cuts) image) (start image input) (meaning p input) means (BadCall number) (no_call p (placed_of cuts) image number) steps out is

-- the machine that runs an image of texts comes to no fault
pub image_never_faults : (choice : Choice) (texts : List (List ℕ)) (made : Compiled) (input : List ℕ) (steps : ℕ) (trap : Trap) (out : List ℕ)
    → IsImageOfTexts choice texts made → AreBytes input → run (step_of made.image.code) steps (start made.image input) [] ≡ Trapped trap out → IsBreak trap
image_never_faults choice texts made input steps trap out is are e = is_break is.program is.cuts made.image input (is.means input (are_input input are)) steps out trap e
