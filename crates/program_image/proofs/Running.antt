-- An image of a program does what the program means.
use Rattle.std.proofs.Common.{◌≡◌, ℕ, zero, suc, ◌-◌, ◌*◌, ◌<◌, ◌^◌, List, [], ◌∷◌, ◌++◌, length, map, get_or, replicate, true, None, refl, subst, arith}
use Rattle.std.specs.Prelude.{All, nat_lt}
use Rattle.std.specs.List.{flat_map}
use Rattle.std.specs.Int.{to_le_bytes, w64}
use Rattle.std.proofs.lemmas.Bool.{ltb-true}
use Rattle.image_form.specs.declared.image.Image.{Image}
use Rattle.image_form.specs.Form.{IsInForm}
use Rattle.a64_memory.specs.Memory.{AreBytes}
use Rattle.a64_memory.proofs.Cells.{no_bytes, more_bytes, bytes_of_8}
use Rattle.a64_memory.proofs.Shapes.{zero_bytes, append_bytes}
use Rattle.a64_memory.specs.Areas.{data_base}
use Rattle.ob_types.specs.Forms.{all}
use Rattle.ob_types.specs.Meaning.{texts_of}
use Rattle.ob_types.specs.WellFormed.{well_formed}
use Rattle.ob_types.specs.declared.program.Program.{Program}
use Rattle.ob_types.proofs.WellFormedParts.{parts_of}
use Rattle.ssa_core.specs.declared.procedure.Proc.{Proc}
use Rattle.ssa_lowered.specs.Constants.{ancestor, address_of, descriptor_bytes, character_bytes, text_bytes}
use Rattle.ssa_lowered.specs.Data.{Layout, layout, text_room}
use Rattle.ssa_lowered.specs.Limits.{limit_of}
use Rattle.ssa_lowered.specs.Lowered.{lowered}
use Rattle.ssa_lowered.specs.Pieces.{numbers}
use Rattle.linked_flows.specs.Allocations.{Cut}
use Rattle.link_plan.specs.Linked.{linked, Runs}
use Rattle.link_plan.proofs.Low.{and_left, and_right}
use Rattle.alloc_choice.specs.declared.choice.Choice.{Choice}
use Rattle.back_end.specs.declared.imaging.LinkedProcedures.{LinkedProcedures}
use Rattle.back_end.specs.Images.{IsImageBy}
use Rattle.lowered_valid.specs.Claims.{IsShort}
use Rattle.lowered_runs.specs.Claims.{constants_of}
use Rattle.lowered_runs.specs.Words.{AreInput}
use Rattle.placed_code.specs.declared.data.ImageData.{ImageData}
use Rattle.compiled_runs.specs.Compiled.{data_of, flows_of, CanRunAnywhere}
use Rattle.compiled_runs.proofs.Whole.{means}
use Rattle.program_image.specs.Images.{IsProgramImage, DoesAsMeant}
use Rattle.program_image.proofs.Ready.{valid}
use Rattle.program_image.proofs.Fitting.{room, near}
use Rattle.lowered_runs.proofs.Samples.{each_bytes}

---- Constants are bytes

module _ (p : Program) where
  abbrev l : Layout
  l = layout p.types

  descriptor_small : (r : ℕ) → AreBytes (descriptor_bytes p l data_base r)
  descriptor_small r = each_bytes (λ j. to_le_bytes w64 (address_of p l data_base (ancestor p.types j r))) (λ j. bytes_of_8 (address_of p l data_base (ancestor p.types j r))) (numbers 0 16)

  character_small : (c : ℕ) → c < 2 ^ 8 → AreBytes (character_bytes l c)
  character_small c h = more_bytes c (replicate (l.character - 1) 0) h (zero_bytes (l.character - 1))

  characters_small : (xs : List ℕ) → all (λ c. nat_lt c 256) xs ≡ true → AreBytes (flat_map (character_bytes l) (xs ++ 0 ∷ []))
  characters_small [] e = append_bytes (character_bytes l 0) [] (character_small 0 (omega arith)) no_bytes
  characters_small (x ∷ xs) e =
      let h = ltb-true x 256 (and_left (nat_lt x 256) (all (λ c. nat_lt c 256) xs) e) in
      append_bytes (character_bytes l x) (flat_map (character_bytes l) (xs ++ 0 ∷ [])) (character_small x (omega (arith, h))) (characters_small xs (and_right (nat_lt x 256) (all (λ c. nat_lt c 256) xs) e))

  texts_small : (xss : List (List ℕ)) → all (all (λ c. nat_lt c 256)) xss ≡ true → AreBytes (flat_map (text_bytes l) xss)
  texts_small [] e = no_bytes
  texts_small (xs ∷ xss) e =
      let n = text_room l xs - l.character * suc (length xs) in
      let one = characters_small xs (and_left (all (λ c. nat_lt c 256) xs) (all (all (λ c. nat_lt c 256)) xss) e) in
      append_bytes (text_bytes l xs) (flat_map (text_bytes l) xss) (append_bytes (flat_map (character_bytes l) (xs ++ 0 ∷ [])) (replicate n 0) one (zero_bytes n))
      (texts_small xss (and_right (all (λ c. nat_lt c 256) xs) (all (all (λ c. nat_lt c 256)) xss) e))

  constants_small : well_formed p ≡ true → AreBytes (constants_of p)
  constants_small fine =
      let texts = (parts_of p fine).texts in
      append_bytes (flat_map (descriptor_bytes p l data_base) (numbers 0 (length p.types.records))) (flat_map (text_bytes l) (texts_of p.procedures))
      (each_bytes (descriptor_bytes p l data_base) descriptor_small (numbers 0 (length p.types.records))) (texts_small (texts_of p.procedures) texts)

---- Inputs

input_small : (xs : List ℕ) → AreInput xs → (i : ℕ) → get_or xs i 0 < 2 ^ 64
input_small [] e i = omega arith
input_small (x ∷ xs) e zero = let h = ltb-true x 256 (and_left (nat_lt x 256) (all (λ y. nat_lt y 256) xs) e) in omega (arith, h)
input_small (x ∷ xs) e (suc i) = input_small xs (and_right (nat_lt x 256) (all (λ y. nat_lt y 256) xs) e) i

---- The image

-- the same image, in the words of the program
pub in_program : (choice : Choice) (p : Program) (procs : List Proc) (extra : ImageData) (made : LinkedProcedures) → procs ≡ lowered p → extra ≡ data_of p → IsImageBy choice procs extra made → IsImageBy choice (lowered p) (data_of p) made
in_program choice p procs extra made a b h = subst (λ ps. IsImageBy choice ps (data_of p) made) a (subst (λ x. IsImageBy choice procs x made) b h)

module _ (p : Program) (fine : well_formed p ≡ true) (none : limit_of p ≡ None) where
  pub can_run : (input : List ℕ) → AreInput input → CanRunAnywhere p input
  can_run input numbers code places = record {
    fine = fine;
    numbers = numbers;
    bytes = constants_small p fine;
    places = places;
    globals = (room p none).0;
    room = (room p none).1;
    stands = λ has. record { same = refl; near = near p none };
  }

-- an image of its flows in traces with results, whoever made these
module _ (p : Program) (cuts : List Cut) (image : Image) (flows : map (λ c. c.flow) cuts ≡ flows_of p) (is : image ≡ linked cuts (data_of p))
    (runs : (input : List ℕ) → AreBytes (constants_of p) → ((i : ℕ) → get_or input i 0 < 2 ^ 64) → Runs image cuts (data_of p) input)
    (fine : well_formed p ≡ true) (none : limit_of p ≡ None) (short : All IsShort (lowered p)) (form : IsInForm image) where
  pub linked_does_as_meant : DoesAsMeant p cuts image
  linked_does_as_meant input numbers =
      means p cuts image input
      (record { flows = flows; is = is; form = form })
      (runs input (constants_small p fine) (input_small input numbers))
      (valid p fine none short)
      (can_run p fine none input numbers)

module _ (choice : Choice) (p : Program) (made : LinkedProcedures) (h : IsImageBy choice (lowered p) (data_of p) made) where
  pub program_image_is : IsProgramImage choice p h.cuts made.image
  program_image_is = record { are = h.are; few = h.few; is = h.is }

  pub does_as_meant : well_formed p ≡ true → limit_of p ≡ None → All IsShort (lowered p) → IsInForm made.image → DoesAsMeant p h.cuts made.image
  does_as_meant fine none short form = linked_does_as_meant p h.cuts made.image h.are.flows h.is h.runs fine none short form
