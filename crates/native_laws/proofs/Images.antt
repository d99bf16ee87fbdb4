-- No code word of an image of texts names X28.
use Rattle.std.proofs.Common.{◌≡◌, ℕ, zero, suc, List, [], ◌∷◌, map, Option, Some, true, sym, ap, ◌∙◌, subst}
use Rattle.std.specs.Prelude.{slice_get}
use Rattle.std.specs.Option.{option_and_then}
use Rattle.image_form.specs.declared.image.Image.{Image}
use Rattle.a64_instr.specs.declared.instr.Instr.{Instr}
use Rattle.a64_table.specs.Table.{word_of}
use Rattle.a64_table.specs.Decode.{decode_of}
use Rattle.a64_table.proofs.Laws.{decodes}
use Rattle.ssa_lowered.specs.Lowered.{lowered}
use Rattle.lowered_valid.proofs.Modest.{all_few, all_small}
use Rattle.placed_code.specs.Placed.{Placed}
use Rattle.placed_code.specs.Layout.{all_words}
use Rattle.placed_code.specs.Claims.{AllInRange}
use Rattle.placed_code.specs.Results.{all_placed}
use Rattle.linked_flows.specs.Allocations.{steps_of, all_allocated}
use Rattle.source_image.proofs.link_plan.InTable.{AllLow, all_in_table}
use Rattle.source_image.specs.alloc_choice.declared.choice.Choice.{Choice}
use Rattle.source_image.specs.program_image.declared.imaging.Compiled.{Compiled}
use Rattle.source_image.specs.Images.{IsImageOfTexts}
use Rattle.elf_file.specs.Placed.{instr_at}
use Rattle.elf_file.proofs.Hanging.{stays}
use Rattle.native_laws.specs.Registers.{leaves_frame_register, StandsForItself}
use Rattle.native_laws.proofs.Free.{AllFree, all_free, leaves}
use Rattle.native_laws.proofs.Low.{all_low}
use Rattle.native_laws.proofs.Modest.{all_kinds}

-- the word of an instruction that doesn't name X28
record IsLeaving (word : ℕ) : Type 0 where
  instr : Instr
  is : decode_of word ≡ Some instr
  spared : leaves_frame_register instr ≡ true

word_at : (is : List Instr) → AllInRange is → AllFree is → (n word : ℕ) → slice_get (map word_of is) n ≡ Some word → IsLeaving word
word_at [] r f n word e = absurd cc
word_at (i ∷ is) r f zero word e =
    let same : word_of i ≡ word = cc in
    record { instr = i; is = ap decode_of (sym same) ∙ decodes i r.0; spared = leaves i f.0 }
word_at (i ∷ is) r f (suc n) word e = word_at is r.1 f.1 n word e

of_table : (choice : Choice) (texts : List (List ℕ)) (made : Compiled) → IsImageOfTexts choice texts made → (n word : ℕ) → slice_get made.image.code n ≡ Some word → IsLeaving word
of_table choice texts made image n word e =
    let p = image.program in
    let ps : List Placed = all_placed steps_of (all_allocated image.cuts) in
    let low : AllLow ps = all_low choice 0 (lowered p) image.cuts (all_few p image.within) (all_small p image.well_formed image.within) (all_kinds p) image.is.are.flows image.is.are.each in
    word_at (all_words ps) (all_in_table ps low) (all_free ps low) n word (ap (λ (x : Image). slice_get x.code n) (sym image.is.is) ∙ e)

pub leave : (choice : Choice) (texts : List (List ℕ)) (made : Compiled) → IsImageOfTexts choice texts made
    → (n word : ℕ) (instr : Instr) → slice_get made.image.code n ≡ Some word → decode_of word ≡ Some instr → leaves_frame_register instr ≡ true
leave choice texts made image n word instr e d =
    let w : IsLeaving word = of_table choice texts made image n word e in
    let both : Some w.instr ≡ Some instr = sym w.is ∙ d in
    let same : w.instr ≡ instr = cc in
    subst (λ (i : Instr). leaves_frame_register i ≡ true) same w.spared

pub stand : (choice : Choice) (texts : List (List ℕ)) (made : Compiled) → IsImageOfTexts choice texts made → (n word : ℕ) → slice_get made.image.code n ≡ Some word → StandsForItself made.image n word
stand choice texts made image n word e =
    let w : IsLeaving word = of_table choice texts made image n word e in
    let there : instr_at made.image.code n ≡ Some w.instr = ap (λ (o : Option ℕ). option_and_then decode_of o) e ∙ w.is in
    record { instr = w.instr; is = w.is; leaves = w.spared; native = stays made.image n w.instr there }
