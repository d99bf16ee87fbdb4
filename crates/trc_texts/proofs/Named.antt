-- A refusal names one of the texts that are refused.
use Rattle.std.proofs.Common.{◌≡◌, ◌<◌, ℕ, zero, suc, List, [], ◌∷◌, length, Some, arith}
use Rattle.std.specs.Prelude.{slice_get}
use Rattle.ob_types.specs.declared.program.Program.{Program}
use Rattle.image_words.specs.program_image.declared.fault.ProgramFault.{ProgramFault}
use Rattle.image_words.specs.source_image.Refusals.{IsRefusalOf}
use Rattle.image_words.specs.source_image.declared.refusal.Refusal.{Refusal}
use Rattle.image_words.specs.source_image.declared.refusal.Refusal.TheVariants.{TooLong, Source, Limit, Memory}
use Rattle.trc_texts.specs.Texts.{NamesText}

there : {A : Type 0} (xs : List A) (n : ℕ) (x : A) → slice_get xs n ≡ Some x → n < length xs
there [] zero x e = absurd (let z = e in cc)
there [] (suc n) x e = absurd (let z = e in cc)
there (y ∷ xs) zero x e = omega arith
there (y ∷ xs) (suc n) x e = let l = there xs n x e in omega (arith, l)

-- a refusal names one of the texts that are refused
pub names_text : (texts : List (List ℕ)) (refusal : Refusal) (TellsOf : Program → ProgramFault → Type 0) → IsRefusalOf TellsOf texts refusal → NamesText texts refusal
names_text texts (TooLong m) TellsOf h = there texts m h.bytes h.text
names_text texts (Source m number at) TellsOf h = there texts m h.bytes h.text
names_text texts (Limit number index) TellsOf h = tt
names_text texts Memory TellsOf h = tt
