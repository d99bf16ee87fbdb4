use Rattle.std.proofs.Common.{ℕ, List, subst}
use Rattle.image_form.specs.declared.image.ProcPlace.{ProcPlace}
use Rattle.image_file.specs.Spelling.{AreWords, place_numbers}
use Rattle.source_image.proofs.imaging.of_words.Goals as goal

pub returns : goal.returns
returns c = record {
  code = subst (λ (xs : List ℕ). AreWords xs) c.as_slice.ensures c.code_of_words.ensures;
  places = subst (λ (ps : List ProcPlace). AreWords (place_numbers ps)) c.as_slice-2.ensures c.places_of_words.ensures;
}
