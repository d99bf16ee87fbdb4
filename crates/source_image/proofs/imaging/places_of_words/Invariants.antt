use Rattle.std.proofs.Common.{take}
use Rattle.image_file.specs.Spelling.{place_numbers, AreWords}
use Rattle.source_image.proofs.imaging.places_of_words.Given as goal

abbrev pub invariant-loop-place : goal.invariant-loop-place
invariant-loop-place l = AreWords (place_numbers (take l.place-index l.places))
