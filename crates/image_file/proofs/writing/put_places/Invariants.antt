use Rattle.std.proofs.Common.{◌≡◌, ◌++◌, take}
use Rattle.image_file.specs.Spelling.{place_numbers, AreWords}
use Rattle.image_file.proofs.Places.{place_bytes}
use Rattle.image_file.proofs.writing.put_places.Given as goal

abbrev pub invariant-loop-place : goal.invariant-loop-place
invariant-loop-place l = record {
  written : l.out.items ≡ l.fn.out.items ++ place_bytes (take l.place-index l.places);
  words : AreWords (place_numbers (take l.place-index l.places));
}
