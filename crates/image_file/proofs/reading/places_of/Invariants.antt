use Rattle.std.proofs.Common.{◌≡◌, ◌*◌, length, take, drop}
use Rattle.image_file.specs.Spelling.{place_numbers, AreWords}
use Rattle.image_file.proofs.Places.{place_bytes}
use Rattle.image_file.proofs.reading.places_of.Given as goal

abbrev pub invariant-loop-i : goal.invariant-loop-i
invariant-loop-i l = record {
  spelled : place_bytes l.places.items ≡ take (12 * l.i) (drop l.from l.bytes);
  count : length l.places.items ≡ l.i;
  below : AreWords (place_numbers l.places.items);
}
