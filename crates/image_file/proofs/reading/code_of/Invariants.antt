use Rattle.std.proofs.Common.{◌≡◌, ◌*◌, length, take, drop}
use Rattle.std.specs.List.{flat_map}
use Rattle.image_file.specs.Spelling.{number, AreWords}
use Rattle.image_file.proofs.reading.code_of.Given as goal

abbrev pub invariant-loop-i : goal.invariant-loop-i
invariant-loop-i l = record {
  spelled : flat_map number l.code.items ≡ take (4 * l.i) (drop l.from l.bytes);
  count : length l.code.items ≡ l.i;
  below : AreWords l.code.items;
}
