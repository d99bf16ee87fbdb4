use Rattle.std.proofs.Common.{◌≡◌, ◌≤◌, length, map, take}
use Rattle.object_commands.specs.Reading.{AreContentsHeld}
use Rattle.object_commands.proofs.reading.read_contents.Given as goal

abbrev pub invariant-loop-place : goal.invariant-loop-place
invariant-loop-place g l = record {
  end : l.place-end ≡ length l.names;
  few : length l.names ≤ 64;
  stays : g.F.Files.held l.files ≡ g.F.Files.held l.initial.files;
  rises : g.F.Files.faults l.initial.files ≤ g.F.Files.faults l.files;
  read : AreContentsHeld (g.F.Files.held l.initial.files) (map (λ name. name.now) (take l.place l.names)) l.read;
}
