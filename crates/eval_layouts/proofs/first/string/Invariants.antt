use Rattle.std.proofs.Common.{◌≡◌, map, take}
use Rattle.ob_types.specs.Store.{Bits}
use Rattle.eval_layouts.proofs.first.string.Given as goal

abbrev pub invariant-loop-character : goal.invariant-loop-character
invariant-loop-character l = l.cells.items ≡ map Bits (take l.character-index l.text)
