use Rattle.std.proofs.Common.{◌≡◌, ◌++◌, map, take}
use Rattle.eval_layouts.specs.First.{string_of}
use Rattle.eval_layouts.proofs.first.push_strings.Given as goal

abbrev pub invariant-loop-text : goal.invariant-loop-text
invariant-loop-text l = l.all ≡ l.initial.all ++ map string_of (take l.text-index l.texts)
