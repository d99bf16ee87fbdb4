use Rattle.std.proofs.Common.{◌≡◌, map, take}
use Rattle.ob_types.specs.Meaning.{texts_of}
use Rattle.eval_layouts.specs.First.{string_of}
use Rattle.eval_layouts.proofs.first.first_strings.Given as goal

abbrev pub invariant-loop-procedure : goal.invariant-loop-procedure
invariant-loop-procedure l = l.all ≡ map string_of (texts_of (take l.procedure-index l.procedure-items))
