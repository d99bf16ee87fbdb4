use Rattle.std.proofs.Common.{◌≡◌, ◌+◌, drop, length}
use Rattle.ob_types.specs.Meaning.{texts_of}
use Rattle.source_program.proofs.program.have_numbers.Given as goal

abbrev pub invariant-loop-procedure : goal.invariant-loop-procedure
invariant-loop-procedure l = length (texts_of l.procedures) + l.left ≡ 4294967295 + length (texts_of (drop l.procedure-index l.procedures))
