use Rattle.std.proofs.Common.{◌≡◌, take}
use Rattle.std.specs.Prelude.{map}
use Rattle.a64_table.specs.Decode.{decode_of}
use Rattle.a64_machine.proofs.code.decoded.Given as goal

abbrev pub invariant-loop-word : goal.invariant-loop-word
invariant-loop-word l = l.instructions.items ≡ map decode_of (take l.word-index l.words)
