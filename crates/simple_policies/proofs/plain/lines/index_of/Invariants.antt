use Rattle.std.proofs.Common.{◌≡◌, ◌+◌, drop}
use Rattle.simple_policies.specs.plain.Plain.{index_of}
use Rattle.simple_policies.proofs.plain.lines.index_of.Given as goal

abbrev pub invariant-loop-index : goal.invariant-loop-index
invariant-loop-index l = l.index + index_of (drop l.index l.values) l.value ≡ index_of l.values l.value
