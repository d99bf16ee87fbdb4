use Rattle.std.proofs.Common.{◌≡◌, drop}
use Rattle.ssa_valid.specs.Tables.{noted}
use Rattle.ssa_valid.proofs.lists.Lists.note_all.Given as goal

abbrev pub invariant-loop-number : goal.invariant-loop-number
invariant-loop-number l = noted l.block (drop l.number-index l.numbers) l.self ≡ noted l.block l.numbers l.initial.self
