use Rattle.std.proofs.Common.{◌≡◌, ◌+◌}
use Rattle.ssa_lowered.specs.Pieces.{numbers}
use Rattle.ssa_statements.proofs.cases.labels.Given as goal

abbrev pub invariant-loop-i : goal.invariant-loop-i
invariant-loop-i l = (l.b ≡ record l.initial.b { labels = l.initial.b.labels + l.i }) × (l.list.items ≡ numbers l.initial.b.labels l.i)
