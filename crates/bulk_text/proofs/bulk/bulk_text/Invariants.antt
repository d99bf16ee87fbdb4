use Rattle.std.proofs.Common.{◌≡◌, ◌++◌, ◌-◌}
use Rattle.std.specs.Prelude.{codes}
use Rattle.bulk_text.specs.Bulk.{line, procedures}
use Rattle.bulk_text.proofs.bulk.bulk_text.Given as goal

abbrev pub invariant-loop-i : goal.invariant-loop-i
invariant-loop-i l = l.text.items ++ procedures l.i (l.size - l.i) l.random ≡ line (codes "MODULE Bulk; IMPORT Out;") ++ procedures 0 l.size l.seed
