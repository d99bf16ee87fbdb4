use Rattle.std.proofs.Common.{◌≡◌, drop}
use Rattle.alloc_audit.specs.Nodes.{is_single}
use Rattle.alloc_audit.proofs.places.is_single.Given as goal

abbrev pub invariant-loop-at : goal.invariant-loop-at
invariant-loop-at l = is_single (drop l.at l.regs) ≡ is_single l.regs
