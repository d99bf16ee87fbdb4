use Rattle.std.proofs.Common.{◌≡◌, drop}
use Rattle.alloc_audit.specs.Verdicts.{nodes_failure}
use Rattle.alloc_audit.specs.Parts.{grounds_for}
use Rattle.alloc_audit.proofs.results.nodes_failure.Given as goal

abbrev pub invariant-loop-at : goal.invariant-loop-at
invariant-loop-at l =
    let c = grounds_for l.audited.registers l.audited.slots l.audited.flow.now l.audited.live.now l.numbers in
    nodes_failure c l.at (drop l.at l.numbers) (drop l.at l.starts) (drop l.at l.lines) (drop l.at l.regs) (drop l.at l.ends) ≡ nodes_failure c 0 l.numbers l.starts l.lines l.regs l.ends
