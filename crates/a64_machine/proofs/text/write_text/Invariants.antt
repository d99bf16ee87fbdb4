use Rattle.std.proofs.Common.{List, ℕ, ◌≤◌}
use Rattle.outside.specs.Sink.{TookAll}
use Rattle.a64_memory.specs.Texts.{text_at}
use Rattle.a64_machine.proofs.Texts.{Seen}
use Rattle.a64_machine.proofs.text.write_text.Given as goal

abbrev pub invariant-loop : goal.invariant-loop
invariant-loop g l =
    let old = l.initial.out in
    (front : List ℕ)
    × Seen (text_at l.regions l.by l.from l.most) l.regions l.by l.rest.at l.rest.left front
    × TookAll (g.O.Sink.account old) (g.O.Sink.account l.out) front
    × ((g.O.Sink.account old).faults ≤ (g.O.Sink.account l.out).faults)

abbrev pub decreases-loop : goal.decreases-loop
decreases-loop g l = l.rest.left
