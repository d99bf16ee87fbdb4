use Rattle.std.proofs.Common.{List, ℕ, ◌-◌}
use Rattle.a64_memory.specs.Texts.{text_at}
use Rattle.a64_machine.proofs.Texts.{Seen}
use Rattle.a64_machine.proofs.text.outside.Given as goal

abbrev pub invariant-loop-n : goal.invariant-loop-n
invariant-loop-n l =
    let memory = l.regions in
    (front : List ℕ) × Seen (text_at memory l.by l.from l.most) memory l.by l.at (l.most - l._n) front
