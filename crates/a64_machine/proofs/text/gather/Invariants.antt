use Rattle.std.proofs.Common.{◌≡◌, ◌+◌, ◌-◌, ◌≤◌, length, take}
use Rattle.a64_memory.specs.Texts.{text_at, after_bytes}
use Rattle.a64_machine.proofs.text.gather.Given as goal

abbrev pub invariant-loop-count : goal.invariant-loop-count
invariant-loop-count l =
    let old = l.initial.rest in
    (l.count ≤ length l.piece)
    × (text_at l.regions l.by old.at old.left ≡ after_bytes (take l.count l.piece) (text_at l.regions l.by l.rest.at l.rest.left))
    × (old.left ≡ l.rest.left + l.count)

abbrev pub decreases-loop-count : goal.decreases-loop-count
decreases-loop-count l = length l.initial.piece - l.count
