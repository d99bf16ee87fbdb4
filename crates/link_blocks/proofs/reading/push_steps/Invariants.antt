use Rattle.std.proofs.Common.{◌≡◌, ◌++◌, map, drop}
use Rattle.link_layout.specs.Spots.{copy_of}
use Rattle.linked_flows.specs.Allocations.{copies_of}
use Rattle.link_blocks.proofs.reading.push_steps.Given as goal

abbrev pub invariant-loop-step : goal.invariant-loop-step
invariant-loop-step l = map copy_of l.copies.items ++ copies_of (drop l.step-index l.steps) ≡ map copy_of l.initial.copies.items ++ copies_of l.steps
