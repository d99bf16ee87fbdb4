use Rattle.std.proofs.Common.{◌≡◌, ◌++◌, drop}
use Rattle.placed_code.specs.Claims.{places_of}
use Rattle.procedure_code.specs.Parts.{entry_at}
use Rattle.link_plan.proofs.linking.places_of.Given as goal

abbrev pub invariant-loop-number : goal.invariant-loop-number
invariant-loop-number l = l.places.items ++ places_of (entry_at l.entries) l.number (drop l.number l.names) ≡ places_of (entry_at l.entries) 0 l.names
