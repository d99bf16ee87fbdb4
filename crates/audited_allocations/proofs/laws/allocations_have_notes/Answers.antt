use Rattle.std.specs.Prelude.{◌<◌, ◌^◌}
use Rattle.std.proofs.lemmas.List.Elements.{recursion_from_All}
use Rattle.linked_flows.specs.Allocations.{Cut}
use Rattle.audited_allocations.proofs.Passing.{cuts_notable}
use Rattle.audited_allocations.proofs.laws.allocations_have_notes.Goals as goal

pub returns : goal.returns
returns c = λ choice first cuts h small. cuts_notable choice first cuts h (recursion_from_All (λ (c : Cut). c.flow.values < 2 ^ 32) cuts small)
