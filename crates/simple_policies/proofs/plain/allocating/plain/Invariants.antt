use Rattle.simple_policies.specs.plain.Plain.{InFlow}
use Rattle.simple_policies.specs.plain.Parts.{AreParts}
use Rattle.simple_policies.proofs.plain.allocating.plain.Given as goal

abbrev pub invariant-loop-number : goal.invariant-loop-number
invariant-loop-number l = InFlow l.t.flow.now l.t.trace.now.nodes → AreParts l.t l.number-index l.parts
