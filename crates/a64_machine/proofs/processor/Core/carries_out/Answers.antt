use Rattle.std.proofs.Common.{sym, ◌∙◌}
use Rattle.a64_machine.specs.View.{core_state}
use Rattle.a64_machine.proofs.Making.{made_by, effect-service}
use Rattle.a64_machine.proofs.processor.Core.carries_out.Goals as goal

pub returns-in-Some-clause-made : goal.returns-in-Some-clause-made
returns-in-Some-clause-made g c =
    let s = core_state c.args.self.now in
    made_by _ s _ _ _ _ _ (effect-service c.args.i.now c.in-Some.number s (sym c.service_number.ensures ∙ c.in-Some.is)) c.service.ensures.made
