use Rattle.std.proofs.Common.{sym, ap, ◌∙◌}
use Rattle.std.specs.Prelude.{option_copied}
use Rattle.a64_machine.specs.View.{code_of, state_of}
use Rattle.a64_machine.proofs.Making.{made_by, step-effect}
use Rattle.a64_machine.proofs.machine.Machine.step.Goals as goal

pub returns-in-Some-clause-made : goal.returns-in-Some-clause-made
returns-in-Some-clause-made g c =
    let s = state_of c.args.self.now in
    made_by _ s _ _ _ _ _ (sym (step-effect (code_of c.args.self.now) s c.in-Some.i.now (sym c.instruction.ensures.is ∙ ap option_copied c.in-Some.is))) c.carries_out.ensures.made
