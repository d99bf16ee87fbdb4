use Rattle.std.proofs.Common.{sym, ap, ◌∙◌}
use Rattle.ob_syntax.specs.Plain.{plain_factor}
use Rattle.ob_judge.specs.Symbols.{bare_factor}
use Rattle.check_operands.proofs.symbols.Parts.{designator_parts}
use Rattle.check_operands.proofs.symbols.bare.bare_factor.Goals as goal

pub returns-in-Designator : goal.returns-in-Designator
returns-in-Designator c = c.bare_designator.ensures ∙ sym (ap (λ f. bare_factor (plain_factor f)) c.in-Designator.is ∙ ap bare_factor (designator_parts c.in-Designator.designator))
