use Rattle.std.proofs.Common.{◌∙◌, ap}
use Rattle.ob_grammar.specs.Terminals.{number_at}
use Rattle.parse_steps.specs.Parsing.{State, is_none}
use Rattle.parse_steps.proofs.Steps.{at_end}
use Rattle.parse_steps.proofs.parser.Parser.is_at_end.Goals as goal

pub returns : goal.returns
returns c = at_end number_at c.self.inside.symbols.now c.self.inside.next c.self.invariant.0 ∙ ap (λ (s : State). is_none s.rest) c.self.view_is
