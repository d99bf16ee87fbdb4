use Rattle.ob_grammar.specs.Terminals.{number_of}
use Rattle.parse_steps.proofs.Steps.{took}
use Rattle.parse_steps.proofs.parser.Parser.take.Goals as goal

pub returns-then-is_at : goal.returns-then-is_at
returns-then-is_at c = took (number_of c.args.terminal) c.args.self.now c.advance-index.new.self c.advance-index.result c.if-is_at.ensures.tells c.advance-index.ensures.rest c.advance-index.ensures.at
