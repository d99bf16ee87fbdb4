use Rattle.ob_grammar.specs.Terminals.{number_of}
use Rattle.parse_steps.proofs.Steps.{not_taken}
use Rattle.parse_steps.proofs.parser.Parser.expect.Goals as goal

pub returns-in-None-clause-gives : goal.returns-in-None-clause-gives
returns-in-None-clause-gives c = not_taken (number_of c.args.terminal) c.place.result c.args.self.now c.take.new.self c.in-None.ensures c.place.ensures
