use Rattle.std.proofs.Common.{map, refl}
use Rattle.ob_grammar.specs.Terminals.{number_at}
use Rattle.parse_steps.proofs.Steps.{gone_past}
use Rattle.parse_steps.proofs.parser.Parser.advance.Goals as goal

pub returns-clause-rest : goal.returns-clause-rest
returns-clause-rest c = gone_past (map number_at c.self.inside.symbols.now) c.self.inside.next c.self.inside.depth c.args.self.now _ c.self.view_is refl
