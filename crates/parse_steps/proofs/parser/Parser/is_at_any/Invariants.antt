use Rattle.std.proofs.Common.{◌≡◌, map, drop}
use Rattle.ob_grammar.specs.Terminals.{number_of}
use Rattle.ob_grammar.specs.Reading.{is_next}
use Rattle.parse_steps.proofs.parser.Parser.is_at_any.Given as goal

abbrev pub invariant-rounds : goal.invariant-rounds
invariant-rounds l = is_next (map number_of (drop l.terminal-index l.terminals)) l.self.rest ≡ is_next (map number_of l.terminals) l.self.rest
