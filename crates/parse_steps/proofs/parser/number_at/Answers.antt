use Rattle.std.proofs.Common.{◌∙◌, ap, arith}
use Rattle.ob_grammar.specs.declared.terminal.Terminal.{Terminal}
use Rattle.ob_grammar.specs.Terminals.{number_of}
use Rattle.parse_steps.proofs.Steps.{looks_at}
use Rattle.parse_steps.proofs.parser.number_at.Goals as goal

pub returns-in-Some : goal.returns-in-Some
returns-in-Some c = looks_at c.args.symbols.now c.args.index c.number.result c.in-Some.symbol.now (omega (arith, c.in-Some.ensures.lookup.3.0)) c.in-Some.ensures.lookup.1 (c.number.ensures ∙ ap (λ (k : Terminal). number_of k) c.of.ensures)
