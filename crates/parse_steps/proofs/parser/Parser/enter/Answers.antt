use Rattle.std.proofs.Common.{◌≤◌, subst, ap, ℕ}
use Rattle.ob_grammar.specs.Terminals.{number_of}
use Rattle.ob_grammar.specs.Trees.{depth_limit}
use Rattle.parse_steps.specs.Parsing.{State}
use Rattle.parse_steps.proofs.Steps.{not_entered, too_deep}
use Rattle.parse_steps.proofs.parser.Parser.enter.Goals as goal

pub returns-then-self-ge-DEPTH_LIMIT : goal.returns-then-self-ge-DEPTH_LIMIT
returns-then-self-ge-DEPTH_LIMIT c = too_deep (number_of c.args.terminal) c.args.self.now c.place.result c.if-is_at.ensures.tells (subst (λ (n : ℕ). depth_limit ≤ n) (ap (λ (s : State). s.level) c.self.view_is) c.if-self-ge-DEPTH_LIMIT.true) c.place.ensures

pub returns-else-is_at : goal.returns-else-is_at
returns-else-is_at c = not_entered (number_of c.args.terminal) c.args.self.now c.place-else-is_at.result c.if-is_at.ensures.tells c.place-else-is_at.ensures
