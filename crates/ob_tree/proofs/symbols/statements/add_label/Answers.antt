use Rattle.std.proofs.Common.{ap}
use Rattle.ob_syntax.specs.StatementText.{label_text}
use Rattle.ob_tree.proofs.Added.{adds_as}
use Rattle.ob_tree.proofs.symbols.statements.add_label.Goals as goal

pub returns-in_ok-put-in-Int : goal.returns-in_ok-put-in-Int
returns-in_ok-put-in-Int c = adds_as (ap label_text c.in-Int.is) (c.in_ok-put-in-Int.ensures _)

pub returns-in_ok-put-in-Text : goal.returns-in_ok-put-in-Text
returns-in_ok-put-in-Text c = adds_as (ap label_text c.in-Text.is) (c.in_ok-put-in-Text.ensures _)

pub returns-in_ok-put-in-Char : goal.returns-in_ok-put-in-Char
returns-in_ok-put-in-Char c = adds_as (ap label_text c.in-Char.is) (c.in_ok-put-in-Char.ensures _)

pub returns-in_ok-add_qualident-in-Named : goal.returns-in_ok-add_qualident-in-Named
returns-in_ok-add_qualident-in-Named c = adds_as (ap label_text c.in-Named.is) c.in_ok-add_qualident-in-Named.ensures
