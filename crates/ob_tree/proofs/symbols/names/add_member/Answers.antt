use Rattle.std.proofs.Common.{ap}
use Rattle.ob_syntax.specs.Leaves.{optional}
use Rattle.ob_syntax.specs.NameText.{member_text}
use Rattle.ob_tree.proofs.Added.{adds_then, adds_as}
use Rattle.ob_tree.proofs.symbols.names.add_member.Goals as goal

pub returns-in_ok-put-in-Some-2 : goal.returns-in_ok-put-in-Some-2
returns-in_ok-put-in-Some-2 c = adds_as (ap (optional member_text) c.in-Some.is) (adds_then (c.in_ok-put-in-Some.ensures _) (c.in_ok-put-in-Some-2.ensures _))
