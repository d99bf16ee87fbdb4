use Rattle.std.proofs.Common.{Bool, false, sym, ap₂}
use Rattle.ob_judge.specs.Operands.{AsVariable}
use Rattle.check_selectors.proofs.parts.variables.usage.Goals as goal

pub returns : goal.returns
returns c = ap₂ (λ (r : Bool) (t : Bool). AsVariable r t false) (sym c.is_read_only.ensures) (sym c.is_tagged.ensures)
