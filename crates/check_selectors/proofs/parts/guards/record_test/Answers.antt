use Rattle.std.proofs.Common.{refl, ap}
use Rattle.ob_judge.specs.Shapes.{Boolean}
use Rattle.ob_judge.specs.Image.{IsParameter}
use Rattle.ob_judge.specs.Operands.{designator_of}
use Rattle.check_selectors.proofs.parts.guards.record_test.Goals as goal

pub returns : goal.returns
returns c = λ a h. c.value.ensures c.args.scope.now Boolean (IsParameter (designator_of a) c.args.r) refl (ap (λ d. IsParameter d c.args.r) (c.designator.ensures a h))
