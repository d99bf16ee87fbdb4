use Rattle.std.proofs.Common.{refl}
use Rattle.ob_judge.specs.Operands.{form}
use Rattle.check_selectors.proofs.parts.Reached.{guard_more}
use Rattle.check_selectors.proofs.parts.guards.further_guard.Goals as goal

pub returns : goal.returns
returns c = λ a g. record { by = record { shape = refl; reach = guard_more c.args.scope.now c.args.place c.args.own c.args.tags _ c.args.r (form a) c.in_ok-push.ensures.ok g.form g.pointer; usage = refl } }
