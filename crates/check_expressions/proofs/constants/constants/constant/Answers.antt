use Rattle.std.proofs.Common.{ap, ◌∙◌}
use Rattle.ob_syntax.specs.Plain.{plain_expression}
use Rattle.ob_judge.specs.Scopes.{place}
use Rattle.check_types.specs.declared.steps.fault.CheckFault.TheVariants.{Fault}
use Rattle.check_expressions.proofs.constants.Values.{constant_some, constant_none}
use Rattle.check_expressions.proofs.constants.constants.constant.Goals as goal

pub returns-in-Some : goal.returns-in-Some
returns-in-Some c = constant_some c.args.scope.now (plain_expression c.args.tree.now) c.in_ok-x.x c.for_constants-inner.result c.in-Some.value c.for_constants-inner.ensures c.in_ok-x.ensures (λ a h p. c.in-Some.ensures a h p)

pub returns-in-None : goal.returns-in-None
returns-in-None c = constant_none c.args.scope.now (plain_expression c.args.tree.now) c.in_ok-x.x c.for_constants-inner.result _ (c.fault.ensures ∙ ap (λ n. Fault 35 (place c.args.scope.now.source.now n)) c.expression_first.ensures) c.for_constants-inner.ensures c.in_ok-x.ensures (λ a h p. c.in-None.ensures a h p)
