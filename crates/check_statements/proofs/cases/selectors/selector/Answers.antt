use Rattle.std.proofs.Common.{ap, ◌∙◌}
use Rattle.ob_judge.specs.Cases.{selector_of}
use Rattle.check_types.specs.names.Worlds.{table_of}
use Rattle.check_types.specs.TypeMeaning.{type_shape}
use Rattle.check_statements.proofs.cases.selectors.selector.Goals as goal

pub returns-in-None : goal.returns-in-None
returns-in-None c = c.on_values.ensures (table_of c.args.scope.now) ∙ ap (λ o. selector_of o (type_shape (table_of c.args.scope.now) c.args.of)) c.in-None.ensures
