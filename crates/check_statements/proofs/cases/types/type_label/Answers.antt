use Rattle.std.proofs.Common.{ap, sym}
use Rattle.ob_judge.specs.Judged.{◌>>=◌}
use Rattle.ob_judge.specs.Scopes.{place}
use Rattle.check_types.proofs.steps.Answering.{goes_on, stop, exit, as_judged}
use Rattle.check_types.specs.TypeMeaning.{type_shape}
use Rattle.check_types.specs.names.Worlds.{table_of, world_of}
use Rattle.check_statements.specs.cases.Selecting.{label_end, type_in_label}
use Rattle.check_statements.proofs.cases.Labelling.{type_label_is}
use Rattle.check_statements.proofs.cases.types.type_label.Goals as goal

pub returns-in_err-to : goal.returns-in_err-to
returns-in_err-to c = exit _ c.from_residual.ensures.1 (as_judged (type_label_is c.args.scope.now.source.now (world_of c.args.scope.now) (type_shape (table_of c.args.scope.now) c.args.of) c.args.is_first c.args.tree.now)
    (stop _ _ (as_judged (ap (λ n. type_in_label c.args.scope.now.source.now (world_of c.args.scope.now) (place c.args.scope.now.source.now n) c.args.tree.now.low) (sym c.label_symbol-symbol.ensures)) c.in_err-to.ensures)))

pub returns : goal.returns
returns c = as_judged (type_label_is c.args.scope.now.source.now (world_of c.args.scope.now) (type_shape (table_of c.args.scope.now) c.args.of) c.args.is_first c.args.tree.now)
    (as_judged (ap (λ n. type_in_label c.args.scope.now.source.now (world_of c.args.scope.now) (place c.args.scope.now.source.now n) c.args.tree.now.low >>= λ t. label_end c.args.scope.now.source.now (world_of c.args.scope.now) (place c.args.scope.now.source.now n) (type_shape (table_of c.args.scope.now) c.args.of) c.args.is_first c.args.tree.now.high t) (sym c.label_symbol-symbol.ensures))
    (goes_on _ _ c.in_ok-to.ensures (λ t h. as_judged (ap (label_end c.args.scope.now.source.now (world_of c.args.scope.now) (place c.args.scope.now.source.now c.label_symbol-symbol.result) (type_shape (table_of c.args.scope.now) c.args.of) c.args.is_first c.args.tree.now.high) (sym h)) c.type_end.ensures)))
