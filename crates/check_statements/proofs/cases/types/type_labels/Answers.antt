use Rattle.check_types.proofs.steps.Answering.{goes_on, as_judged}
use Rattle.check_types.specs.names.Worlds.{table_of, world_of}
use Rattle.check_types.specs.TypeMeaning.{type_shape}
use Rattle.check_statements.proofs.cases.Labelling.{two_labels}
use Rattle.check_statements.proofs.cases.types.type_labels.Goals as goal

pub returns-in_ok-type_label-in-len1-up : goal.returns-in_ok-type_label-in-len1-up
returns-in_ok-type_label-in-len1-up c = as_judged (two_labels c.args.scope.now.source.now (world_of c.args.scope.now) (type_shape (table_of c.args.scope.now) c.args.of) c.args.first.now c.args.more.now _ c.in-len1-up.len_at_least)
    (goes_on _ _ c.in_ok-type_label-in-len1-up.ensures (λ t h. c.type_label-in-len1-up-2.ensures))
