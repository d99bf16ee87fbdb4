use Rattle.std.proofs.Common.{◌∷◌, ◌++◌, [], ap, ◌∙◌}
use Rattle.check_types.specs.TypeMeaning.{type_shape}
use Rattle.check_types.specs.names.Meaning.{place_of, narrowings_before}
use Rattle.check_types.specs.names.Worlds.{table_of, strings_of}
use Rattle.check_statements.proofs.cases.Naming.{narrowed_last}
use Rattle.check_statements.proofs.cases.types.narrowed.Goals as goal

pub returns-clause-ok : goal.returns-clause-ok
returns-clause-ok c =
    ap (narrowings_before (table_of c.args.scope.now) (strings_of c.args.scope.now) []) (c.in_ok-push.ensures.items ∙ ap (λ ns. ns ++ record { variable = c.args.variable; of = c.args.of; tag = c.tag_of.result } ∷ []) c.in_ok-all.ensures.items)
    ∙ narrowed_last (table_of c.args.scope.now) (strings_of c.args.scope.now) [] c.args.scope.now.narrowed.now (record { variable = c.args.variable; of = c.args.of; tag = c.tag_of.result })
    ∙ ap (λ tag. record { variable = place_of c.args.variable; shape = type_shape (table_of c.args.scope.now) c.args.of; tag = tag } ∷ narrowings_before (table_of c.args.scope.now) (strings_of c.args.scope.now) [] c.args.scope.now.narrowed.now) c.tag_of.ensures
