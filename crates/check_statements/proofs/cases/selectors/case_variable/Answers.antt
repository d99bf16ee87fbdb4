use Rattle.std.proofs.Common.{ap, sym, ◌∙◌}
use Rattle.ob_syntax.specs.Plain.{plain_expression}
use Rattle.ob_judge.specs.Scopes.{look_up}
use Rattle.ob_judge.specs.Symbols.{bare}
use Rattle.ob_judge.specs.Cases.{case_variable, entry_object}
use Rattle.check_types.specs.names.Worlds.{table_of, strings_of, world_of}
use Rattle.check_statements.proofs.cases.Naming.{alone_is}
use Rattle.check_statements.proofs.cases.selectors.case_variable.Goals as goal

pub returns-in-None-look_up : goal.returns-in-None-look_up
returns-in-None-look_up c = sym (ap case_variable
    (alone_is c.args.scope.now.source.now (world_of c.args.scope.now) (bare (plain_expression c.args.tree.now)) c.in-Some.name (sym c.in-Some.ensures)
    ∙ ap (λ q. entry_object (look_up q (world_of c.args.scope.now).levels)) (sym c.spelled.ensures)
    ∙ ap entry_object (sym c.in-None-look_up.ensures)))

pub returns-in-Some-look_up : goal.returns-in-Some-look_up
returns-in-Some-look_up c = c.variable_of_types.ensures (table_of c.args.scope.now) (strings_of c.args.scope.now) ∙ sym (ap case_variable
    (alone_is c.args.scope.now.source.now (world_of c.args.scope.now) (bare (plain_expression c.args.tree.now)) c.in-Some.name (sym c.in-Some.ensures)
    ∙ ap (λ q. entry_object (look_up q (world_of c.args.scope.now).levels)) (sym c.spelled.ensures)
    ∙ ap entry_object (sym c.in-Some-look_up.ensures)))
