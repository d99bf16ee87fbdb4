use Rattle.std.proofs.Common.{refl, sym, ◌∙◌}
use Rattle.ob_syntax.specs.Plain.{plain_each_selector}
use Rattle.check_types.proofs.steps.Answering.{as_judged}
use Rattle.check_types.specs.names.Meaning.{object_of}
use Rattle.check_types.specs.names.Worlds.{table_of, strings_of, world_of}
use Rattle.check_statements.proofs.deeds.Deeds.{nothing_behind, kept_is, a_field, no_field}
use Rattle.check_statements.proofs.deeds.calls.alone.Goals as goal

pub returns-then-is_empty : goal.returns-then-is_empty
returns-then-is_empty c = as_judged (nothing_behind c.args.scope.now.source.now (world_of c.args.scope.now) (object_of (table_of c.args.scope.now) (strings_of c.args.scope.now) c.args.named) c.args.selectors.now c.is_empty.result c.is_empty.ensures c.if-is_empty.true)
    (record { by = kept_is c.args.scope.now.source.now (world_of c.args.scope.now) (object_of (table_of c.args.scope.now) (strings_of c.args.scope.now) c.args.named) ∙ c.standard_named.ensures (table_of c.args.scope.now) (strings_of c.args.scope.now) })

pub returns-in-Some : goal.returns-in-Some
returns-in-Some c = as_judged (a_field c.args.scope.now.source.now (world_of c.args.scope.now) (object_of (table_of c.args.scope.now) (strings_of c.args.scope.now) c.args.named) (plain_each_selector c.args.selectors.now) c.in-Some.name (sym c.in-Some.ensures)) c.member_alone.ensures

pub returns-in-None : goal.returns-in-None
returns-in-None c = as_judged (no_field c.args.scope.now.source.now (world_of c.args.scope.now) (object_of (table_of c.args.scope.now) (strings_of c.args.scope.now) c.args.named) c.args.selectors.now c.is_empty.result c.is_empty.ensures c.if-is_empty.false (sym c.in-None.ensures)) (record { by = refl })
