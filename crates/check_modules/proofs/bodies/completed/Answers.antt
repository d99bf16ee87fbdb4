use Rattle.std.proofs.Common.{refl, sym, subst}
use Rattle.ob_syntax.specs.Plain.{plain_module}
use Rattle.check_procedures.specs.numbers.Numbering.{NumbersAll}
use Rattle.check_types.specs.declared.types.TypeRef.TheVariants as TheType
use Rattle.check_types.specs.names.Worlds.{table_of}
use Rattle.check_types.proofs.steps.Answering.{exit}
use Rattle.check_procedures.proofs.numbers.Lasting.{numbers_all}
use Rattle.check_modules.proofs.BodyStands.{no_body, no_name, is_bare, is_completed, in_turn_alone}
use Rattle.check_modules.proofs.bodies.completed.Goals as goal
use Rattle.check_making.proofs.parameters.Answering.{no_memory}

pub renumbered-requires : goal.renumbered-requires
renumbered-requires c = record { numbers = subst NumbersAll (sym c.scope-scope.ensures.types) (numbers_all c.args.state.now.types c.requires.settled.built) }

pub number-nothing-requires-clause-numbered : goal.number-nothing-requires-clause-numbered
number-nothing-requires-clause-numbered c = (5, c.requires.settled.built.index.says TheType.Nothing 5 refl)

pub returns-in_err-body : goal.returns-in_err-body
returns-in_err-body c = λ k m makes up.
    exit _ c.from_residual.ensures.1 (no_body c.args.round.now c.args.state.now k m makes up (plain_module c.args.tree.now) c.scope-scope.result c.scope-scope.ensures.source c.scope-scope.ensures.world c.scope-scope.ensures.types c.in_err-body.ensures)

pub returns-in_err-end_name : goal.returns-in_err-end_name
returns-in_err-end_name c = λ k m makes up.
    exit _ c.from_residual-in_err-end_name.ensures.1
    (no_name c.args.round.now c.args.state.now k m makes up (plain_module c.args.tree.now) c.scope-scope.result c.scope-scope.ensures.source c.scope-scope.ensures.world c.scope-scope.ensures.types c.in_ok-body.ensures c.in_err-end_name.ensures)

pub returns-in_err-numbered : goal.returns-in_err-numbered
returns-in_err-numbered c = λ k m makes up. exit _ c.from_residual-in_err-numbered.ensures.1 (no_memory _ c.in_err-numbered.ensures.memory)

pub returns : goal.returns
returns c = λ k m makes up.
    let n = c.in_ok-numbered.ensures in
    is_completed c.args.round.now c.args.state.now k m makes up (plain_module c.args.tree.now) c.scope-scope.result c.scope-scope.ensures.source c.scope-scope.ensures.world c.scope-scope.ensures.types
    c.in_ok-body.body c.in_ok-numbered.numbered.texts c.in_ok-numbered.numbered.body (record {
      all = n.texts;
      same = n.body;
      stays = n.body_stays;
      in_turn = in_turn_alone (table_of c.scope-scope.result) c.in_ok-numbered.numbered.texts c.in_ok-numbered.numbered.texts c.in_ok-numbered.numbered.body c.in_ok-numbered.numbered.answer n.answer n.in_turn;
    })
    c.line_at-line.result c.number-nothing.result c.line_at-line.ensures c.number-nothing.ensures.entry _
    (is_bare c.args.round.now.module_number c.line_at-line.result c.number-nothing.result c.in_ok-numbered.numbered.texts c.in_ok-numbered.numbered.body c.new.result c.new-2.result c.new.ensures c.new-2.ensures)
    c.in_ok-body.ensures c.in_ok-end_name.ensures
