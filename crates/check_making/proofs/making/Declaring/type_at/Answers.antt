use Rattle.std.proofs.Common.{subst}
use Rattle.ob_judge.specs.Names.{type_named}
use Rattle.check_types.specs.steps.Answers.{Answers}
use Rattle.check_types.specs.names.Worlds.{world_of, IsOfType}
use Rattle.check_making.proofs.Places.{type_answers}
use Rattle.check_making.proofs.making.Declaring.type_at.Goals as goal

pub returns : goal.returns
returns c = λ m makes.
    let scope = c.scope-scope.result in
    type_answers c.args.round.now c.args.self.now c.requires m makes c.args.number c.args.qualident.now scope c.scope-scope.ensures.source c.scope-scope.ensures.world c.scope-scope.ensures.types c.type_named.result
    (subst (λ i. Answers (IsOfType scope) (type_named scope.source.now (world_of scope) c.args.number c.args.qualident.now.name i) c.type_named.result) c.member_symbol.ensures c.type_named.ensures)
