use Rattle.std.proofs.Common.{◌∙◌, sym, subst, List}
use Rattle.lir_core.specs.declared.places.Move.{Move}
use Rattle.lir_core.specs.Spots.{argument_of, TakesOver}
use Rattle.parallel_move.specs.Steps.{steps_source}
use Rattle.parallel_move.specs.Order.{order_of}
use Rattle.boundary_resolve.proofs.Crossing.{takes_over}
use Rattle.boundary_resolve.proofs.Sought.{before_is, has_few, rises_before}
use Rattle.boundary_resolve.proofs.moves.edge_moves.Goals as goal

pub returns-clause-moves : goal.returns-clause-moves
returns-clause-moves c few_from few_to =
    let b = c.in_ok-before.before in
    let is = c.in_ok-before.ensures in
    c.in_ok-moves_to.ensures (has_few c.args.from.now c.args.params.now c.args.args.now b is few_from) (rises_before c.args.from.now c.args.params.now c.args.args.now b is) few_to
    ∙ before_is c.args.from.now c.args.to.now c.args.params.now c.args.args.now b is

pub returns-clause-over : goal.returns-clause-over
returns-clause-over c few_from few_to covers =
    subst (λ (ms : List Move). TakesOver c.args.from.now c.args.to.now (argument_of c.args.params.now c.args.args.now) (steps_source (order_of ms))) (sym (returns-clause-moves c few_from few_to))
    (takes_over c.args.from.now c.args.to.now (argument_of c.args.params.now c.args.args.now) covers)
