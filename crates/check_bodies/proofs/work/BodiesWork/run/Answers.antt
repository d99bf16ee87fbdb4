use Rattle.std.proofs.Common.{get_or, sym, subst}
use Rattle.check_procedures.specs.numbers.Numbering.{NumbersAll}
use Rattle.check_bodies.proofs.Numbers.{numbers_again}
use Rattle.check_bodies.proofs.Tasks.{run_within, found_at, judged_at}
use Rattle.check_bodies.proofs.work.BodiesWork.run.Goals as goal

pub bounds-self-number : goal.bounds-self-number
bounds-self-number c = run_within c.args.self.now.bodies.now _ c.args.number c.args.hint c.requires

pub judged_body-requires-clause-numbers : goal.judged_body-requires-clause-numbers
judged_body-requires-clause-numbers c = let s = c.args.self.now in subst NumbersAll (sym c.scope-scope.ensures.types) (numbers_again s.state.now.types.table s.numbers)

pub returns-in-Ok : goal.returns-in-Ok
returns-in-Ok c =
    let s = c.args.self.now in
    let x = c.index-self-number.result in
    judged_at s.round.now s.state.now s.bodies.now c.args.number (get_or s.bodies.now c.args.number x) (found_at s.bodies.now c.args.number x (run_within s.bodies.now _ c.args.number c.args.hint c.requires) c.index-self-number.is)
    c.scope-scope.result c.scope-scope.ensures.world c.scope-scope.ensures.types c.in-Ok.numbered c.in-Ok.ensures
