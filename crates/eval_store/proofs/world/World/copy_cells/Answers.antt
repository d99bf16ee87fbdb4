use Rattle.std.proofs.Common.{sym, subst, ◌∙◌, arith}
use Rattle.run_laws.specs.Turns.{Ending}
use Rattle.ob_types.specs.Store.{Store, Trap}
use Rattle.eval_store.specs.Areas.{address_of}
use Rattle.eval_store.specs.Did.{Stopped}
use Rattle.eval_store.proofs.Copying.{copied_on, copied_stops}
use Rattle.eval_store.proofs.world.World.copy_cells.Goals as goal

pub returns-in-Err-clause-did : goal.returns-in-Err-clause-did
returns-in-Err-clause-did c =
    let P : Ending Store Trap (Unit {0}) → Type 0 = λ e. Stopped e c.in-Err.stop c.copy_cell.new.self.out in
    subst P (sym c.cells.invariant.0) (copied_stops c.cells.left c.cells.i (address_of c.args.to) (address_of c.args.from) (address_of c.in-Some.a) (address_of c.in-Some-past.b) c.cells.self c.in-Err.stop c.copy_cell.new.self.out c.cells-test.true c.in-Some.ensures c.in-Some-past.ensures c.in-Err.ensures.did)

pub cells-preserved : goal.cells-preserved
cells-preserved c =
    let i = c.cells.invariant in
    let t = c.in-Ok.ensures.turns in
    (i.0 ∙ copied_on c.cells.left c.cells.i (address_of c.args.to) (address_of c.args.from) (address_of c.in-Some.a) (address_of c.in-Some-past.b) c.cells.self c.copy_cell.new.self c.cells-test.true c.in-Some.ensures c.in-Some-past.ensures c.in-Ok.ensures.did, omega (arith, i, c.cells-test.true), omega (arith, i, t))
