use Rattle.std.proofs.Common.{List, sym, subst}
use Rattle.ob_types.specs.declared.tree.Link.{Link}
use Rattle.eval_store.specs.Did.{Stopped}
use Rattle.ob_eval.specs.Steps.{before, Went, with_number}
use Rattle.eval_tasks.specs.Tasks.{follows}
use Rattle.ob_eval.specs.declared.machine.Machine.{Machine}
use Rattle.ob_eval.proofs.Steps.{follow_stops}
use Rattle.ob_eval.proofs.machine.Machine.follow.Goals as goal

pub returns-in-Ok-take_number-clause-went : goal.returns-in-Ok-take_number-clause-went
returns-in-Ok-take_number-clause-went c =
    let p = c.args.laid.now in
    let P : List Link → Type 0 = λ l. Went p (before p (follows p l) (with_number c.in-Ok-take_number.a c.take_number.new.self)) c.link.result c.link.new.self in
    let Q : Machine → Type 0 = λ m. Went p (before p (follows p c.args.links.now) m) c.link.result c.link.new.self in
    subst Q (sym c.in-Ok-take_number.ensures) (subst P (sym c.in-Some.ensures.cases.0) c.link.ensures.went)

pub returns-in-Err-take_number-clause-went : goal.returns-in-Err-take_number-clause-went
returns-in-Err-take_number-clause-went c =
    let p = c.args.laid.now in
    let P : List Link → Type 0 = λ l. Stopped (before p (follows p l) c.args.self.now) c.in-Err-take_number.stop c.take_number.new.self.world.out in
    subst P (sym c.in-Some.ensures.cases.0) (follow_stops p c.in-Some.first.now c.in-Some.rest.now c.args.self.now c.take_number.new.self c.in-Err-take_number.stop c.in-Err-take_number.ensures)
