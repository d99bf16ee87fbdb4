use Rattle.std.proofs.Common.{sym, ap, subst, ◌∙◌}
use Rattle.run_laws.specs.Turns.{Ending}
use Rattle.ob_types.specs.Store.{Store, Trap}
use Rattle.eval_store.specs.Did.{Stopped}
use Rattle.eval_tasks.specs.declared.task.Typing.{Typing}
use Rattle.eval_tasks.specs.declared.task.Typing.TheVariants.{OfPointer, OfParameter}
use Rattle.eval_tasks.specs.Tasks.{typing}
use Rattle.ob_eval.specs.Steps.{before, Went}
use Rattle.ob_eval.specs.declared.machine.Machine.{Machine}
use Rattle.ob_eval.proofs.Cases.{pointer_stops, pointer_goes, parameter_stops, parameter_goes}
use Rattle.ob_eval.proofs.machine.Machine.case_type.Goals as goal

pub returns-in-Err-pointer_type-clause-went : goal.returns-in-Err-pointer_type-clause-went
returns-in-Err-pointer_type-clause-went c =
    let p = c.args.laid.now in
    let m = c.take_cell.new.self in
    let ps = c.args.parts.now in
    let B : Typing → Type 0 = λ b. Stopped (before p (typing p b ps) c.args.self.now) c.in-Err-pointer_type.stop m.world.out in
    let M : Machine → Type 0 = λ z. Stopped (before p (typing p OfPointer ps) z) c.in-Err-pointer_type.stop m.world.out in
    subst B (sym c.in-OfPointer.is) (subst M (sym c.in-Ok.ensures) (pointer_stops p m ps c.in-Ok.c c.in-Err-pointer_type.stop m.world.out c.in-Err-pointer_type.ensures))

pub returns-in-Ok-pointer_type-clause-went : goal.returns-in-Ok-pointer_type-clause-went
returns-in-Ok-pointer_type-clause-went c =
    let p = c.args.laid.now in
    let m = c.take_cell.new.self in
    let ps = c.args.parts.now in
    let B : Typing → Type 0 = λ b. Went p (before p (typing p b ps) c.args.self.now) c.part_of.result c.part_of.new.self in
    let Z : Ending Store Trap (Unit {0}) → Type 0 = λ e. Went p e c.part_of.result c.part_of.new.self in
    subst B (sym c.in-OfPointer.is) (subst Z (pointer_goes p m ps c.in-Ok.c c.in-Ok-pointer_type.found c.in-Ok-pointer_type.ensures ∙ ap (before p (typing p OfPointer ps)) (sym c.in-Ok.ensures)) c.part_of.ensures.went)

pub returns-in-Err-parameter_type-clause-went : goal.returns-in-Err-parameter_type-clause-went
returns-in-Err-parameter_type-clause-went c =
    let p = c.args.laid.now in
    let m = c.take.new.self in
    let ps = c.args.parts.now in
    let B : Typing → Type 0 = λ b. Stopped (before p (typing p b ps) c.args.self.now) c.in-Err-parameter_type.stop m.world.out in
    let M : Machine → Type 0 = λ z. Stopped (before p (typing p OfParameter ps) z) c.in-Err-parameter_type.stop m.world.out in
    subst B (sym c.in-OfParameter.is) (subst M (sym c.in-Ok-take.ensures) (parameter_stops p m ps c.in-Ok-take.handed c.in-Err-parameter_type.stop m.world.out c.in-Err-parameter_type.ensures))

pub returns-in-Ok-parameter_type-clause-went : goal.returns-in-Ok-parameter_type-clause-went
returns-in-Ok-parameter_type-clause-went c =
    let p = c.args.laid.now in
    let m = c.take.new.self in
    let ps = c.args.parts.now in
    let B : Typing → Type 0 = λ b. Went p (before p (typing p b ps) c.args.self.now) c.part_of-in-Ok-parameter_type.result c.part_of-in-Ok-parameter_type.new.self in
    let Z : Ending Store Trap (Unit {0}) → Type 0 = λ e. Went p e c.part_of-in-Ok-parameter_type.result c.part_of-in-Ok-parameter_type.new.self in
    subst B (sym c.in-OfParameter.is) (subst Z (parameter_goes p m ps c.in-Ok-take.handed c.in-Ok-parameter_type.found c.in-Ok-parameter_type.ensures ∙ ap (before p (typing p OfParameter ps)) (sym c.in-Ok-take.ensures)) c.part_of-in-Ok-parameter_type.ensures.went)
