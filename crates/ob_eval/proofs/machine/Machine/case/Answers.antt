use Rattle.std.proofs.Common.{refl, sym, ap, ◌∙◌}
use Rattle.ob_types.specs.Meaning.{at_most}
use Rattle.eval_at_once.specs.Here.{here_of}
use Rattle.eval_tasks.specs.Tasks.{cases, performs_all}
use Rattle.ob_eval.specs.Steps.{before}
use Rattle.ob_eval.proofs.Steps.{added_one}
use Rattle.ob_eval.proofs.Cases.{case_stops, case_none, case_some}
use Rattle.ob_eval.proofs.machine.Machine.case.Goals as goal

pub returns-in-Err-clause-went : goal.returns-in-Err-clause-went
returns-in-Err-clause-went c = case_stops c.args.laid.now c.args.self.now c.args.parts.now c.take_number.new.self c.in-Err.stop c.in-Err.ensures

pub returns-in-None-clause-went : goal.returns-in-None-clause-went
returns-in-None-clause-went c =
    let p = c.args.laid.now in
    let m = c.take_number.new.self in
    ap (before p (cases p c.args.parts.now)) c.in-Ok.ensures
    ∙ case_none p m c.args.parts.now c.in-Ok.v (c.in-None.ensures.part p (at_most p m.active.fuel) (here_of m.active) m.active.fuel m.world)

pub returns-in_ok-add-in-Some-clause-went : goal.returns-in_ok-add-in-Some-clause-went
returns-in_ok-add-in-Some-clause-went c =
    let p = c.args.laid.now in
    let m = c.take_number.new.self in
    added_one p m c.add.new.self _ (performs_all p c.in-Some.body.now) c.in_ok-add-in-Some.ensures.ok refl
    ∙ case_some p m c.args.parts.now c.in-Ok.v c.in-Some.body.now (c.in-Some.ensures.part p (at_most p m.active.fuel) (here_of m.active) m.active.fuel m.world)
    ∙ ap (before p (cases p c.args.parts.now)) (sym c.in-Ok.ensures)
