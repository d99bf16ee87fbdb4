use Rattle.std.proofs.Common.{List, refl, ap}
use Rattle.ob_types.specs.declared.program.Procedure.{Procedure}
use Rattle.ob_types.specs.declared.statements.Stmt.{Stmt}
use Rattle.ob_types.specs.Store.{Handed}
use Rattle.eval_at_once.specs.declared.active.Active.{Active}
use Rattle.eval_tasks.specs.Tasks.{Next, performs_all}
use Rattle.ob_eval.proofs.Starting.{body_added}
use Rattle.ob_eval.proofs.evaluation.add_body.Goals as goal

pub returns-in_ok-push-in-Some-2 : goal.returns-in_ok-push-in-Some-2
returns-in_ok-push-in-Some-2 c =
    let p = c.args.laid.now in
    let g = c.args.first.now.body in
    let B : Procedure → List Stmt = λ q. q.body in
    let L : List Stmt → Next → Next = λ l. performs_all p l in
    let A : List Handed → Active = λ l. record { fuel = c.args.turns; procedure = g; frame = 0; arguments = l } in
    body_added p c.args.turns g c.args.tasks.now c.push.new.self c.push-in-Some.new.self _ _ c.in-Some.procedure.now.body (A c.new.result) c.in_ok-push-in-Some.ensures.ok c.in_ok-push-in-Some-2.ensures.ok (ap L c.as_slice.ensures) refl (ap B c.in-Some.ensures) (ap A c.new.ensures)
