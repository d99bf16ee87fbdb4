use Rattle.std.proofs.Common.{List, ap, ◌∙◌}
use Rattle.run_laws.specs.Turns.{Ending}
use Rattle.ob_types.specs.Store.{Store, Trap}
use Rattle.ob_types.specs.Meaning.{procedure_of}
use Rattle.ob_types.specs.declared.program.Procedure.{Procedure}
use Rattle.ob_types.specs.declared.statements.Stmt.{Stmt}
use Rattle.eval_at_once.specs.declared.active.Active.{Active}
use Rattle.eval_tasks.specs.Tasks.{Next, performs_all, rest}
use Rattle.ob_eval.specs.Calling.{answers}
use Rattle.ob_eval.proofs.Steps.{added_one}
use Rattle.ob_eval.proofs.Entering.{entered_is}
use Rattle.ob_eval.proofs.machine.Machine.enter.Goals as goal

pub returns-in_ok-add-in-Ok-clause-went : goal.returns-in_ok-add-in-Ok-clause-went
returns-in_ok-add-in-Ok-clause-went c =
    let p = c.args.laid.now in
    let g = c.args.g in
    let old = c.args.self.now in
    let next = c.replace-old.new.dest in
    let B : Procedure → List Stmt = λ q. q.body in
    let L : List Stmt → Next → Next = λ l. performs_all p l in
    added_one p c.answer.new.self c.add.new.self _ (performs_all p (procedure_of p g).body) c.in_ok-add-in-Ok.ensures.ok (ap L (c.as_slice.ensures ∙ ap B c.requires.is))
    ∙ entered_is p g c.args.arguments c.args.frame c.args.wanted old c.answer.new.self next c.replace-old.ensures.after c.in-Ok.ensures.same (λ x vs s.
    let A : Active → Ending Store Trap (Unit {0}) = λ a. answers p a c.args.procedure.now.answer c.args.wanted (rest p old.tasks) x vs s in
    let Q : Procedure → Ending Store Trap (Unit {0}) = λ q. answers p old.active q.answer c.args.wanted (rest p old.tasks) x vs s in
    c.in-Ok.ensures.follows x vs s ∙ ap A c.replace-old.ensures.value ∙ ap Q c.requires.is)
