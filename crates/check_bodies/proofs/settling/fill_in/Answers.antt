use Rattle.std.proofs.Common.{sym, subst}
use Rattle.std.specs.Prelude.{slice_set}
use Rattle.judged_modules.specs.steps.Procedures.{plain_procedure}
use Rattle.judged_modules.proofs.steps.Parts.{procedure_parts}
use Rattle.later_bodies.specs.Waiting.{with_procedures}
use Rattle.check_making.specs.scopes.Building.{Represents}
use Rattle.check_procedures.specs.Completing.{HasLine}
use Rattle.check_bodies.proofs.settling.fill_in.Goals as goal

pub returns-clause-filled : goal.returns-clause-filled
returns-clause-filled c = λ w m j waits ended body represents.
    let r = c.args.round.now in
    let q = plain_procedure c.args.body.tree.now in
    let line = subst (HasLine r c.line_at-line.result) (sym (procedure_parts c.args.body.tree.now)) (record { is = c.line_at-line.ensures }) in
    let stands = c.procedure_with-procedure.ensures q w.heading w.inner j line waits.heading waits.locals ended body in
    subst (λ n. Represents r c.set_procedure.new.self (with_procedures (slice_set m.procedures n j) m)) waits.number ((c.set_procedure.ensures.judged j stands m represents).by).represents
