use Rattle.std.proofs.Common.{Ok, Err, sym, ap, subst, ◌∙◌}
use Rattle.check_procedures.specs.lines.Lines.{IsLineTable}
use Rattle.judged_modules.specs.steps.Procedures.{plain_procedure}
use Rattle.judged_modules.specs.steps.Steps.{completed}
use Rattle.check_types.specs.steps.Answers.{Answers}
use Rattle.check_types.proofs.steps.Answering.{exit}
use Rattle.check_making.specs.Making.{AreNumbered, IsSettled, Makes}
use Rattle.check_making.specs.scopes.Building.{StandsFor}
use Rattle.check_making.specs.scopes.Scopes.{deeper}
use Rattle.check_procedures.proofs.Closed.{closed, not_closed}
use Rattle.check_procedures.proofs.closing.close_procedure.Goals as goal

pub completed-requires-clause-settled : goal.completed-requires-clause-settled
completed-requires-clause-settled c = subst (λ z. IsSettled z c.args.state.now.declaring) (sym c.inside-scope.ensures) c.requires.settled

pub completed-requires-clause-lines : goal.completed-requires-clause-lines
completed-requires-clause-lines c = subst (λ z. IsLineTable z.source.now.bytes c.args.lines.now) (sym c.inside-scope.ensures) c.requires.lines

pub leave-requires-clause-settled : goal.leave-requires-clause-settled
leave-requires-clause-settled c = subst (λ z. IsSettled (deeper c.args.round.now c.args.opened.outer.depth) z) (sym c.set_procedure.ensures.declaring) c.requires.settled

pub leave-requires-clause-variables : goal.leave-requires-clause-variables
leave-requires-clause-variables c = subst (λ z. AreNumbered z.types.table.entries.items c.args.opened.outer.variables.items) (sym c.set_procedure.ensures.declaring) c.requires.closable.variables

pub returns-in_err-procedure-clause-judged : goal.returns-in_err-procedure-clause-judged
returns-in_err-procedure-clause-judged c = λ k j m opened up.
    exit _ c.from_residual.ensures.1 (not_closed c.args.round.now.source.now (plain_procedure c.args.tree.now) j m
    (subst (λ z. Answers (StandsFor c.args.state.now.declaring.types.table) (completed z.source.now (plain_procedure c.args.tree.now) j.heading m) (Err c.in_err-procedure.field-0.0)) c.inside-scope.ensures
    (c.in_err-procedure.ensures k m j.heading (subst (λ z. Makes z c.args.state.now.declaring m) (sym c.inside-scope.ensures) opened.represents.makes) up opened.heading)))

pub returns-clause-types : goal.returns-clause-types
returns-clause-types c = c.leave.ensures.types ∙ ap (λ z. z.types) c.set_procedure.ensures.declaring

pub returns-clause-judged : goal.returns-clause-judged
returns-clause-judged c = λ k j m opened up.
    closed c.args.round.now c.inside-scope.result c.args.opened c.inside-scope.ensures c.args.state.now c.set_procedure.new.self c.leave.new.state (plain_procedure c.args.tree.now) c.in_ok-procedure.procedure
    c.set_procedure.ensures.judged c.set_procedure.ensures.declaring c.leave.ensures.types c.leave.ensures.makes j m opened
    (subst (λ z. Answers (StandsFor c.args.state.now.declaring.types.table) (completed z.source.now (plain_procedure c.args.tree.now) j.heading m) (Ok c.in_ok-procedure.procedure)) c.inside-scope.ensures
    (c.in_ok-procedure.ensures k m j.heading (subst (λ z. Makes z c.args.state.now.declaring m) (sym c.inside-scope.ensures) opened.represents.makes) up opened.heading))
