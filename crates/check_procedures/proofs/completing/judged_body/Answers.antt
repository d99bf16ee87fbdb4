use Rattle.std.proofs.Common.{Ok, sym, ap, subst}
use Rattle.ob_syntax.specs.declared.declarations.Procedure.{out-Procedure}
use Rattle.judged_modules.specs.steps.Procedures.{OneProcedure}
use Rattle.judged_modules.specs.steps.Steps.{completed}
use Rattle.judged_modules.proofs.steps.Parts.{procedure_of, procedure_parts}
use Rattle.check_types.specs.steps.Answers.{Answers}
use Rattle.check_types.proofs.steps.Answering.{exit, as_judged}
use Rattle.check_making.proofs.parameters.Answering.{no_memory}
use Rattle.check_procedures.specs.Completing.{IsBody}
use Rattle.check_procedures.proofs.Finished.{no_body, no_answer, no_name, body_is_judged}
use Rattle.check_procedures.proofs.completing.judged_body.Goals as goal

pub returns-in_err-body : goal.returns-in_err-body
returns-in_err-body c = λ m h world is.
    let o = out-Procedure c.args.tree.now in
    let q = procedure_of o.procedure_word o.name o.formals o.semicolon o.decls o.body o.returned o.end_word o.end_name in
    exit _ c.from_residual.ensures.1 (as_judged (ap (λ z. completed c.args.round.now.source.now z h m) (procedure_parts c.args.tree.now))
    (no_body c.args.round.now.source.now q h m c.args.scope.now c.args.outcome c.requires.source world is c.in_err-body.ensures))

pub returns-in_err-given : goal.returns-in_err-given
returns-in_err-given c = λ m h world is.
    let o = out-Procedure c.args.tree.now in
    let q = procedure_of o.procedure_word o.name o.formals o.semicolon o.decls o.body o.returned o.end_word o.end_name in
    exit _ c.from_residual-in_err-given.ensures.1 (as_judged (ap (λ z. completed c.args.round.now.source.now z h m) (procedure_parts c.args.tree.now))
    (no_answer c.args.round.now.source.now q h m c.args.scope.now c.args.outcome c.requires.source world is c.in_ok-body.ensures c.in_err-given.ensures))

pub returns-in_err-end_name : goal.returns-in_err-end_name
returns-in_err-end_name c = λ m h world is.
    let o = out-Procedure c.args.tree.now in
    let q = procedure_of o.procedure_word o.name o.formals o.semicolon o.decls o.body o.returned o.end_word o.end_name in
    exit _ c.from_residual-in_err-end_name.ensures.1 (as_judged (ap (λ z. completed c.args.round.now.source.now z h m) (procedure_parts c.args.tree.now))
    (no_name c.args.round.now.source.now q h m c.args.scope.now c.args.outcome c.requires.source world is c.in_ok-body.ensures c.in_ok-given.ensures c.in_err-end_name.ensures))

pub returns-in_err-numbered : goal.returns-in_err-numbered
returns-in_err-numbered c = λ m h world is. exit _ c.from_residual-in_err-numbered.ensures.1 (no_memory _ c.in_err-numbered.ensures.memory)

pub returns : goal.returns
returns c = λ m h world is.
    let o = out-Procedure c.args.tree.now in
    let q = procedure_of o.procedure_word o.name o.formals o.semicolon o.decls o.body o.returned o.end_word o.end_name in
    let n = c.in_ok-numbered.ensures in
    let t = c.args.scope.now.types.now in
    subst (λ (z : OneProcedure). Answers (IsBody c.args.round.now.source.now z h m t) (completed c.args.round.now.source.now z h m) (Ok c.in_ok-numbered.numbered)) (sym (procedure_parts c.args.tree.now))
    (body_is_judged c.args.round.now.source.now q h m c.args.scope.now c.args.outcome c.requires.source world is c.in_ok-body.body c.in_ok-given.given c.in_ok-numbered.numbered
    (record { all = n.texts; body_same = n.body; answer_same = n.answer; body_stays = n.body_stays; answer_stays = n.answer_stays; in_turn = n.in_turn })
    c.in_ok-body.ensures c.in_ok-given.ensures c.in_ok-end_name.ensures)
