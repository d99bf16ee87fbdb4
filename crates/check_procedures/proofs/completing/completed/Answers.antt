use Rattle.std.proofs.Common.{sym, subst}
use Rattle.judged_modules.specs.steps.Procedures.{plain_procedure}
use Rattle.judged_modules.proofs.steps.Parts.{procedure_parts}
use Rattle.check_types.proofs.steps.Answering.{exit}
use Rattle.check_making.proofs.parameters.Answering.{no_memory}
use Rattle.check_procedures.specs.Completing.{HasLine}
use Rattle.check_procedures.specs.numbers.Numbering.{NumbersAll}
use Rattle.check_procedures.proofs.Finished.{numbers_all, world_here, result_here, completed_here, faulty}
use Rattle.check_procedures.proofs.completing.completed.Goals as goal

pub judged_body-requires-clause-numbers : goal.judged_body-requires-clause-numbers
judged_body-requires-clause-numbers c = subst NumbersAll (sym c.scope-scope.ensures.types) (numbers_all c.args.state.now.types c.requires.settled.built)

pub returns-in_err-numbered : goal.returns-in_err-numbered
returns-in_err-numbered c = λ k m h makes up is.
    let here = c.scope-scope.ensures in
    exit _ c.from_residual.ensures.1 (faulty (c.in_err-numbered.ensures m h
    (world_here c.args.round.now c.args.state.now k m makes up h c.args.heading is c.scope-scope.result here.world here.types)
    (result_here c.args.round.now c.args.state.now k m makes up h c.args.heading is c.scope-scope.result here.world here.types)))

pub returns-in_err-locals : goal.returns-in_err-locals
returns-in_err-locals c = λ k m h makes up is. exit _ c.from_residual-in_err-locals.ensures.1 (no_memory _ c.in_err-locals.ensures.memory)

pub returns : goal.returns
returns c = λ k m h makes up is.
    let here = c.scope-scope.ensures in
    let q = plain_procedure c.args.tree.now in
    completed_here c.args.round.now c.args.state.now k m makes up h c.args.heading is c.scope-scope.result here.world here.types q c.in_ok-locals.locals c.in_ok-locals.ensures.numbers c.in_ok-numbered.numbered c.procedure_with.result
    (λ j has ended body. c.procedure_with.ensures q h m j (subst (HasLine c.args.round.now c.line_at-line.result) (sym (procedure_parts c.args.tree.now)) (record { is = c.line_at-line.ensures })) is has ended body)
    (c.in_ok-numbered.ensures m h
    (world_here c.args.round.now c.args.state.now k m makes up h c.args.heading is c.scope-scope.result here.world here.types)
    (result_here c.args.round.now c.args.state.now k m makes up h c.args.heading is c.scope-scope.result here.world here.types))
