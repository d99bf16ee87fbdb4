use Rattle.std.proofs.Common.{◌∙◌, subst}
use Rattle.ob_judge.specs.Parameters.{stand, symbols_of, next_list}
use Rattle.check_types.specs.steps.Answers.{Answers}
use Rattle.check_types.proofs.steps.Answering.{exit}
use Rattle.check_making.specs.Parts.{Made}
use Rattle.check_making.proofs.parameters.Stages.{on_ok}
use Rattle.check_declared.proofs.Names.{stand_both, stand_broken}
use Rattle.check_declared.proofs.type_parts.names.stand_listed.Goals as goal

pub returns-in_err-stand-clause-judged : goal.returns-in_err-stand-clause-judged
returns-in_err-stand-clause-judged c = λ m makes. exit _ c.from_residual.ensures.1 (stand_broken c.args.round.now c.args.idents.now.first.name _ m (c.in_err-stand.ensures.judged m makes))

pub returns-clause-judged : goal.returns-clause-judged
returns-clause-judged c = λ m makes.
    stand_both c.args.round.now c.args.idents.now.first.name (symbols_of (next_list c.args.idents.now.more.items)) m c.stand_more.result (c.in_ok-stand.ensures.judged m makes)
    (λ n k. subst (λ xs. Answers (Made c.args.round.now c.stand_more.new.state) (stand c.args.round.now.source.now (symbols_of (next_list xs)) n) c.stand_more.result) c.deref.ensures.value (c.stand_more.ensures.judged n k))

pub returns-clause-types : goal.returns-clause-types
returns-clause-types c = on_ok c.stand_more.result (λ e. e ∙ c.in_ok-stand.ensures.types) c.stand_more.ensures.types
