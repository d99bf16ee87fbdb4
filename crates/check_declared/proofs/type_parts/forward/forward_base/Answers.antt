use Rattle.std.proofs.Common.{subst}
use Rattle.ob_judge.specs.Making.{set_base}
use Rattle.check_types.specs.steps.Answers.{Answers}
use Rattle.check_types.proofs.steps.Answering.{exit, stop, goes_on, as_judged}
use Rattle.check_making.specs.Making.{forward_of}
use Rattle.check_making.specs.Parts.{Made}
use Rattle.check_making.proofs.parameters.Stages.{stands_made}
use Rattle.check_declared.specs.type_parts.Forward.{record_named}
use Rattle.check_declared.proofs.type_parts.Bases.{base_law}
use Rattle.check_declared.proofs.type_parts.forward.forward_base.Goals as goal
use Rattle.std.proofs.Common.{Ok}

pub returns-in_err-r-clause-judged : goal.returns-in_err-r-clause-judged
returns-in_err-r-clause-judged c = λ m makes.
    let p = c.args.round.now.source.now in
    exit _ c.from_residual.ensures.1
    (as_judged (base_law p (forward_of c.args.forward) m) (stop (record_named p c.args.forward.name m.world) (λ r. set_base c.args.forward.pointer r m) (c.in_err-r.ensures m makes)))

pub returns-clause-judged : goal.returns-clause-judged
returns-clause-judged c = λ m makes.
    let r = c.args.round.now in
    let p = r.source.now in
    as_judged (base_law p (forward_of c.args.forward) m)
    (goes_on (record_named p c.args.forward.name m.world) (λ n. set_base c.args.forward.pointer n m) (c.in_ok-r.ensures m makes) (λ n is.
    subst (λ k. Answers (Made r c.set_base.new.self) (set_base c.args.forward.pointer k m) (Ok tt)) is (c.set_base.ensures.judged m makes)))

pub returns-clause-stands : goal.returns-clause-stands
returns-clause-stands c = stands_made c.requires.stands c.set_base.ensures.settled (returns-clause-judged c)
