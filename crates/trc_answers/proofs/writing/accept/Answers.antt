use Rattle.std.proofs.Common.{◌≡◌, refl}
use Rattle.trc_answers.specs.Verdict.{Verdict, Accepts}
use Rattle.trc_answers.proofs.Answering.{accepts, unwritten}
use Rattle.trc_answers.proofs.writing.accept.Goals as goal

pub returns-in-Ok-clause-answers : goal.returns-in-Ok-clause-answers
returns-in-Ok-clause-answers g c = λ left faults.
    accepts _ _ _ _ c.args.name.now c.args.bytes.now left faults _ _ c.print.result c.in-Ok.ensures.tells c.print.ensures.answers

pub returns-in-Err-clause-answers : goal.returns-in-Err-clause-answers
returns-in-Err-clause-answers g c = λ left faults.
    let whole = Accepts c.args.name.now c.args.bytes.now in
    unwritten (λ _ (verdict : Verdict). verdict ≡ whole) _ _ _ _ whole c.args.name.now c.args.bytes.now _ c.in-Err.fault c.unwritten.result
    c.unwritten.ensures refl c.in-Err.ensures.tells c.in-Err.ensures.unchanged c.in-Err.ensures.failed left faults _ refl
