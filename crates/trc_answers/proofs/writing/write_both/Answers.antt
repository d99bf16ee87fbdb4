use Rattle.std.proofs.Common.{◌≡◌, refl}
use Rattle.trc_answers.specs.Verdict.{Verdict, WritesBoth}
use Rattle.trc_answers.proofs.Answering.{both_written, second_unwritten, unwritten}
use Rattle.trc_answers.proofs.writing.write_both.Goals as goal

pub returns-in-Err-clause-answers : goal.returns-in-Err-clause-answers
returns-in-Err-clause-answers g c = λ left faults out.
    let whole = WritesBoth c.args.name.now c.args.bytes.now c.args.other.now c.args.others.now in
    unwritten (λ _ (verdict : Verdict). verdict ≡ whole) _ _ _ _ whole c.args.name.now c.args.bytes.now _ c.in-Err.fault c.unwritten.result
    c.unwritten.ensures refl c.in-Err.ensures.tells c.in-Err.ensures.unchanged c.in-Err.ensures.failed left faults out refl

pub returns-in-Ok-clause-answers : goal.returns-in-Ok-clause-answers
returns-in-Ok-clause-answers g c = both_written _ _ _ _ _ c.args.name.now c.args.bytes.now c.args.other.now c.args.others.now c.in_default.ensures.tells c.in-Ok.ensures.tells

pub returns-in-Err-write-clause-answers : goal.returns-in-Err-write-clause-answers
returns-in-Err-write-clause-answers g c = second_unwritten _ _ _ _ _ _ c.args.name.now c.args.bytes.now c.args.other.now c.args.others.now c.in-Err-write.fault c.unwritten-in-Err-write.result
    c.unwritten-in-Err-write.ensures c.in_default.ensures.tells c.in-Err-write.ensures.tells c.in-Err-write.ensures.unchanged c.in-Err-write.ensures.failed c.write.ensures.rises
