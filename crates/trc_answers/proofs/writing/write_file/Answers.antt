use Rattle.std.specs.Prelude.{Some}
use Rattle.std.proofs.Common.{refl}
use Rattle.trc_answers.specs.Verdict.{IsWritten, Writes}
use Rattle.trc_answers.proofs.Answering.{writes, unwritten}
use Rattle.trc_answers.proofs.writing.write_file.Goals as goal

pub returns-in-Ok-clause-answers : goal.returns-in-Ok-clause-answers
returns-in-Ok-clause-answers g c = writes _ _ _ _ c.args.name.now c.args.bytes.now c.in-Ok.ensures.tells

pub returns-in-Err-clause-answers : goal.returns-in-Err-clause-answers
returns-in-Err-clause-answers g c = λ left faults out.
    unwritten (λ _. IsWritten c.args.name.now c.args.bytes.now) _ _ _ _ (Writes c.args.name.now c.args.bytes.now) c.args.name.now c.args.bytes.now _ c.in-Err.fault c.unwritten.result
    c.unwritten.ensures refl c.in-Err.ensures.tells c.in-Err.ensures.unchanged c.in-Err.ensures.failed left faults out refl
