use Rattle.std.proofs.Common.{Err, ap, subst}
use Rattle.a64_memory.specs.Memory.{AreBytes}
use Rattle.trc_answers.proofs.Answering.{runs_alone, image_reads, runs_on_input, has_too_much, input_failed, lacks_reading}
use Rattle.trc_answers.specs.Verdict.{ImageComesTo}
use Rattle.trc_answers.proofs.running.run_image.Goals as goal

pub returns-then-image-eq0-clause-answers : goal.returns-then-image-eq0-clause-answers
returns-then-image-eq0-clause-answers g c = runs_alone _ c.args.steps c.args.image c.new.result.items _ _ _ _ c.if-image-eq0.true c.new.ensures.items c.run_on.ensures.answers

pub returns-in-Ok-clause-answers : goal.returns-in-Ok-clause-answers
returns-in-Ok-clause-answers g c =
    runs_on_input _ _ c.args.steps c.args.image c.in-Ok.bytes.items _ _ _ _ _ c.requires.flags c.if-image-eq0.false c.in-Ok.ensures.gave c.in-Ok.ensures.whole (subst AreBytes c.as_slice.ensures.value c.are_bytes.ensures) c.in-Ok.ensures.within c.run_on-in-Ok.ensures.answers

pub returns-in-Err-TooLong-clause-answers : goal.returns-in-Err-TooLong-clause-answers
returns-in-Err-TooLong-clause-answers g c =
    has_too_much _ _ c.args.steps c.args.image _ _ _ c.requires.flags c.if-image-eq0.false (c.in-Err-TooLong.ensures.too_long (ap Err c.in-Err-TooLong.field-0-is))

pub returns-in-Err-ReadFault-clause-answers : goal.returns-in-Err-ReadFault-clause-answers
returns-in-Err-ReadFault-clause-answers g c = λ held faults.
    input_failed (λ l. ImageComesTo l c.args.steps c.args.image) held faults _ _ _ _ _ (image_reads c.args.steps c.args.image c.requires.flags c.if-image-eq0.false) (c.in-Err-ReadFault.ensures.failed (ap Err c.in-Err-ReadFault.field-0-is))

pub returns-clause-answers : goal.returns-clause-answers
returns-clause-answers g c = λ held faults.
    lacks_reading (λ l. ImageComesTo l c.args.steps c.args.image) held faults _ _ _ _ _ (image_reads c.args.steps c.args.image c.requires.flags c.if-image-eq0.false)
