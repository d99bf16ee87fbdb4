use Rattle.std.proofs.Common.{map}
use Rattle.module_check.proofs.Telling.{told_lack, told_legal, told_long}
use Rattle.module_check.proofs.checking.check_texts.Goals as goal

pub returns-in-None-clause-answers : goal.returns-in-None-clause-answers
returns-in-None-clause-answers g c = λ held faults left k.
    rw c.of.ensures (told_legal (map (λ name. name.now) c.args.names.now) c.args.texts.now held faults left k c.args.format c.in-None.ensures.legal _ _ _ c.print.ensures.answers)

pub returns-in-Some-TooLong-clause-answers : goal.returns-in-Some-TooLong-clause-answers
returns-in-Some-TooLong-clause-answers g c = λ held faults left k.
    told_long (map (λ name. name.now) c.args.names.now) c.args.texts.now held faults left k c.args.format c.in-Some-TooLong.module (rw c.in-Some-TooLong.field-0-is at c.in-Some-TooLong.ensures.fault) _ _ c.of-in-Some-TooLong.ensures

pub returns-in-Some-Memory-clause-answers : goal.returns-in-Some-Memory-clause-answers
returns-in-Some-Memory-clause-answers g c = λ held faults left k.
    told_lack (map (λ name. name.now) c.args.names.now) c.args.texts.now held faults left k c.args.format _ _ c.of-in-Some-Memory.ensures
