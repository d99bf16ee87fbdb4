use Rattle.std.proofs.Common.{map}
use Rattle.module_check.proofs.Telling.{told_by_line, told_plainly}
use Rattle.module_check.proofs.checking.tell.Goals as goal

pub returns-in-Text-clause-answers : goal.returns-in-Text-clause-answers
returns-in-Text-clause-answers g c = λ held faults left k.
    rw c.in-Text.is (told_plainly (map (λ name. name.now) c.args.names.now) c.args.texts.now held faults left k c.args.index c.args.rule c.args.at c.requires.broken _ _ c.broken.ensures.cause)

pub returns-in-Json-clause-answers : goal.returns-in-Json-clause-answers
returns-in-Json-clause-answers g c = λ held faults left k.
    rw c.in-Json.is (told_by_line (map (λ name. name.now) c.args.names.now) c.args.texts.now held faults left k c.args.index c.args.rule c.args.at c.requires.broken _ _ _ c.find.ensures.answers)
