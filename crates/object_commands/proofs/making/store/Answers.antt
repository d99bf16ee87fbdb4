use Rattle.std.proofs.Common.{refl}
use Rattle.trc_answers.proofs.Answering.{lacks}
use Rattle.object_commands.specs.Objects.{IsStored}
use Rattle.object_commands.proofs.Whole.{stored, not_stored}
use Rattle.object_commands.proofs.making.store.Goals as goal

pub returns-in-Ok-clause-answers : goal.returns-in-Ok-clause-answers
returns-in-Ok-clause-answers g c = λ left faults output.
    stored c.args.out.now c.args.object.now c.as_slice.result.now c.in-Ok.bytes.items _ _ c.write_file.result c.as_slice.ensures.value c.in-Ok.ensures.object c.in-Ok.ensures.short c.in-Ok.ensures.read
    (c.write_file.ensures.answers left faults output)

pub returns-in-Err-Limit-clause-answers : goal.returns-in-Err-Limit-clause-answers
returns-in-Err-Limit-clause-answers g c = not_stored c.args.out.now c.args.object.now (rw c.in-Err-Limit.field-0-is at c.in-Err-Limit.ensures.limit) _ _

pub returns-in-Err-clause-answers : goal.returns-in-Err-clause-answers
returns-in-Err-clause-answers g c = λ left faults output. lacks (λ _. IsStored c.args.out.now c.args.object.now) _ _ _ _ left faults output _ refl refl
