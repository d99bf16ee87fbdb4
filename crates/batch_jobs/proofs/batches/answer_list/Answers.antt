use Rattle.std.proofs.Common.{map, refl, subst, sym}
use Rattle.batch_list.specs.Form.{AreLines}
use Rattle.batch_list.specs.Lists.{plain_line}
use Rattle.trc_answers.proofs.Answering.{refuses}
use Rattle.trc_answers.specs.declared.causes.Cause.TheVariants.{BadLine}
use Rattle.batch_jobs.specs.Batches.{HasBadLine, ListComesTo}
use Rattle.batch_jobs.proofs.Whole.{reads_lines}
use Rattle.batch_jobs.proofs.batches.answer_list.Goals as goal

pub returns-in-Ok-clause-answers : goal.returns-in-Ok-clause-answers
returns-in-Ok-clause-answers g c = λ left input_faults.
    reads_lines _ c.args.choice.now c.args.steps c.args.list.now (map plain_line c.as_slice.result.now) _ _ _
    (subst (λ lines. AreLines c.args.list.now (map plain_line lines)) (sym c.as_slice.ensures.value) c.in-Ok.ensures) (c.answer_lines.ensures.answers left input_faults)

pub returns-in-Err-BadLine-clause-answers : goal.returns-in-Err-BadLine-clause-answers
returns-in-Err-BadLine-clause-answers g c = λ left input_faults.
    let bad = rw c.in-Err-BadLine.field-0-is at c.in-Err-BadLine.ensures in
    refuses (λ _. ListComesTo (g.F.Files.held c.args.files.now) c.args.choice.now c.args.steps c.args.list.now) _ _ _ _ left input_faults _ (BadLine c.in-Err-BadLine.line) refl
    (HasBadLine c.in-Err-BadLine.line bad refl)
