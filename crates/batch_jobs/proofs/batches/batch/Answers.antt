use Rattle.trc_answers.proofs.Answering.{files_failed, refuses}
use Rattle.trc_answers.specs.declared.causes.Cause.TheVariants.{Limit, NoSuchFile}
use Rattle.batch_jobs.specs.Batches.{BatchComesTo}
use Rattle.batch_jobs.proofs.Whole.{long_list, no_list, reads_list}
use Rattle.batch_jobs.proofs.batches.batch.Goals as goal

pub returns-in-Ok-clause-answers : goal.returns-in-Ok-clause-answers
returns-in-Ok-clause-answers g c = λ left input_faults.
    reads_list (g.F.Files.held c.args.files.now) _ c.args.choice.now c.args.steps c.args.list.now c.as_slice.result.now c.in-Ok.bytes _ _
    c.in-Ok.ensures.stays c.in-Ok.ensures.tells c.as_slice.ensures.value c.in-Ok.ensures.within c.in-Ok.ensures.rises left input_faults _ _ _ (c.answer_list.ensures.answers left input_faults)

pub returns-in-Err-NoSuchFile-clause-answers : goal.returns-in-Err-NoSuchFile-clause-answers
returns-in-Err-NoSuchFile-clause-answers g c = λ left input_faults.
    let told = rw c.in-Err-NoSuchFile.field-0-is at c.in-Err-NoSuchFile.ensures.tells in
    refuses _ _ _ _ _ left input_faults _ (NoSuchFile 0) c.in-Err-NoSuchFile.ensures.stays (no_list (g.F.Files.held c.args.files.now) c.args.choice.now c.args.steps c.args.list.now told)

pub returns-in-Err-TooLong-clause-answers : goal.returns-in-Err-TooLong-clause-answers
returns-in-Err-TooLong-clause-answers g c = λ left input_faults.
    let told = rw c.in-Err-TooLong.field-0-is at c.in-Err-TooLong.ensures.tells in
    refuses _ _ _ _ _ left input_faults _ (Limit 55 0) c.in-Err-TooLong.ensures.stays (long_list (g.F.Files.held c.args.files.now) c.args.choice.now c.args.steps c.args.list.now told)

pub returns-in-Err-Failed-clause-answers : goal.returns-in-Err-Failed-clause-answers
returns-in-Err-Failed-clause-answers g c = λ left input_faults.
    files_failed (λ _. BatchComesTo (g.F.Files.held c.args.files.now) c.args.choice.now c.args.steps c.args.list.now) _ _ _ _ left input_faults _
    c.in-Err-Failed.ensures.stays (c.in-Err-Failed.ensures.failed c.in-Err-Failed.field-0-is)
