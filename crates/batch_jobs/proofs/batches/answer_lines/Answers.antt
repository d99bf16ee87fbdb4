use Rattle.std.proofs.Common.{map, refl}
use Rattle.std.proofs.lemmas.List.{length-map}
use Rattle.trc_answers.proofs.Answering.{refuses}
use Rattle.trc_answers.specs.declared.causes.Cause.TheVariants.{Limit}
use Rattle.batch_list.specs.Lists.{plain_line}
use Rattle.batch_jobs.specs.Jobs.{task_of}
use Rattle.batch_jobs.specs.Batches.{AreTooMany, LinesComeTo}
use Rattle.batch_jobs.proofs.Whole.{reads_jobs, unread_jobs}
use Rattle.batch_jobs.proofs.batches.answer_lines.Goals as goal

pub returns-then-lines-gt-MOST_LINES-clause-answers : goal.returns-then-lines-gt-MOST_LINES-clause-answers
returns-then-lines-gt-MOST_LINES-clause-answers g c = λ left input_faults.
    refuses (λ _. LinesComeTo (g.F.Files.held c.args.files.now) c.args.choice.now c.args.steps (map plain_line c.args.lines.now)) _ _ _ _ left input_faults _ (Limit 69 0) refl
    (AreTooMany (simp length-map c.if-lines-gt-MOST_LINES.true) refl)

pub returns-in-Ok-clause-answers : goal.returns-in-Ok-clause-answers
returns-in-Ok-clause-answers g c = λ left input_faults.
    reads_jobs (g.F.Files.held c.args.files.now) _ c.args.choice.now c.args.steps (map plain_line c.args.lines.now) (map task_of c.in-Ok.jobs.first.items) (map task_of c.in-Ok.jobs.second.items) _ _
    c.in-Ok.ensures.stays (simp length-map c.if-lines-gt-MOST_LINES.false) c.in-Ok.ensures.jobs c.in-Ok.ensures.rises left input_faults _ _ _
    (λ held faults. c.answer_jobs.ensures.answers held faults left input_faults)

pub returns-in-Err-clause-answers : goal.returns-in-Err-clause-answers
returns-in-Err-clause-answers g c = λ left input_faults.
    unread_jobs (g.F.Files.held c.args.files.now) _ c.args.choice.now c.args.steps (map plain_line c.args.lines.now) _ _ _
    c.in-Err.ensures.stays (simp length-map c.if-lines-gt-MOST_LINES.false) c.in-Err.ensures.fault left input_faults _
