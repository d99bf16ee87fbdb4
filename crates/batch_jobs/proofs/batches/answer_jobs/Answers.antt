use Rattle.std.proofs.Common.{◌++◌, map, ◌∙◌}
use Rattle.batch_jobs.specs.Jobs.{plain_reply}
use Rattle.batch_jobs.specs.Replies.{replies_text}
use Rattle.batch_jobs.proofs.Whole.{replied}
use Rattle.batch_jobs.proofs.batches.answer_jobs.Goals as goal

pub returns-in-Ok-text_of-clause-answers : goal.returns-in-Ok-text_of-clause-answers
returns-in-Ok-text_of-clause-answers g c = λ held faults left input_faults.
    replied c.args.choice.now c.args.steps c.args.jobs.first.items c.args.jobs.second.items c.in-Ok.one.items c.in-Ok.two.items c.as_slice-in-Ok-text_of.result.now held faults left input_faults _ _ _
    c.in-Ok.ensures.first c.in-Ok.ensures.second
    (c.as_slice-in-Ok-text_of.ensures.value ∙ (c.in-Ok-text_of.ensures
    ∙ (λ i. replies_text 0 (map plain_reply (c.as_slice.ensures.value i)) ++ replies_text 1 (map plain_reply (c.as_slice-in-Ok.ensures.value i)))))
    c.print.ensures.answers
