use Rattle.std.proofs.Common.{◌≡◌, ◌+◌, [], ◌∷◌, ◌++◌, ap, refl, sym, subst, take, map, ◌∙◌, arith}
use Rattle.std.proofs.lemmas.List.{length-map, take_more}
use Rattle.trc_answers.proofs.Texts.{err_as}
use Rattle.batch_list.specs.Lists.{plain_line}
use Rattle.batch_jobs.specs.Jobs.{task_of}
use Rattle.batch_jobs.specs.Sources.{AreUnreadJobs, IsUnreadJob}
use Rattle.batch_jobs.specs.Found.{IsJobRead}
use Rattle.batch_jobs.proofs.Reading.{SoFar, at_place, one_more_line, one_more_job, unread_line}
use Rattle.batch_jobs.proofs.sources.read_jobs.Goals as goal

pub returns-in_err-job-clause-fault : goal.returns-in_err-job-clause-fault
returns-in_err-job-clause-fault g c =
    let inv = c.loop-place.invariant in
    let held = g.F.Files.held c.args.files.now in
    let lines = c.args.lines.now in
    let i = c.loop-place.place in
    let line = c.index-lines-place.result in
    let before = g.F.Files.faults c.loop-place.files in
    let after = g.F.Files.faults c.read_job.new.files in
    let names = map (λ name. name.items) c.as_slice.result.now in
    err_as c.from_residual.result c.in_err-job.field-0.0 (AreUnreadJobs held (map plain_line lines) (g.F.Files.faults c.args.files.now) after) c.from_residual.ensures.1
    (unread_line held (map plain_line lines) i (plain_line line) names (map task_of c.loop-place.jobs.first.items) (map task_of c.loop-place.jobs.second.items) c.loop-place.read (g.F.Files.faults c.args.files.now) before after c.in_err-job.field-0.0
    (simp length-map c.loop-place-test.true) (at_place plain_line lines i line (plain_line line) c.loop-place-test.true c.index-lines-place.is) (ap (map (λ name. name.items)) c.as_slice.ensures.value) inv.jobs inv.rises
    (subst (λ h. IsUnreadJob h names c.loop-place.read before after c.in_err-job.field-0.0) inv.stays c.in_err-job.ensures.fault))

pub loop-place-preserved : goal.loop-place-preserved
loop-place-preserved g c =
    let inv = c.loop-place.invariant in
    let held = g.F.Files.held c.args.files.now in
    let lines = c.args.lines.now in
    let i = c.loop-place.place in
    let line = c.index-lines-place.result in
    let names = map (λ name. name.items) c.as_slice.result.now in
    let first = c.loop-place.jobs.first.items in
    let second = c.loop-place.jobs.second.items in
    let first' = c.push.new.self.first.items in
    let second' = c.push.new.self.second.items in
    let next : take (i + 1) (map plain_line lines) ≡ take i (map plain_line lines) ++ plain_line line ∷ [] =
    take_more (map plain_line lines) i (plain_line line) (simp length-map c.loop-place-test.true)
    ∙ ap (λ l. take i (map plain_line lines) ++ l ∷ []) (at_place plain_line lines i line (plain_line line) c.loop-place-test.true c.index-lines-place.is) in
    let read = subst (λ h. IsJobRead h names c.loop-place.read c.read_job.new.read c.in_ok-job.job) inv.stays c.in_ok-job.ensures.job in
    record {
      end = refl;
      stays = c.in_ok-job.ensures.stays ∙ inv.stays;
      rises = omega (arith, inv.rises, c.in_ok-job.ensures.rises);
      jobs = subst (λ ls. SoFar held ls (map task_of first') (map task_of second') c.read_job.new.read) (sym next)
          (one_more_line held (take i (map plain_line lines)) (plain_line line) first second first' second' c.loop-place.read c.read_job.new.read c.in_ok-job.job names line.submitter
          inv.jobs (ap (map (λ name. name.items)) c.as_slice.ensures.value) read c.in-Ok.ensures.first c.in-Ok.ensures.second);
      within = read.within;
      few = one_more_job line.sender i first second first' second' c.in_ok-job.job inv.few c.in-Ok.ensures.first c.in-Ok.ensures.second;
    }
