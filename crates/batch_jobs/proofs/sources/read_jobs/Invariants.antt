use Rattle.std.proofs.Common.{◌≡◌, ◌≤◌, ◌+◌, length, map, take}
use Rattle.batch_list.specs.Lists.{plain_line}
use Rattle.batch_jobs.specs.Jobs.{task_of}
use Rattle.batch_jobs.specs.Sources.{most_job_bytes}
use Rattle.batch_jobs.proofs.Reading.{SoFar}
use Rattle.batch_jobs.proofs.sources.read_jobs.Given as goal

abbrev pub invariant-loop-place : goal.invariant-loop-place
invariant-loop-place g l = record {
  end : l.place-end ≡ length l.lines;
  stays : g.F.Files.held l.files ≡ g.F.Files.held l.initial.files;
  rises : g.F.Files.faults l.initial.files ≤ g.F.Files.faults l.files;
  jobs : SoFar (g.F.Files.held l.initial.files) (take l.place (map plain_line l.lines)) (map task_of l.jobs.first.items) (map task_of l.jobs.second.items) l.read;
  within : l.read ≤ most_job_bytes;
  few : length l.jobs.first.items + length l.jobs.second.items ≤ l.place;
}
