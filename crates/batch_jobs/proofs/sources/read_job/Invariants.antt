use Rattle.std.proofs.Common.{◌≡◌, ◌≤◌, ◌+◌, length, take}
use Rattle.batch_jobs.specs.Sources.{AreSources, bytes_of, most_job_bytes}
use Rattle.batch_jobs.proofs.Reading.{plain_names}
use Rattle.batch_jobs.proofs.sources.read_job.Given as goal

abbrev pub invariant-loop-place : goal.invariant-loop-place
invariant-loop-place g l = record {
  end : l.place-end ≡ length l.names;
  few : length l.names ≤ 64;
  stays : g.F.Files.held l.files ≡ g.F.Files.held l.initial.files;
  rises : g.F.Files.faults l.initial.files ≤ g.F.Files.faults l.files;
  as_many : length l.texts.items ≡ l.place;
  are : AreSources (g.F.Files.held l.initial.files) (take l.place (plain_names l.names)) l.texts.items;
  counted : l.read ≡ l.initial.read + bytes_of l.texts.items;
  within : l.read ≤ most_job_bytes;
}
