-- What is read for a name, and for a line's names.
use Rattle.std.specs.Prelude.{◌≡◌, ◌≤◌, ℕ, ◌+◌, List, Option}
use Rattle.outside.specs.Files.{Held}
use Rattle.batch_jobs.specs.Jobs.{task_of}
use Rattle.batch_jobs.specs.Sources.{IsSource, GivesNone, Reading, IsReadingOf, bytes_of, most_job_bytes}
use Rattle.batch_jobs.specs.declared.jobs.Job.{Job}
use Rattle.batch_jobs.specs.declared.sources.Found.{Found}
use Rattle.batch_jobs.specs.declared.sources.Found.TheVariants.{Source, Nothing}

abbrev pub IsFoundAs : Option Held → List ℕ → Found → Type 0
IsFoundAs held name (Source text) = IsSource held name text
IsFoundAs held name (Nothing status) = GivesNone held name status

-- the job that names give was read, which took the count of bytes from one number to another, within the limit
pub record IsJobRead (held : Option Held) (names : List (List ℕ)) (old new : ℕ) (job : Job) : Type 0 where
  pub reading : Reading
  pub is : IsReadingOf held names reading
  pub task_is : task_of job ≡ reading.task
  pub counted : new ≡ old + bytes_of reading.sources
  pub within : new ≤ most_job_bytes
