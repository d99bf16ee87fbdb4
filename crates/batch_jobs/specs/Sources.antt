-- Which jobs the lines of a list are, and which sources are read for them.
use Rattle.std.specs.Prelude.{◌≡◌, ◌≤◌, ◌<◌, ℕ, ◌+◌, eqb, List, [], ◌∷◌, ◌++◌, length, sum_by, take, Option, Some, None, slice_get, IsUtf8, ◌⊎◌, if◌then◌else◌}
use Rattle.std.specs.List.{AllZip}
use Rattle.outside.specs.Counts.{Rose}
use Rattle.outside.specs.Files.{Held}
use Rattle.trc_answers.specs.Verdict.{IsHeld}
use Rattle.trc_answers.specs.Reading.{IsRead, most_bytes, most_modules}
use Rattle.trc_answers.specs.declared.causes.Device.TheVariants.{Files}
use Rattle.trc_answers.specs.declared.causes.Cause.{Cause}
use Rattle.trc_answers.specs.declared.causes.Cause.TheVariants.{Limit, ReadFault, Memory}
use Rattle.batch_list.specs.Form.{ListLine}
use Rattle.batch_jobs.specs.Jobs.{Task, IsRefused, HasTexts}

-- the most bytes of all sources that are read
abbrev pub most_job_bytes : ℕ
most_job_bytes = 67108864

abbrev pub bytes_of : List (List ℕ) → ℕ
bytes_of texts = sum_by length texts

-- the file of this name gives this source; the name is UTF-8, as each file's is
pub record IsSource (held : Option Held) (name text : List ℕ) : Type 0 where
  pub utf8 : IsUtf8 name
  pub read : IsRead held name text

-- one for one
abbrev pub AreSources : Option Held → List (List ℕ) → List (List ℕ) → Type 0
AreSources held names texts = AllZip (IsSource held) names texts

-- no file has this name: the files hold nothing under it, or it isn't UTF-8
abbrev pub NamesNoFile : Option Held → List ℕ → Type 0
NamesNoFile held name = IsHeld held name None ⊎ ¬ IsUtf8 name

-- the file of this name gives no source, and its job has this status
pub data GivesNone (held : Option Held) (name : List ℕ) (status : ℕ) : Type 0 where
  IsMissing : NamesNoFile held name → status ≡ 4 → GivesNone held name status
  IsTooLong : (text : List ℕ) → IsUtf8 name → IsHeld held name (Some text) → most_bytes < length text → status ≡ 3 → GivesNone held name status

-- the first names, of which there are so many, give these sources, and the next gives none
pub record EndsAt (held : Option Held) (names sources : List (List ℕ)) (status : ℕ) : Type 0 where
  pub number : ℕ
  pub name : List ℕ
  pub before : AreSources held (take number names) sources
  pub is : slice_get names number ≡ Some name
  pub none : GivesNone held name status

-- a job, and the sources that are read for it
pub record Reading : Type 0 where
  pub sources : List (List ℕ)
  pub task : Task

-- The job that names give. Of over 64 names none is read; reading ends at the first that gives no source.
pub data IsReadingOf (held : Option Held) (names : List (List ℕ)) (reading : Reading) : Type 0 where
  HasTooMany : most_modules < length names → reading.sources ≡ [] → reading.task ≡ IsRefused 3 → IsReadingOf held names reading
  EndsAtOne : (status : ℕ) → length names ≤ most_modules → EndsAt held names reading.sources status → reading.task ≡ IsRefused status → IsReadingOf held names reading
  HasAll : length names ≤ most_modules → AreSources held names reading.sources → reading.task ≡ HasTexts reading.sources → IsReadingOf held names reading

-- the jobs of lines, one for one
abbrev pub AreReadings : Option Held → List ListLine → List Reading → Type 0
AreReadings held lines readings = AllZip (λ line reading. IsReadingOf held line.names reading) lines readings

-- how many bytes were read for these jobs
abbrev pub read_for : List Reading → ℕ
read_for readings = sum_by (λ reading. bytes_of reading.sources) readings

-- the jobs of a submitter, in the order of their lines
abbrev pub tasks_for : ℕ → List ListLine → List Reading → List Task
tasks_for sender [] readings = []
tasks_for sender (line ∷ lines) [] = []
tasks_for sender (line ∷ lines) (reading ∷ readings) = if eqb line.sender sender then reading.task ∷ tasks_for sender lines readings else tasks_for sender lines readings

-- lines give both submitters these jobs, and their sources are within the limit
pub record AreJobs (held : Option Held) (lines : List ListLine) (first second : List Task) : Type 0 where
  pub readings : List Reading
  pub are : AreReadings held lines readings
  pub within : read_for readings ≤ most_job_bytes
  pub first_are : first ≡ tasks_for 0 lines readings
  pub second_are : second ≡ tasks_for 1 lines readings

-- the sources read for a line's first names, with those that were read before, pass the limit
pub record PassesWithin (held : Option Held) (names : List (List ℕ)) (before : ℕ) : Type 0 where
  pub few : length names ≤ most_modules
  pub number : ℕ
  pub texts : List (List ℕ)
  pub read : AreSources held (take number names) texts
  pub over : most_job_bytes < before + bytes_of texts

-- the sources pass the limit: those of some first lines, and of the first names of the next
pub record PassesJobBytes (held : Option Held) (lines : List ListLine) : Type 0 where
  pub before : List ListLine
  pub line : ListLine
  pub after : List ListLine
  pub cut : lines ≡ before ++ line ∷ after
  pub readings : List Reading
  pub are : AreReadings held before readings
  pub passes : PassesWithin held line.names (read_for readings)

-- reading failed between two counts of faults, or lacked memory
pub data FailsToRead (old new : ℕ) (cause : Cause) : Type 0 where
  FilesFailed : Rose old new → cause ≡ ReadFault Files → FailsToRead old new cause
  LacksMemory : cause ≡ Memory → FailsToRead old new cause

-- why a line's job isn't read, where so many bytes were read before
pub data IsUnreadJob (held : Option Held) (names : List (List ℕ)) (before old new : ℕ) (cause : Cause) : Type 0 where
  PassesLimit : PassesWithin held names before → cause ≡ Limit 70 0 → IsUnreadJob held names before old new cause
  Fails : FailsToRead old new cause → IsUnreadJob held names before old new cause

-- why the jobs of lines aren't read
pub data AreUnreadJobs (held : Option Held) (lines : List ListLine) (old new : ℕ) (cause : Cause) : Type 0 where
  PassLimit : PassesJobBytes held lines → cause ≡ Limit 70 0 → AreUnreadJobs held lines old new cause
  Fail : FailsToRead old new cause → AreUnreadJobs held lines old new cause
