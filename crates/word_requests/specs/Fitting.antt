-- What holds of all that words can ask for.
use Rattle.std.specs.Prelude.{◌≤◌, length}
use Rattle.alloc_choice.specs.Choice.{IsFitChoice}
use Rattle.word_requests.specs.Asked.{Asked, Run, Build, Elf, Exec, Traces, Bulk, Audit, Object, Link, Mean, Both, Batch, Check, Explain, Compare, Show, Help}

-- at least one file is named; a choice, registers, workers and the size of a made module are in their range
abbrev pub Fits : Asked → Type 0
Fits (Run files choice steps) = (1 ≤ length files) × IsFitChoice choice × (steps ≤ 1000000000000000)
Fits (Build out files choice from notes) = (1 ≤ length files) × IsFitChoice choice
Fits (Elf out files choice) = (1 ≤ length files) × IsFitChoice choice
Fits (Exec image steps) = steps ≤ 1000000000000000
Fits (Traces files choice) = (1 ≤ length files) × IsFitChoice choice
Fits (Bulk seed size choice steps) =
    (seed ≤ 9223372036854775807) × (1 ≤ size) × (size ≤ 1000) × IsFitChoice choice × (steps ≤ 1000000000000000)
Fits (Audit out notes files builder regs) = (1 ≤ length files) × (4 ≤ regs) × (regs ≤ 16)
Fits (Object out files choice) = (1 ≤ length files) × IsFitChoice choice
Fits (Link out objects) = 1 ≤ length objects
Fits (Mean files turns) = (1 ≤ length files) × (turns ≤ 1000000000000000)
Fits (Both files choice steps turns) = (1 ≤ length files) × IsFitChoice choice × (steps ≤ 1000000000000000) × (turns ≤ 1000000000000000)
Fits (Batch list choice steps) = IsFitChoice choice × (steps ≤ 1000000000000000)
Fits (Check files format) = 1 ≤ length files
Fits (Explain topic) = Unit {0}
Fits (Compare files jobs steps) = (1 ≤ length files) × (1 ≤ jobs) × (jobs ≤ 64) × (steps ≤ 1000000000000000)
Fits (Show out files choice against) = (1 ≤ length files) × IsFitChoice choice
Fits Help = Unit {0}
