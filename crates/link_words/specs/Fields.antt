-- When the numbers of operations and frames fit the fields of instructions.
use Rattle.std.specs.Prelude.{ℕ, ◌+◌, ◌-◌, ◌<◌, ◌≤◌, ◌^◌, List, slice_index_or}
use Rattle.block_runs.specs.declared.code.Code.{Code}
use Rattle.block_runs.specs.declared.code.Code.TheVariants.{Global, Local, Plus, Arg, IsPtr, IsTag, GuardPtr, GuardTag}

-- of an operation, where the frame has so many slots
abbrev pub NumberFits : ℕ → Code → Type 0
NumberFits slots (Global n) = n < 2 ^ 24
NumberFits slots (Local n) = n < 2 ^ 24
NumberFits slots (Plus n) = n < 2 ^ 24
NumberFits slots (Arg n) = slots + (n - 4) < 2 ^ 21
NumberFits slots (IsPtr j) = j < 2 ^ 12
NumberFits slots (IsTag j) = j < 2 ^ 12
NumberFits slots (GuardPtr j) = j < 2 ^ 12
NumberFits slots (GuardTag j) = j < 2 ^ 12
NumberFits slots _ = Unit {0}

-- the first words of procedures, by number; 0 for one that isn't there
abbrev pub entry_in : List ℕ → ℕ → ℕ
entry_in entries p = slice_index_or entries p 0

-- each is a code word, or the place behind the last one
abbrev pub InReach : List ℕ → Type 0
InReach entries = (p : ℕ) → entry_in entries p ≤ 2 ^ 18
