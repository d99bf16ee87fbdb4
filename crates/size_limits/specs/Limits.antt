-- How large a procedure and its frame may be.
use Rattle.std.specs.Prelude.{ℕ}

-- the values of a procedure, which have their homes in its frame
abbrev pub most_values : ℕ
most_values = 8000

-- the blocks of a procedure
abbrev pub most_blocks : ℕ
most_blocks = 4000

-- the slots of a frame
abbrev pub most_slots : ℕ
most_slots = 8192
