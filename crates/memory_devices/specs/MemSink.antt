-- What a sink in memory takes.
use Rattle.std.specs.Prelude.{ℕ, ◌-◌, ◌==◌, ◌&&◌, ◌||◌, min, nat_lt, Bool, if◌then◌else◌, List, ◌++◌, length, take, Some, None}
use Rattle.outside.specs.Sink.{Account}
use Rattle.memory_devices.specs.Calls.{Calls, fails_next, called}

-- the bytes in the order in which they were taken, how many it has room for in all, how many one call takes at most, and
-- the calls
pub record Taking : Type 0 where
  pub taken : List ℕ
  pub room : ℕ
  pub piece : ℕ
  pub calls : Calls

-- what it tells: the bytes and the faults
abbrev pub account_of : Taking → Account
account_of s = record { taken = Some s.taken; amount = None; faults = s.calls.faults }

-- how many bytes a call takes of so many, where it doesn't fail: as many as there is room for
abbrev pub takes : Taking → ℕ → ℕ
takes s size = min (min size s.piece) (s.room - length s.taken)

-- whether the next call with so many bytes is a fault: it fails, or it takes none where there are some
abbrev pub is_fault : Taking → ℕ → Bool
is_fault s size = fails_next s.calls || (nat_lt 0 size && takes s size == 0)

-- after a call with this piece
abbrev pub after_write : Taking → List ℕ → Taking
after_write s piece = record {
  taken = (if fails_next s.calls then s.taken else s.taken ++ take (takes s (length piece)) piece);
  room = s.room;
  piece = s.piece;
  calls = called s.calls (is_fault s (length piece));
}
