-- What a source in memory gives.
use Rattle.std.specs.Prelude.{ℕ, min, if◌then◌else◌, List, length, drop}
use Rattle.memory_devices.specs.Calls.{Calls, fails_next, called}

-- the bytes that weren't given yet, how many one call gives at most, and the calls
pub record Giving : Type 0 where
  pub left : List ℕ
  pub piece : ℕ
  pub calls : Calls

-- how many bytes a call gives for a piece of this length, where it doesn't fail: as many as fit
abbrev pub gives : Giving → ℕ → ℕ
gives s room = min (min room s.piece) (length s.left)

-- after a call with a piece of this length
abbrev pub after_read : Giving → ℕ → Giving
after_read s room = record {
  left = (if fails_next s.calls then s.left else drop (gives s room) s.left);
  piece = s.piece;
  calls = called s.calls (fails_next s.calls);
}
