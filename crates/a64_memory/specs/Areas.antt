-- Where the areas of a program's memory lie, and how large they are.
use Rattle.std.specs.Prelude.{ℕ, ◌*◌, replicate}
use Rattle.a64_memory.specs.Memory.{Area}

-- where the globals with the constants behind them, the local data, the frames and the heap lie
abbrev pub data_base : ℕ
data_base = 0x10000000

abbrev pub local_base : ℕ
local_base = 0x20000000

abbrev pub frames_base : ℕ
frames_base = 0x40000000

abbrev pub heap_base : ℕ
heap_base = 0x80000000

-- how many bytes the local data and the heap have
unfoldable pub local_bytes : ℕ
local_bytes = 8388608

unfoldable pub heap_bytes : ℕ
heap_bytes = 67108864

-- how many calls may be open at once
abbrev pub most_calls : ℕ
most_calls = 8192

-- the bytes of frames of so many bytes each: one for each open call, and one for what begins them
abbrev pub frames_bytes : ℕ → ℕ
frames_bytes frame = 8193 * frame

-- the same in words of eight bytes: where globals, local data and heap begin, and how many the latter two have
abbrev pub data_word : ℕ
data_word = 0x2000000

abbrev pub local_word : ℕ
local_word = 0x4000000

abbrev pub heap_word : ℕ
heap_word = 0x10000000

abbrev pub local_words : ℕ
local_words = 1048576

abbrev pub heap_words : ℕ
heap_words = 8388608

-- so many bytes at an address, all of them 0
abbrev pub zeroed : ℕ → ℕ → Area
zeroed base bytes = record { base = base; bytes = replicate bytes 0 }
