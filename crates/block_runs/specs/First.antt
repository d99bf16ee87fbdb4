-- How a program begins.
use Rattle.std.specs.Prelude.{ℕ, List, [], ◌∷◌, ◌++◌, replicate}
use Rattle.a64_memory.specs.Areas.{data_base, local_base, heap_base, local_bytes, heap_bytes, most_calls, local_words, heap_words, zeroed}
use Rattle.block_runs.specs.States.{World, State, Starts}

-- the world at the start: globals of so many bytes, all 0, with the constants behind them; empty local data and an empty heap
abbrev pub first_world : ℕ → List ℕ → List ℕ → World
first_world globals constants input = record {
  memory = record { base = data_base; bytes = replicate globals 0 ++ constants } ∷ zeroed local_base local_bytes ∷ zeroed heap_base heap_bytes ∷ [];
  body = 0;
  calls = most_calls;
  cells = local_words;
  local = local_base;
  next = heap_base;
  free = heap_words;
  input = input;
}

abbrev pub first_state : ℕ → List ℕ → List ℕ → State
first_state globals constants input = Starts (first_world globals constants input)
