-- The machine: its state at the start, and its steps.
use Rattle.std.specs.Prelude.{ℕ, ◌+◌, ◌%◌, List, [], ◌∷◌, ◌++◌, replicate, ◌==◌, ◌&&◌, nat_le, Option, Some, None, slice_get, if◌then◌else◌}
use Rattle.run_laws.specs.Runs.{Step, Traps, System}
use Rattle.a64_numbers.specs.Conditions.{clear_flags}
use Rattle.a64_memory.specs.Memory.{Area}
use Rattle.a64_memory.specs.Areas.{data_base, local_base, frames_base, heap_base, local_bytes, heap_bytes, frames_bytes, most_calls, local_words, heap_words, zeroed}
use Rattle.a64_instr.specs.declared.instr.Instr.{Instr}
use Rattle.a64_table.specs.Decode.{decode_of}
use Rattle.image_form.specs.declared.image.Image.{Image}
use Rattle.a64_machine.specs.State.{State, Trap, Undefined, BadAddress, code_base, place_at, put}
use Rattle.a64_machine.specs.Effects.{effect}

-- globals with the constants behind them, local data, frames and heap
abbrev pub first_memory : Image → List Area
first_memory image =
    record { base = data_base; bytes = replicate image.globals 0 ++ image.constants }
    ∷ zeroed local_base local_bytes ∷ zeroed frames_base (frames_bytes image.frame) ∷ zeroed heap_base heap_bytes ∷ []

-- X19 is at the local data, X20 has the calls that may still be open, X21 is at the heap, X22 and X23 have the heap's cells
-- and the cells of local data that are left, X24 is at the globals; the others are 0
abbrev pub first_registers : ℕ → ℕ
first_registers = put (put (put (put (put (put (λ n. 0) 19 local_base) 20 most_calls) 21 heap_base) 22 heap_words) 23 local_words) 24 data_base

-- the state in which an image is loaded
abbrev pub start : Image → List ℕ → State
start image input = record {
  pc = code_base;
  registers = first_registers;
  sp = frames_base + frames_bytes image.frame;
  flags = clear_flags;
  memory = first_memory image;
  input = input;
}

-- the code word at an address, where it is a multiple of 4 in the code
abbrev pub fetch : List ℕ → ℕ → Option ℕ
fetch code pc = if nat_le code_base pc && pc % 4 == 0 then slice_get code (place_at pc) else None

abbrev pub decoded : ℕ → Option Instr → State → Step State Trap
decoded word None s = Traps (Undefined word)
decoded word (Some i) s = effect i s

abbrev pub fetched : Option ℕ → State → Step State Trap
fetched None s = Traps (BadAddress s.pc)
fetched (Some word) s = decoded word (decode_of word) s

-- a machine's step: the effect of the instruction that the fetched word stands for
abbrev pub step_of : List ℕ → State → Step State Trap
step_of code s = fetched (fetch code s.pc) s

-- the machine that runs some code, and the machine that runs an image; its points are the numbers of code words
abbrev pub system_of : List ℕ → System State Trap ℕ
system_of code = record { step = step_of code; at = λ s. place_at s.pc }

abbrev pub system : Image → System State Trap ℕ
system image = system_of image.code
