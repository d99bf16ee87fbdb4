-- What an SVC does, by its number.
use Rattle.std.specs.Prelude.{ℕ, ◌-◌, ◌%◌, ◌^◌, List, [], ◌∷◌, drop, ◌==◌, ◌||◌, slice_index_or, if◌then◌else◌}
use Rattle.out_text.specs.Text.{int_text}
use Rattle.wrapping_numbers.specs.Numbers.{add64}
use Rattle.a64_memory.specs.Texts.{Text, Bytes, Outside, text_at}
use Rattle.run_laws.specs.Runs.{Step, Moves, Ends, Traps}
use Rattle.a64_machine.specs.State.{State, Trap, BadAddress, BadCall, put}

-- writes and goes on behind the instruction
abbrev pub writes : State → List ℕ → Step State Trap
writes s bytes = Moves bytes (record s { pc = add64 s.pc 4 })

abbrev pub writes_text : State → Text → Step State Trap
writes_text s (Bytes bytes) = writes s bytes
writes_text s (Outside address) = Traps (BadAddress address)

-- X0 becomes the next byte of the input, or 2 ^ 64 - 1 at its end
abbrev pub takes_input : State → Step State Trap
takes_input s = Moves [] (record s { pc = add64 s.pc 4; registers = put s.registers 0 (slice_index_or s.input 0 (2 ^ 64 - 1)); input = drop 1 s.input })

-- 0 ends; 1 writes the low byte of X0; 2 writes the number X0 with the width X1; 3 writes the text at X0, of at most
-- X1 bytes that lie X2 apart, which is 1 or 8; 4 takes a byte of the input
abbrev pub service : ℕ → State → Step State Trap
service number s =
    if number == 0 then Ends
    else (if number == 1 then writes s (s.registers 0 % 256 ∷ [])
    else (if number == 2 then writes s (int_text (s.registers 0) (s.registers 1))
    else (if number == 3 then (if s.registers 2 == 1 || s.registers 2 == 8 then writes_text s (text_at s.memory (s.registers 2) (s.registers 0) (s.registers 1)) else Traps (BadCall 3))
    else (if number == 4 then takes_input s
    else Traps (BadCall number)))))
