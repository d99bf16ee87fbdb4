-- What a machine holds between two steps.
use Rattle.std.specs.Prelude.{ℕ, ◌-◌, ◌*◌, ◌+◌, ◌/◌, List, not, ◌&&◌, ◌==◌, if◌then◌else◌}
use Rattle.a64_memory.specs.Memory.{Area}
use Rattle.a64_numbers.specs.declared.flags.Flags.{Flags}

-- registers are X0 to X30 by their numbers; memory is all areas but the code, and input what is left of it
pub record State : Type 0 where
  pub pc : ℕ
  pub registers : ℕ → ℕ
  pub sp : ℕ
  pub flags : Flags
  pub memory : List Area
  pub input : List ℕ

-- why a machine stops without having ended: a BRK with its kind at a code word, a word that isn't in the table,
-- an address that can't be fetched, loaded or stored, or an SVC that isn't there
pub data Trap : Type 0 where
  Broke : (kind place : ℕ) → Trap
  Undefined : (word : ℕ) → Trap
  BadAddress : (address : ℕ) → Trap
  BadCall : (number : ℕ) → Trap

-- where the code lies
abbrev pub code_base : ℕ
code_base = 0x10000

-- the address of a code word, and the number of the word at an address
abbrev pub address_of : ℕ → ℕ
address_of place = code_base + 4 * place

abbrev pub place_at : ℕ → ℕ
place_at address = (address - code_base) / 4

-- what a register reads as, where 31 is zero
abbrev pub read : (ℕ → ℕ) → ℕ → ℕ
read registers n = if n == 31 then 0 else registers n

-- what it reads as, where 31 is SP
abbrev pub read_or_sp : State → ℕ → ℕ
read_or_sp s n = if n == 31 then s.sp else s.registers n

-- the registers with v in register d; what is written to 31 is dropped
abbrev pub put : (ℕ → ℕ) → ℕ → ℕ → ℕ → ℕ
put registers d v n = if n == d && not (d == 31) then v else registers n
