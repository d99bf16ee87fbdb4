-- Two words as an instance: a test that leaves out a trap, or runs into it.
use Rattle.std.proofs.Common.{◌≡◌, ℕ, ◌==◌, List, [], ◌∷◌, map, true, false, refl, arith, lit<}
use Rattle.a64_instr.specs.declared.instr.Instr.{Instr}
use Rattle.a64_instr.specs.declared.instr.Instr.TheVariants.{Cbnz, Brk}
use Rattle.a64_table.specs.Table.{word_of}
use Rattle.a64_machine.specs.State.{State, Broke, address_of, read}
use Rattle.a64_machine.proofs.Steps.{StandAll, stands_all}
use Rattle.a64_machine.proofs.Ways.{Stops, stops_here}
use Rattle.a64_machine.proofs.Quiet.{Quiet, moved_to, skips_nonzero, goes_on_zero, quiet_stops}

-- CBNZ X0 over the word behind it, and BRK 9
abbrev instructions : List Instr
instructions = Cbnz 0 2 ∷ Brk 9 ∷ []

abbrev code : List ℕ
code = map word_of instructions

-- all registers are kept
abbrev Kept : ℕ → Type 0
Kept m = Unit {0}

stand : StandAll code 0 instructions
stand = stands_all instructions (omega arith) ((lit< tt, (lit< tt, tt)), ((lit< tt, tt), tt))

-- where X0 isn't 0, the machine passes both words
pub passes : (a : State) (x : ℕ) → a.pc ≡ address_of 0 → read a.registers 0 ≡ x → (x == 0) ≡ false → Quiet code Kept 0 2 a (moved_to a 2)
passes a x here is nonzero = skips_nonzero code Kept 0 1 0 x a (lit< tt) (lit< tt) stand.1 here is nonzero

-- where it is, the second stops it
pub stops : (a : State) (x : ℕ) → a.pc ≡ address_of 0 → read a.registers 0 ≡ x → (x == 0) ≡ true → Stops code 0 2 a (Broke 9 1)
stops a x here is zero = quiet_stops code Kept 0 1 1 1 a (moved_to a 1) (Broke 9 1) refl (goes_on_zero code Kept 0 2 0 x a (lit< tt) stand.1 here is zero) (stops_here code 1 9 (moved_to a 1) stand.2.1 refl)
