-- The traps that are none of the machine's faults.
use Rattle.a64_machine.specs.State.{Trap, Broke, Undefined, BadAddress, BadCall}

-- a trap by BRK, and no fault
abbrev pub IsBreak : Trap → Type 0
IsBreak (Broke kind place) = Unit {0}
IsBreak (Undefined word) = ⊥
IsBreak (BadAddress address) = ⊥
IsBreak (BadCall number) = ⊥
