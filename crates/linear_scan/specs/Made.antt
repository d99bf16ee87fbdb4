-- Places that are lent, and places that are being made.
use Rattle.lir_core.specs.declared.places.Places.{Places}
use Rattle.linear_scan.specs.declared.starting.Behind.{Behind}
use Rattle.linear_scan.specs.declared.starting.Start.{Start}

abbrev pub lent_places : Behind → Places
lent_places q = record { regs = q.regs.now; homed = q.homed.now }

abbrev pub made : Start → Places
made s = record { regs = s.regs.items; homed = s.homed }
