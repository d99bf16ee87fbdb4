use Rattle.std.proofs.Common.{◌≡◌, map, Some}
use Rattle.run_laws.specs.Layers.{places_from}
use Rattle.boundary_resolve.proofs.code.entry.Given as goal

abbrev pub invariant-loop-number : goal.invariant-loop-number
invariant-loop-number l = record { regs : l.regs.items ≡ map Some (places_from 0 l.number); args : l.args.items ≡ places_from 0 l.number }
