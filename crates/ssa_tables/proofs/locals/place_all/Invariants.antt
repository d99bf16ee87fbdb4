use Rattle.std.proofs.Common.{◌≡◌, ◌++◌, drop}
use Rattle.ssa_tables.specs.Local.{placed_by, ends_by}
use Rattle.ssa_tables.proofs.locals.place_all.Given as goal

abbrev pub invariant-loop-i : goal.invariant-loop-i
invariant-loop-i l =
    (l.variables ++ placed_by l.types l.sizes (drop l.i l.marks) l.ends (drop l.i l.declared) ≡ placed_by l.types l.sizes l.marks (record { structured = 0; scalar = l.structured }) l.declared)
    × (ends_by l.types l.sizes (drop l.i l.marks) l.ends (drop l.i l.declared) ≡ ends_by l.types l.sizes l.marks (record { structured = 0; scalar = l.structured }) l.declared)
