use Rattle.std.proofs.Common.{◌≡◌, true, map, take}
use Rattle.std.specs.Prelude.{All}
use Rattle.ob_types.specs.WellFormed.{well_formed}
use Rattle.ob_types.specs.declared.program.Program.{Program}
use Rattle.program_figures.specs.planned_image.Plans.{AreProgramFlows}
use Rattle.compare_commands.specs.Rows.{IsRow}
use Rattle.compare_commands.proofs.rows.rows_of.Given as goal

abbrev pub invariant-loop-choice : goal.invariant-loop-choice
invariant-loop-choice g l = record {
  choices : map (λ row. row.choice) l.rows.items ≡ take l.choice-index l.choice-items;
  each : (p : Program) → well_formed p ≡ true → AreProgramFlows p l.program → All (IsRow p) l.rows.items;
}
