use Rattle.std.proofs.Common.{◌≡◌, ◌≤◌, ◌^◌, length, drop}
use Rattle.std.specs.Prelude.{min}
use Rattle.ob_judge.specs.Shapes.{cells}
use Rattle.table_builder.specs.Cells.{most_cells}
use Rattle.ob_judge.specs.Judged.{Keeps}
use Rattle.ob_judge.specs.Making.{Making}
use Rattle.ob_judge.specs.Scopes.{place}
use Rattle.ob_judge.specs.Types.{arrays}
use Rattle.check_types.specs.Known.{known_of}
use Rattle.check_types.specs.TypeMeaning.{type_shape}
use Rattle.table_builder.specs.Entries.{IsElement}
use Rattle.table_builder.specs.Growing.{Grows}
use Rattle.judged_programs.specs.Complete.{IsKnown}
use Rattle.legal_tables.specs.Promised.{HasLegalTypes}
use Rattle.check_making.specs.Making.{table_of, Makes, IsSettled}
use Rattle.check_making.specs.new_types.Arrays.{AreLengths}
use Rattle.check_making.proofs.new_types.array_types.arrays.Given as goal

abbrev pub decreases-loop-left : goal.decreases-loop-left
decreases-loop-left l = l.left

abbrev pub invariant-loop-left : goal.invariant-loop-left
invariant-loop-left l = record {
  within : l.left ≤ length l.lengths;
  counted : l.cells ≡ min most_cells (cells (known_of l.initial.state.types.table) (type_shape (table_of l.state) l.of));
  small : l.cells ≤ 2 ^ 30;
  settled : IsSettled l.round l.state;
  grows : Grows l.initial.state.types.table l.state.types.table;
  known : known_of l.state.types.table ≡ known_of l.initial.state.types.table;
  inner : IsKnown (known_of l.initial.state.types.table).records (type_shape (table_of l.initial.state) l.fn.element)
      → IsKnown (known_of l.initial.state.types.table).records (type_shape (table_of l.state) l.of);
  legal : AreLengths l.lengths → IsKnown (known_of l.initial.state.types.table).records (type_shape (table_of l.initial.state) l.fn.element)
      → HasLegalTypes l.initial.state.types.table → HasLegalTypes l.state.types.table;
  element : IsElement l.state.types.table.entries.items l.of;
  makes : (m : Making) → Makes l.round l.initial.state m → Makes l.round l.state m;
  judged : (m : Making) → Makes l.round l.initial.state m
      → arrays (place l.round.source.now l.array_word) (drop l.left l.lengths) (type_shape (table_of l.initial.state) l.fn.element) m.world ≡ Keeps (type_shape (table_of l.state) l.of);
}
