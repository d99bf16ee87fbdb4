-- What a table knows of types.
use Rattle.std.specs.Prelude.{map, option_map}
use Rattle.ob_types.specs.Table.{Table}
use Rattle.ob_judge.specs.Shapes.{Known}
use Rattle.ob_judge.specs.Shapes.{Field as FieldOf, Layout as LayoutOf, Added as AddedOf}
use Rattle.check_types.specs.Fields.{at_fields}
use Rattle.check_types.specs.declared.fields.FieldEntry.{FieldEntry}
use Rattle.check_types.specs.declared.table.Added.{Added}
use Rattle.check_types.specs.declared.table.Layout.{Layout}
use Rattle.check_types.specs.declared.table.TypeTable.{TypeTable}
use Rattle.check_types.specs.TypeMeaning.{type_shape}

abbrev pub field_of : Table → FieldEntry → FieldOf
field_of t f = record { adder = f.adder; number = f.number; shape = type_shape t f.of; exported = f.exported; owner = f.owner }

abbrev pub added_of : Table → Added → AddedOf
added_of t a = record { name = a.name; exported = a.exported; shape = type_shape t a.of }

abbrev pub layout_of : Table → Layout → LayoutOf
layout_of t l = record {
  module_number = l.module_number;
  line = l.line.items;
  added = map (added_of t) l.added.items;
  fields = λ q. option_map (field_of t) (at_fields l.fields q);
  cells = l.cells;
  extent = l.extent;
}

abbrev pub known_of : TypeTable → Known
known_of t = record { records = map (layout_of t.types) t.layouts.items; bases = t.bases.items }
