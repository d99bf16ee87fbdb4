-- Fields by their names, in several maps.
use Rattle.std.specs.Prelude.{ℕ, List, [], ◌∷◌, map, Option, None, Vec}
use Rattle.std.specs.Arc.{arc_value}
use Rattle.std.specs.BTreeMap.{BTreeMap}
use Rattle.std.specs.Global.{Global}
use Rattle.ob_judge.specs.Scopes.{or_else}
use Rattle.check_types.specs.steps.Maps.{at_bytes}
use Rattle.check_types.specs.declared.fields.FieldEntry.{FieldEntry}
use Rattle.check_types.specs.declared.fields.Fields.{Fields}

-- what the last map that has a name says of it
abbrev pub in_maps : {X : Type 0} → List (BTreeMap (Vec ℕ Global) X) → List ℕ → Option X
in_maps [] q = None
in_maps (m ∷ ms) q = or_else (in_maps ms q) (at_bytes m q)

abbrev pub at_fields : Fields → List ℕ → Option FieldEntry
at_fields f q = or_else (at_bytes f.own q) (in_maps (map arc_value f.common.items) q)
