-- A state with other names that stand, other pointer types that wait for their base, and so on.
use Rattle.std.proofs.Common.{◌≡◌, ℕ, List, map, Bool, Vec, Global}
use Rattle.std.specs.Prelude.{is_some}
use Rattle.std.specs.BTreeMap.{BTreeMap}
use Rattle.ob_judge.specs.Making.{Making, is_among}
use Rattle.check_types.specs.steps.Maps.{at_bytes}
use Rattle.check_making.specs.declared.making.Declaring.{Declaring}
use Rattle.check_making.specs.declared.making.Forward.{Forward}
use Rattle.check_making.specs.declared.making.Surroundings.{Surroundings}
use Rattle.check_making.specs.Making.{forward_of, Makes, IsSettled}

module _ (r : Surroundings) (s : Declaring) (names : BTreeMap (Vec ℕ Global) ℕ) (forward : Vec Forward Global) (is_type_part : Bool) (values : ℕ) where
  abbrev pub changed : Declaring
  changed = record s { standing = names; forward = forward; is_type_part = is_type_part; values = values }

  pub settled_changed : IsSettled r s → IsSettled r changed
  settled_changed ok = record {
    built = ok.built;
    levels = ok.levels;
    modules = ok.modules;
    types = ok.types;
    members = ok.members;
    variables = ok.variables;
    objects = ok.objects;
    open_scope = ok.open_scope;
    places = ok.places;
    own_text = ok.own_text;
  }

  pub makes_changed : (m : Making) → Makes r s m → (standing : List (List ℕ)) (waiting : List (ℕ × ℕ)) (part : Bool) (count : ℕ) → ((q : List ℕ) → is_among q standing ≡ is_some (at_bytes names q)) → waiting ≡ map forward_of forward.items
      → part ≡ is_type_part → count ≡ values → Makes r changed (record m { standing = standing; forward = waiting; is_type_part = part; values = count })
  makes_changed m makes standing waiting part count a b c d = record {
    imports_in = makes.imports_in;
    world = makes.world;
    is_type_part = c;
    forward = b;
    standing = a;
    values = d;
    variables = makes.variables;
    objects = makes.objects;
  }
