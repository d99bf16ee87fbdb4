-- The scope of a procedure opened and closed.
use Rattle.std.specs.Prelude.{◌≡◌, ℕ, List, [], length, map, false, is_some}
use Rattle.ob_judge.specs.Making.{Making, is_among}
use Rattle.check_types.specs.steps.Maps.{at_bytes}
use Rattle.check_types.specs.TypeMeaning.{type_shape}
use Rattle.check_making.specs.declared.making.Declaring.{Declaring}
use Rattle.check_making.specs.declared.making.Forward.{Forward}
use Rattle.check_making.specs.declared.making.Surroundings.{Surroundings}
use Rattle.check_making.specs.Making.{table_of, forward_of}
use Rattle.check_making.specs.declared.scopes.entering.Outer.{Outer}

-- with so many scopes round the innermost
abbrev pub deeper : Surroundings → (depth : ℕ) → Surroundings
deeper r depth = record r { depth = depth }

-- this is what belongs to the scope round a procedure's
pub record IsPutAside (s : Declaring) (o : Outer) : Type 0 where
  pub depth : o.depth ≡ length s.levels.items
  pub imports_in : o.imports_in ≡ s.imports_in
  pub is_type_part : o.is_type_part ≡ s.is_type_part
  pub procedure : o.procedure ≡ s.procedure
  pub standing : o.standing ≡ s.standing
  pub values : o.values ≡ s.values
  pub variables : o.variables ≡ s.variables

-- it stands for that of the judgement's state s, where t is what was made in the procedure's scope
pub record IsOuter (r : Surroundings) (state : Declaring) (o : Outer) (later : List Forward) (s t : Making) : Type 0 where
  pub imports_in : s.imports_in ≡ o.imports_in
  pub is_type_part : s.is_type_part ≡ o.is_type_part
  pub forward : s.forward ≡ map forward_of later
  pub standing : (q : List ℕ) → is_among q s.standing ≡ is_some (at_bytes o.standing q)
  pub values : s.values ≡ o.values
  pub variables : s.variables ≡ map (type_shape (table_of state)) o.variables.items
  pub modules : s.world.modules ≡ t.world.modules
  pub module_number : s.world.module_number ≡ r.module_number
  pub procedure : s.world.procedure ≡ o.procedure
  pub constant : s.world.constant ≡ false
  pub narrowed : s.world.narrowed ≡ []
