-- What a module offers, as the program has it.
use Rattle.std.specs.Prelude.{◌≡◌, ℕ, List, [], ◌∷◌, map, Option, Some, None, option_map}
use Rattle.ob_types.specs.declared.program.Entity.{Entity}
use Rattle.ob_types.specs.declared.program.Object.{Object}
use Rattle.ob_judge.specs.Image as I
use Rattle.ob_judge.specs.Making.{entity_of}
use Rattle.judged_tree.specs.Plain.{plain_entity, plain_object}
use Rattle.check_types.specs.declared.table.TypeTable.{TypeTable}
use Rattle.check_types.specs.names.Basics.{basic_shape}
use Rattle.check_types.specs.declared.names.scope.Constant.{Constant}
use Rattle.check_types.specs.declared.names.scope.Constant.TheVariants as TheConstant
use Rattle.check_types.specs.declared.names.scope.Named.{Named}
use Rattle.check_types.specs.declared.names.scope.Named.TheVariants as TheNamed
use Rattle.check_types.specs.names.Meaning.{object_of}
use Rattle.table_builder.specs.Entries.{IsNumbered}
use Rattle.table_builder.specs.Growing.{Grows}
use Rattle.check_making.specs.declared.making.Offered.{Offered}
use Rattle.check_types.specs.declared.types.TypeRef.{TypeRef}
use Rattle.judged_outlines.specs.ends.Ends.{IsValueOf}

-- a constant has a value of its type
abbrev pub FitsItsType : Constant → Type 0
FitsItsType (TheConstant.Bits b n) = IsValueOf (basic_shape b) n
FitsItsType (TheConstant.Chars k) = Unit {0}

-- what a name stands for can be told by numbers: a type has one, and a constant has a value of its type
abbrev pub IsTold : List TypeRef → Named → Type 0
IsTold entries (TheNamed.Constant c) = FitsItsType c
IsTold entries (TheNamed.Type k) = IsNumbered entries k
IsTold entries n = Unit {0}

abbrev pub AreTold : List TypeRef → List Offered → Type 0
AreTold entries [] = Unit {0}
AreTold entries (x ∷ xs) = IsTold entries x.declared.named × AreTold entries xs

-- this is what the program has of what a name stands for, and it stays so: nothing of what others don't see
pub record IsEntity (texts strings : List (List ℕ)) (t : TypeTable) (n : Named) (e : Option Entity) : Type 0 where
  pub same : option_map (plain_entity t.types texts) e ≡ entity_of (object_of t.types strings n)
  pub stays : (u : TypeTable) → Grows t u → option_map (plain_entity u.types texts) e ≡ option_map (plain_entity t.types texts) e

-- these are the names that a module offers, and they stay so
pub record AreObjects (texts : List (List ℕ)) (t : TypeTable) (xs : List Object) (ds : List I.Declared) : Type 0 where
  pub same : map (plain_object t.types texts) xs ≡ ds
  pub stays : (u : TypeTable) → Grows t u → map (plain_object u.types texts) xs ≡ map (plain_object t.types texts) xs

-- the object of a name, if the program has it
abbrev pub made_of : Offered → Option Entity → List Object
made_of x None = []
made_of x (Some e) = record { name = x.name; exported = x.declared.exported; entity = e } ∷ []
