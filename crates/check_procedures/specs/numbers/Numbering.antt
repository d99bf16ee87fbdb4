-- What it is to give a checked tree other numbers of strings and types, so that it means what it meant.
use Rattle.std.specs.Prelude.{◌≡◌, ◌<◌, ◌≤◌, ℕ, ◌++◌, length, None, Some, slice_get}
use Rattle.std.specs.List.{between}
use Rattle.ob_types.specs.Table.{Table}
use Rattle.ob_judge.specs.Shapes.{Shape, Nothing}
use Rattle.ob_judge.specs.Texts.{Strings}
use Rattle.judged_tree.specs.TypeShapes.{shapes_of, shape_of, signature_shape}
use Rattle.check_types.specs.declared.table.TypeTable.{TypeTable}
use Rattle.check_types.specs.declared.types.TypeRef.TheVariants as TheType
use Rattle.check_types.specs.declared.names.scope.Scope.{Scope}
use Rattle.check_operands.specs.Operands.{texts_of}
use Rattle.table_builder.specs.Entries.{IsNumbered}

-- what the numbers of a tree name while it is made: types, and strings
pub record Numbering : Type 0 where
  pub types : TypeTable
  pub texts : Strings

abbrev pub numbering_of : Scope → Numbering
numbering_of s = record { types = s.types.now; texts = texts_of s }

-- the sixth type is that of no result, and each signature is that of a type with a number
pub record NumbersAll (t : TypeTable) : Type 0 where
  pub nothing : slice_get t.entries.items 5 ≡ Some TheType.Nothing
  pub procedures : (g : ℕ) → g < length t.types.signatures → IsNumbered t.entries.items (TheType.Procedure g)

-- the shape of a procedure type by the number of its signature
abbrev pub shape_of_signature : Table → ℕ → Shape
shape_of_signature t g = signature_shape (shapes_of t) (slice_get t.signatures g)

-- the table's numbers mean there what they mean in it, and no more signatures are there than can be numbered
pub record LastsIn (t : TypeTable) (v : Table) : Type 0 where
  pub shape : (k : ℕ) → k < length t.entries.items → shape_of v k ≡ shape_of t.types k
  pub nothing : shape_of v 5 ≡ Nothing
  pub signature : (g : ℕ) → g < length t.types.signatures → shape_of_signature v g ≡ shape_of_signature t.types g
  pub missing : length t.types.signatures ≤ 4294967295 → slice_get v.signatures 4294967295 ≡ None

-- a list that begins with these strings, and has no more than can be numbered
pub record BeginsWith (front all : Strings) : Type 0 where
  pub more : Strings
  pub is : all ≡ front ++ more
  pub few : length all ≤ 4294967295

-- how a part of a tree is read without memory, and the uses of strings in what is read
pub record Reading (A B : Type 0) : Type 0 where
  pub image : Table → Strings → A → B
  pub uses : B → Strings

-- a part of a tree, what becomes of it, and the uses of strings before it and with it
pub record Renewed (A : Type 0) : Type 0 where
  pub tree : A
  pub made : A
  pub before : Strings
  pub after : Strings

-- the uses in it are added at the end, and with these it means what it meant, also where others or more types follow; and
-- whatever strings stand at the numbers, it uses in turn those at the places that were added
pub record KeepsMeaning {A B : Type 0} (r : Reading A B) (n : Numbering) (x : Renewed A) : Type 0 where
  pub added : x.after ≡ x.before ++ r.uses (r.image n.types.types n.texts x.tree)
  pub few : length x.before ≤ 4294967295 → length x.after ≤ 4294967295
  pub same : (v : Table) (all : Strings) → LastsIn n.types v → BeginsWith x.after all → r.image v all x.made ≡ r.image n.types.types n.texts x.tree
  pub in_turn : (v : Table) (all : Strings) → length x.after ≤ length all → length all ≤ 4294967295
      → r.uses (r.image v all x.made) ≡ between (length x.before) (length x.after) all
