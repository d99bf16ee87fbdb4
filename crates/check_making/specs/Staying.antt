-- Names that mean the same in a table of types that grew, beside more strings; and of which types they are.
use Rattle.std.specs.Prelude.{◌≡◌, ℕ, List, [], ◌∷◌, ◌++◌, map, true, Option, Some, slice_get, slice_set}
use Rattle.ob_types.specs.Table.{Table}
use Rattle.ob_judge.specs.Scopes.{Object, AType, Entry, declare}
use Rattle.check_types.specs.declared.table.TypeTable.{TypeTable}
use Rattle.check_types.specs.declared.names.levels.Level.{Level}
use Rattle.check_types.specs.declared.names.scope.KnownModule.{KnownModule}
use Rattle.check_types.specs.declared.names.scope.Named.{Named}
use Rattle.check_types.specs.declared.names.scope.Declared.{Declared}
use Rattle.check_types.specs.names.Meaning.{object_of, entry_of, names_of, module_of}
use Rattle.table_builder.specs.Entries.{HasShape, is_whole_shape}
use Rattle.table_builder.specs.Growing.{Grows}

-- the names of a scope stay
pub record LevelStays (t : TypeTable) (strings : List (List ℕ)) (l : Level) : Type 0 where
  pub names : (u : TypeTable) (more : List (List ℕ)) → Grows t u → names_of u.types (strings ++ more) l ≡ names_of t.types strings l

abbrev pub LevelsStay : TypeTable → List (List ℕ) → List Level → Type 0
LevelsStay t strings [] = Unit {0}
LevelsStay t strings (l ∷ ls) = LevelStays t strings l × LevelsStay t strings ls

-- and those of a module before
pub record ModuleStays (t : TypeTable) (strings : List (List ℕ)) (k : KnownModule) : Type 0 where
  pub names : (u : TypeTable) (more : List (List ℕ)) → Grows t u → module_of u.types (strings ++ more) k ≡ module_of t.types strings k

abbrev pub ModulesStay : TypeTable → List (List ℕ) → List KnownModule → Type 0
ModulesStay t strings [] = Unit {0}
ModulesStay t strings (k ∷ ks) = ModuleStays t strings k × ModulesStay t strings ks

-- a type that a name stands for is one that variables may have, and has a number
abbrev pub HasType : Table → Object → Type 0
HasType t (AType s) = HasShape t s × (is_whole_shape s ≡ true)
HasType t o = Unit {0}

pub record NamesHaveTypes (t : Table) (names : List ℕ → Option Entry) : Type 0 where
  pub each : (q : List ℕ) (x : Entry) → names q ≡ Some x → HasType t x.object

abbrev pub AllHaveTypes : Table → List (List ℕ → Option Entry) → Type 0
AllHaveTypes t [] = Unit {0}
AllHaveTypes t (l ∷ ls) = NamesHaveTypes t l × AllHaveTypes t ls

-- what a name stands for stays
pub record NamedStays (t : TypeTable) (strings : List (List ℕ)) (n : Named) : Type 0 where
  pub object : (u : TypeTable) (more : List (List ℕ)) → Grows t u → object_of u.types (strings ++ more) n ≡ object_of t.types strings n

-- these levels are the others, with one more name in the one at this place
pub record IsDeclaredIn (old new : List Level) (at : ℕ) (name : List ℕ) (d : Declared) : Type 0 where
  pub level : Level
  pub set : new ≡ slice_set old at level
  pub names : (l : Level) → slice_get old at ≡ Some l → (t : Table) (strings : List (List ℕ))
      → names_of t strings level ≡ declare name (entry_of t strings d) (names_of t strings l)

-- the names of modules before stay, and the types that they stand for have numbers
pub record AreSettled (t : TypeTable) (strings : List (List ℕ)) (ks : List KnownModule) : Type 0 where
  pub stay : ModulesStay t strings ks
  pub types : AllHaveTypes t.types (map (λ k. (module_of t.types strings k).names) ks)
