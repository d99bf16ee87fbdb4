-- Names that mean the same beside other strings.
use Rattle.std.specs.Prelude.{◌≡◌, ℕ, List, [], ◌∷◌}
use Rattle.ob_types.specs.Table.{Table}
use Rattle.check_types.specs.declared.names.levels.Level.{Level}
use Rattle.check_types.specs.declared.names.scope.Declared.{Declared}
use Rattle.check_types.specs.names.Meaning.{entry_of, names_of}

-- a declaration
pub record IsAlike (d : Declared) : Type 0 where
  pub entry : (t : Table) (strings others : List (List ℕ)) → entry_of t strings d ≡ entry_of t others d

-- all names of a scope
pub record AreAlike (l : Level) : Type 0 where
  pub names : (t : Table) (strings others : List (List ℕ)) → names_of t strings l ≡ names_of t others l

-- each of some declarations
abbrev pub EachAlike : List Declared → Type 0
EachAlike [] = Unit {0}
EachAlike (d ∷ ds) = IsAlike d × EachAlike ds
