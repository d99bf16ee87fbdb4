-- The names of a module's scope.
use Rattle.std.proofs.Common.{◌≡◌, ℕ, List, [], ◌∷◌, ◌++◌, map, Option, refl}
use Rattle.ob_types.specs.Table.{Table}
use Rattle.ob_judge.specs.Scopes.{Entry}
use Rattle.ob_judge.specs.Making.{last_names}
use Rattle.check_types.specs.declared.names.levels.Level.{Level}
use Rattle.check_types.specs.names.Meaning.{names_of}

module _ (t : Table) (strings : List (List ℕ)) where
  -- the last of some scopes
  pub names_last : (rest : List Level) (l : Level) (k : List ℕ → Option Entry) → last_names (k ∷ map (names_of t strings) (rest ++ l ∷ [])) ≡ names_of t strings l
  names_last [] l k = refl
  names_last (c ∷ rest) l k = names_last rest l (names_of t strings c)
