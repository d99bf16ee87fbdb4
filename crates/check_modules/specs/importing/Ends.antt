-- What is seen of a module.
use Rattle.std.specs.Prelude.{ℕ, List, ◌∷◌, map}
use Rattle.ob_types.specs.Table.{Table}
use Rattle.ob_judge.specs.Scopes.{KnownModule, Source, spelled}
use Rattle.ob_judge.specs.Standards.{predeclared}
use Rattle.ob_judge.specs.Modules.{offered_by}
use Rattle.check_types.specs.declared.names.levels.Level.{Level}
use Rattle.check_types.specs.names.Meaning.{names_of}

-- of a module of this name, whose scope is the last of these
abbrev pub seen : Source → (name : ℕ) → Table → List (List ℕ) → List Level → KnownModule
seen p name t strings levels = record { name = spelled p name; names = offered_by (predeclared ∷ map (names_of t strings) levels) }
