-- Imports, part by part.
use Rattle.std.specs.Prelude.{ℕ, List, Option, map, false, ◌||◌}
use Rattle.ob_syntax.specs.Syntax as S
use Rattle.ob_syntax.specs.declared.modules.NextImport.{NextImport}
use Rattle.ob_judge.specs.Scopes.{AModule, Imported, Source, spelled}
use Rattle.ob_judge.specs.Making.{Part, ◌>>>◌, become, with_levels, declare_last}
use Rattle.ob_judge.specs.Declarations.{each}
use Rattle.ob_judge.specs.Modules.{import_part, import_list, is_in}

-- a module is known under this name
abbrev pub known_as : Source → (name : ℕ) → Imported → Part (Unit {0})
known_as p name m =
    become (λ s. record s { imports_in = s.imports_in || is_in m }) >>> λ _.
    become (with_levels (declare_last (spelled p name) (record { object = AModule m; exported = false })))

-- imports behind the first, one after the other
abbrev pub more_imports : Source → List NextImport → Part (Unit {0})
more_imports p more = each (import_part p) (map (λ n. n.import) more)

abbrev pub imports_part : Source → Option S.Imports → Part (Unit {0})
imports_part p imports = each (import_part p) (import_list imports)
