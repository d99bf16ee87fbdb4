-- What is known behind some modules, and which modules so far of the judgement it stands for.
use Rattle.std.specs.Prelude.{◌≡◌, ℕ, List, [], ◌∷◌, map, Vec}
use Rattle.std.specs.Global.{Global}
use Rattle.ob_types.specs.declared.program.Module.{Module}
use Rattle.ob_judge.specs.Image as I
use Rattle.ob_judge.specs.Modules.{SoFar}
use Rattle.judged_tree.specs.Plain.{plain_module}
use Rattle.check_types.specs.declared.table.TypeTable.{TypeTable}
use Rattle.check_types.specs.Known.{known_of}
use Rattle.check_types.specs.declared.names.scope.KnownModule.{KnownModule}
use Rattle.check_types.specs.names.Meaning.{module_of}
use Rattle.table_builder.specs.Builder.{IsBuilt}
use Rattle.table_builder.specs.Growing.{Grows}
use Rattle.legal_tables.specs.Promised.{HasLegalTypes}
use Rattle.check_making.specs.Staying.{AreSettled}
use Rattle.check_making.specs.Making.{AreTextPlaces}
use Rattle.check_making.specs.declared.scopes.building.Building.{Building}
use Rattle.check_making.specs.scopes.Building.{TheyStandFor}
use Rattle.check_modules.specs.declared.programs.modules.Modules.{Modules}

-- a module is the judgement's, among modules with these texts, and stays so whatever types are made later
pub record IsModuleOf (texts : List (List ℕ)) (t : TypeTable) (m : Module) (j : I.Module) : Type 0 where
  pub image : plain_module t.types texts m ≡ j
  pub stays : (u : TypeTable) → Grows t u → plain_module u.types texts m ≡ plain_module t.types texts m

-- one for one
abbrev pub AreModulesOf : List (List ℕ) → TypeTable → List Module → List I.Module → Type 0
AreModulesOf texts t [] [] = Unit {0}
AreModulesOf texts t (m ∷ ms) (j ∷ js) = IsModuleOf texts t m j × AreModulesOf texts t ms js
AreModulesOf texts t ms js = ⊥

-- this is what the judgement knows behind these modules
pub record StandsForModules (texts : List (List ℕ)) (s : Modules) (c : SoFar) : Type 0 where
  pub imports_in : c.imports_in ≡ s.imports_in
  pub modules : c.modules ≡ map (module_of s.types.table.types s.strings.items) s.known.items
  pub known : c.known ≡ known_of s.types.table
  pub program_modules : AreModulesOf texts s.types.table s.modules c.program_modules
  pub procedures : TheyStandFor s.types.table s.procedures.items c.procedures

-- what holds between modules: types are built and legal, names mean the same whatever types are made later, and each string
-- stands at its place
pub record HasSettledModules (texts : List (List ℕ)) (s : Modules) : Type 0 where
  pub built : IsBuilt s.types
  pub names : AreSettled s.types.table s.strings.items s.known.items
  pub places : AreTextPlaces texts s.places.items s.strings.items
  pub legal : HasLegalTypes s.types.table

-- what is known behind one module more
abbrev pub modules_behind : Building → Vec KnownModule Global → List Module → Modules
modules_behind s known modules = record {
  imports_in = s.declaring.imports_in;
  types = s.declaring.types;
  strings = s.declaring.strings;
  places = s.declaring.places;
  known = known;
  modules = modules;
  procedures = s.procedures;
}
