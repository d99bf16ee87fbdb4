-- A module whose judgement has ended, in code.
use Rattle.std.specs.Prelude.{◌≡◌, ℕ, List}
use Rattle.ob_judge.specs.Image as I
use Rattle.ob_judge.specs.Scopes.{spelled}
use Rattle.ob_judge.specs.Making.{Making}
use Rattle.ob_judge.specs.Modules.{SoFar, offered_by}
use Rattle.judged_outlines.specs.Upright.{UprightSoFar}
use Rattle.check_types.specs.Known.{known_of}
use Rattle.check_types.specs.names.Meaning.{module_of}
use Rattle.check_making.specs.declared.making.Surroundings.{Surroundings}
use Rattle.check_making.specs.Making.{table_of, strings_of}
use Rattle.check_making.specs.Staying.{ModuleStays, NamesHaveTypes}
use Rattle.check_making.specs.declared.scopes.building.Building.{Building}
use Rattle.check_making.specs.scopes.Building.{TheyStandFor}
use Rattle.judged_outlines.specs.ends.Ends.{EndsWell}
use Rattle.check_modules.specs.declared.ending.JudgedModule.{JudgedModule}
use Rattle.check_modules.specs.declared.programs.modules.Modules.{Modules}
use Rattle.check_modules.specs.programs.Modules.{IsModuleOf, StandsForModules}

-- it is the judgement's module of this name, and the rest is what that leaves
pub record IsEnded (r : Surroundings) (name : ℕ) (s : Building) (e : JudgedModule) (x : I.Module × Making) : Type 0 where
  pub imports_in : x.1.imports_in ≡ s.declaring.imports_in
  pub known : x.1.world.known ≡ known_of s.declaring.types.table
  pub procedures : TheyStandFor s.declaring.types.table s.procedures.items x.1.procedures
  pub is_module : IsModuleOf r.texts.now s.declaring.types.table e.own x.0
  pub seen : module_of (table_of s.declaring) (strings_of s.declaring) e.seen ≡ record { name = spelled r.source.now name; names = offered_by x.1.world.levels }

-- what others see of it stays
pub record SeenStays (s : Building) (e : JudgedModule) : Type 0 where
  pub names : ModuleStays s.declaring.types.table (strings_of s.declaring) e.seen
  pub types : NamesHaveTypes (table_of s.declaring) (module_of (table_of s.declaring) (strings_of s.declaring) e.seen).names

-- the modules stand for some that the judgement has accepted
pub record HasSoFar (texts : List (List ℕ)) (s : Modules) : Type 0 where
  pub so_far : SoFar
  pub stands : StandsForModules texts s so_far
  pub upright : UprightSoFar so_far
  pub ends : EndsWell so_far
