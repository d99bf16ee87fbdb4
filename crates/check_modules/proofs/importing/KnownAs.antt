-- A module known under a name.
use Rattle.std.proofs.Common.{◌≡◌, ℕ, ◌<◌, ◌-◌, List, ◌∷◌, length, map, Bool, false, ◌||◌, Ok, Vec, Global, refl, sym, ap, ◌∙◌, subst, arith}
use Rattle.std.proofs.lemmas.List.{length-set}
use Rattle.ob_judge.specs.Scopes.{Entry, World, spelled}
use Rattle.ob_judge.specs.Standards.{predeclared}
use Rattle.ob_judge.specs.Making.{Making, declare_last}
use Rattle.ob_judge.specs.Modules.{is_in}
use Rattle.check_types.specs.steps.Answers.{Answers}
use Rattle.check_types.specs.declared.names.levels.Level.{Level}
use Rattle.check_types.specs.declared.names.scope.Imported.{Imported}
use Rattle.check_types.specs.declared.names.scope.Named.TheVariants as TheNamed
use Rattle.check_types.specs.declared.names.scope.Declared.{Declared}
use Rattle.check_types.specs.names.Meaning.{entry_of, names_of, imported_of}
use Rattle.check_making.specs.declared.making.Declaring.{Declaring}
use Rattle.check_making.specs.declared.making.Surroundings.{Surroundings}
use Rattle.check_making.specs.Staying.{LevelsStay, AllHaveTypes, NamedStays, IsDeclaredIn}
use Rattle.check_making.specs.Making.{table_of, strings_of, levels_of, world_in, Makes, IsSettled}
use Rattle.check_making.specs.Parts.{Made}
use Rattle.check_making.proofs.Known.{names_set, have_set, stay_set}
use Rattle.check_modules.specs.importing.Importing.{known_as}

module _ (r : Surroundings) (s : Declaring) (ok : IsSettled r s) (i : ℕ) (of : Imported) (imports_in : Bool) (levels : Vec Level Global) where
  abbrev name : List ℕ
  name = spelled r.source.now i

  abbrev d : Declared
  d = record { named = TheNamed.Module of; exported = false }

  abbrev e : Entry
  e = entry_of (table_of s) (strings_of s) d

  abbrev after : Declaring
  after = record s { imports_in = imports_in; levels = levels }

  -- what an import stands for stays
  stays : NamedStays s.types.table (strings_of s) d.named
  stays = record { object = λ u more k. refl }

  module _ (level : IsDeclaredIn s.levels.items levels.items (length s.levels.items - 1) name d) where
    pub settled_known : IsSettled r after
    settled_known = record {
      built = ok.built;
      levels = subst (LevelsStay s.types.table (strings_of s)) (sym level.set) (stay_set s.types.table (strings_of s) name d stays level.level s.levels.items (length s.levels.items - 1) level.names ok.levels);
      modules = ok.modules;
      types = (
        ok.types.0,
        subst (λ ls. AllHaveTypes (table_of s) (map (names_of (table_of s) (strings_of s)) ls)) (sym level.set)
            (have_set (table_of s) (strings_of s) name e tt level.level s.levels.items (length s.levels.items - 1) (λ l is. level.names l is (table_of s) (strings_of s)) ok.types.1),
      );
      members = ok.members;
      variables = ok.variables;
      objects = ok.objects;
      open_scope = subst (λ ls. r.depth < length ls) (sym level.set) (let l = length-set s.levels.items (length s.levels.items - 1) level.level in let o = ok.open_scope in omega (arith, l, o));
      places = ok.places;
      own_text = ok.own_text;
    }

    levels_known : declare_last name e (levels_of s) ≡ levels_of after
    levels_known =
        names_set (table_of s) (strings_of s) name e level.level s.levels.items (length s.levels.items - 1) (λ l is. level.names l is (table_of s) (strings_of s)) predeclared refl (let o = ok.open_scope in omega (arith, o))
        ∙ ap (λ ls. predeclared ∷ map (names_of (table_of s) (strings_of s)) ls) (sym level.set)

    pub known_made : (m : Making) → Makes r s m → imports_in ≡ (s.imports_in || is_in (imported_of of)) → Answers (Made r after) (known_as r.source.now i (imported_of of) m) (Ok tt)
    known_made m makes in_ = record {
      by = record {
        makes = record {
          imports_in = ap (λ b. b || is_in (imported_of of)) makes.imports_in ∙ sym in_;
          world = ap (λ (w : World). record w { levels = declare_last name e w.levels }) makes.world ∙ ap (λ ls. record (world_in r s) { levels = ls }) levels_known;
          is_type_part = makes.is_type_part;
          forward = makes.forward;
          standing = makes.standing;
          values = makes.values;
          variables = makes.variables;
          objects = makes.objects;
        };
      };
    }
