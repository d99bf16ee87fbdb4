-- A procedure's name in the scope round its own.
use Rattle.std.proofs.Common.{◌≡◌, ℕ, ◌<◌, ◌-◌, List, ◌∷◌, ◌++◌, length, map, Bool, true, false, not, is_some, Ok, Vec, Global, refl, sym, ap, ◌∙◌, subst, arith}
use Rattle.std.proofs.lemmas.List.{length-set}
use Rattle.ob_syntax.specs.declared.names.Identdef.{Identdef}
use Rattle.ob_judge.specs.Scopes.{AProcedure, Entry, World, spelled}
use Rattle.ob_judge.specs.Standards.{predeclared}
use Rattle.ob_judge.specs.Making.{Making, declare_outer, with_levels, offer_if, declared_as, entity_of}
use Rattle.check_types.specs.steps.Answers.{Answers}
use Rattle.check_types.specs.declared.types.TypeRef.TheVariants as TheType
use Rattle.check_types.specs.TypeMeaning.{type_shape}
use Rattle.check_types.specs.declared.names.levels.Level.{Level}
use Rattle.check_types.specs.declared.names.scope.Named.TheVariants as TheNamed
use Rattle.check_types.specs.declared.names.scope.Declared.{Declared}
use Rattle.check_types.specs.names.Meaning.{entry_of, names_of}
use Rattle.table_builder.specs.Entries.{IsNumbered}
use Rattle.check_making.specs.declared.making.Declaring.{Declaring}
use Rattle.check_making.specs.declared.making.Offered.{Offered}
use Rattle.check_making.specs.declared.making.Surroundings.{Surroundings}
use Rattle.check_making.specs.Staying.{LevelsStay, AllHaveTypes, NamedStays, IsDeclaredIn}
use Rattle.check_making.specs.Making.{table_of, strings_of, levels_of, world_in, offered_of, offered_if, OfferedStay, Makes, IsSettled}
use Rattle.check_making.specs.Parts.{Made}
use Rattle.check_making.proofs.Known.{have_set, stay_set, offered-append, offered_stay}
use Rattle.check_making.specs.scopes.Naming.{named_procedure}
use Rattle.check_making.proofs.scopes.Levels.{names_outer}

module _ (r : Surroundings) (s : Declaring) (ok : IsSettled r s) (x : Identdef) (f g : ℕ) (is_local : Bool) (typed : IsNumbered s.types.table.entries.items (TheType.Procedure g)) (levels : Vec Level Global) (objects : Vec Offered Global) where
  abbrev name : List ℕ
  name = spelled r.source.now x.name

  abbrev d : Declared
  d = record { named = TheNamed.Procedure f g is_local; exported = is_some x.star }

  abbrev e : Entry
  e = entry_of (table_of s) (strings_of s) d

  abbrev after : Declaring
  after = record s { levels = levels; objects = objects }

  -- a procedure's type stays, so it does
  stays : NamedStays s.types.table (strings_of s) d.named
  stays = record { object = λ u more k. ap (λ z. AProcedure f z is_local) (k.shape (TheType.Procedure g) typed) }

  module _ (level : IsDeclaredIn s.levels.items levels.items (length s.levels.items - 2) name d) (offered : objects.items ≡ offered_if (not is_local) name d s.objects.items) (two : 1 < length s.levels.items) where
    levels_after : declare_outer name e (levels_of s) ≡ levels_of after
    levels_after =
        names_outer (table_of s) (strings_of s) name e level.level s.levels.items (length s.levels.items - 2) (λ l is. level.names l is (table_of s) (strings_of s)) predeclared refl two
        ∙ ap (λ ls. predeclared ∷ map (names_of (table_of s) (strings_of s)) ls) (sym level.set)

    pub settled_named : IsSettled r after
    settled_named = record {
      built = ok.built;
      levels = subst (LevelsStay s.types.table (strings_of s)) (sym level.set) (stay_set s.types.table (strings_of s) name d stays level.level s.levels.items (length s.levels.items - 2) level.names ok.levels);
      modules = ok.modules;
      types = (
        ok.types.0,
        subst (λ ls. AllHaveTypes (table_of s) (map (names_of (table_of s) (strings_of s)) ls)) (sym level.set)
            (have_set (table_of s) (strings_of s) name e tt level.level s.levels.items (length s.levels.items - 2) (λ l is. level.names l is (table_of s) (strings_of s)) ok.types.1),
      );
      members = ok.members;
      variables = ok.variables;
      objects = subst (OfferedStay s.types.table (strings_of s)) (sym offered) (either (not is_local));
      open_scope = subst (λ ls. r.depth < length ls) (sym level.set) (let l = length-set s.levels.items (length s.levels.items - 2) level.level in let o = ok.open_scope in omega (arith, l, o));
      places = ok.places;
      own_text = ok.own_text;
    }
      where
        either : (b : Bool) → OfferedStay s.types.table (strings_of s) (offered_if b name d s.objects.items)
        either true = offered_stay s.types.table (strings_of s) s.objects.items (record { name = name; declared = d }) ok.objects stays tt
        either false = ok.objects

    module _ (m : Making) (makes : Makes r s m) where
      world_after : record m.world { levels = declare_outer name e m.world.levels } ≡ world_in r after
      world_after = ap (λ (w : World). record w { levels = declare_outer name e w.levels }) makes.world ∙ ap (λ ls. record (world_in r s) { levels = ls }) levels_after

      makes_named : (b : Bool) → not is_local ≡ b → Makes r after (offer_if b name e (with_levels (declare_outer name e) m))
      makes_named true is = record {
        imports_in = makes.imports_in;
        world = world_after;
        is_type_part = makes.is_type_part;
        forward = makes.forward;
        standing = makes.standing;
        values = makes.values;
        variables = makes.variables;
        objects = ap (λ ds. ds ++ declared_as name e.exported (entity_of e.object)) makes.objects
            ∙ sym (ap (offered_of (table_of s) (strings_of s)) (offered ∙ ap (λ b. offered_if b name d s.objects.items) is) ∙ offered-append (table_of s) (strings_of s) s.objects.items (record { name = name; declared = d }));
      }
      makes_named false is = record {
        imports_in = makes.imports_in;
        world = world_after;
        is_type_part = makes.is_type_part;
        forward = makes.forward;
        standing = makes.standing;
        values = makes.values;
        variables = makes.variables;
        objects = makes.objects ∙ sym (ap (offered_of (table_of s) (strings_of s)) (offered ∙ ap (λ b. offered_if b name d s.objects.items) is));
      }

      pub named_made : Answers (Made r after) (named_procedure r.source.now f x (type_shape (table_of s) (TheType.Procedure g)) is_local m) (Ok tt)
      named_made = record { by = record { makes = makes_named (not is_local) refl } }
