-- The state where a module begins.
use Rattle.std.proofs.Common.{◌≡◌, ℕ, ◌<◌, List, [], ◌∷◌, length, map, Some, None, Vec, Global, option_map, refl, sym, ap, ◌∙◌, subst, arith}
use Rattle.std.specs.Prelude.{slice_get}
use Rattle.std.proofs.lemmas.Option.{slice_get_within}
use mathlib.Core.Path.{fun_ext}
use Rattle.ob_types.specs.Table.{Table}
use Rattle.ob_types.proofs.Tests.{none_some}
use Rattle.ob_judge.specs.Scopes.{no_names}
use Rattle.ob_judge.specs.Standards.{predeclared}
use Rattle.judged_well.proofs.FirstWorld.{of_predeclared}
use Rattle.check_types.specs.steps.Maps.{at_bytes}
use Rattle.check_types.specs.declared.types.TypeRef.{TypeRef}
use Rattle.check_types.specs.declared.types.TypeRef.TheVariants as TheType
use Rattle.check_types.specs.declared.table.TypeTable.{TypeTable}
use Rattle.check_types.specs.TypeMeaning.{type_shape}
use Rattle.check_types.specs.declared.names.levels.Level.{Level}
use Rattle.check_types.specs.names.Meaning.{entry_of, names_of}
use Rattle.table_builder.specs.declared.builder.TableBuilder.{TableBuilder}
use Rattle.table_builder.specs.Entries.{HasShape}
use Rattle.table_builder.specs.Builder.{IsBuilt}
use Rattle.table_builder.proofs.Meaning.{meant, long}
use Rattle.check_making.specs.declared.making.Declaring.{Declaring}
use Rattle.check_making.specs.declared.making.Surroundings.{Surroundings}
use Rattle.check_making.specs.Staying.{LevelStays, LevelsStay, AreSettled, HasType, NamesHaveTypes, AllHaveTypes}
use Rattle.check_making.specs.Making.{table_of, strings_of, AreNumbered, OfferedStay, AreTextPlaces, IsSettled}
use Rattle.std.specs.BTreeMap.{BTreeMap, is_at}
use Rattle.std.specs.Map.{lookup}
use Rattle.std.specs.Cmp.Lexicographic.{slice_cmp}
use Rattle.std.specs.Ordering.{nat_cmp}

module _ (b : TableBuilder) (ok : IsBuilt b) where
  pub basic_shape : (e : TypeRef) (n : ℕ) → slice_get b.table.entries.items n ≡ Some e → HasShape b.table.types (type_shape b.table.types e)
  basic_shape e n at = record {
    number = n;
    there = (let l = slice_get_within b.table.entries.items n e at in let m = long b.table.types b.table.entries.items b.table.bases.items ok.sound in omega (arith, l, m));
    same = meant b.table.types b.table.entries.items b.table.bases.items ok.sound n e at;
  }

  pub predeclared_have : NamesHaveTypes b.table.types predeclared
  predeclared_have = record {
    each = of_predeclared (HasType b.table.types)
        (basic_shape TheType.Int 0 (ok.index.says TheType.Int 0 refl), refl) (basic_shape TheType.Bool 1 (ok.index.says TheType.Bool 1 refl), refl)
        (basic_shape TheType.Char 2 (ok.index.says TheType.Char 2 refl), refl) (basic_shape TheType.Byte 3 (ok.index.says TheType.Byte 3 refl), refl)
        (basic_shape TheType.Set 4 (ok.index.says TheType.Set 4 refl), refl) (λ s. tt);
  }

-- a scope without names
module _ (l : Level) (empty : (q : List ℕ) → at_bytes l.names q ≡ None) where
  pub empty_names : (t : Table) (strings : List (List ℕ)) → names_of t strings l ≡ no_names
  empty_names t strings = fun_ext (λ q. ap (option_map (entry_of t strings)) (empty q))

  pub empty_stays : (t : TypeTable) (strings : List (List ℕ)) → LevelStays t strings l
  empty_stays t strings = record { names = λ u more g. fun_ext (λ q. ap (option_map (entry_of u.types _)) (empty q)) ∙ sym (empty_names t.types strings) }

  pub empty_have : (t : Table) (strings : List (List ℕ)) → NamesHaveTypes t (names_of t strings l)
  empty_have t strings = record { each = λ q x is. none_some _ (sym (ap (λ f. f q) (empty_names t strings)) ∙ is) }

pub at_empty : {X : Type 0} (m : BTreeMap (Vec ℕ Global) X) → m.entries ≡ [] → (q : List ℕ) → at_bytes m q ≡ None
at_empty m h q = ap (lookup (is_at (λ (k : Vec ℕ Global). slice_cmp nat_cmp q k.items))) h

pub first_settled : (r : Surroundings) (s : Declaring) (l : Level) → r.depth ≡ 0 → l.names.entries ≡ [] → IsBuilt s.types → AreSettled s.types.table (strings_of s) r.modules.now → s.levels.items ≡ l ∷ [] → s.variables.items ≡ [] → s.objects.items ≡ []
    → AreTextPlaces r.texts.now s.places.items (strings_of s) → slice_get r.texts.now r.module_number ≡ Some r.source.now.bytes → IsSettled r s
first_settled r s l depth empty built modules ls vs os places own =
    let none = at_empty l.names empty in
    record {
      built = built;
      levels = subst (LevelsStay s.types.table (strings_of s)) (sym ls) (empty_stays l none s.types.table (strings_of s), tt);
      modules = modules.stay;
      types = (predeclared_have s.types built, subst (λ ks. AllHaveTypes (table_of s) (map (names_of (table_of s) (strings_of s)) ks)) (sym ls) (empty_have l none (table_of s) (strings_of s), tt));
      members = modules.types;
      variables = subst (AreNumbered s.types.table.entries.items) (sym vs) tt;
      objects = subst (OfferedStay s.types.table (strings_of s)) (sym os) tt;
      open_scope = subst (λ ks. r.depth < length ks) (sym ls) (omega (arith, depth));
      places = places;
      own_text = own;
    }
