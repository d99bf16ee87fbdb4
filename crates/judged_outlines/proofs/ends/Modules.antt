-- Modules, one after the other.
use Rattle.std.proofs.Common.{◌≡◌, ℕ, zero, suc, List, [], ◌∷◌, ◌++◌, false, Option, Some, None, refl, subst}
use Rattle.std.specs.Prelude.{slice_get, ◌||◌}
use Rattle.std.specs.Str.{bytes_eq}
use Rattle.ob_types.proofs.Tests.{none_some, some_same}
use Rattle.ob_syntax.specs.Syntax as S
use Rattle.ob_syntax.specs.declared.modules.Import.{Import}
use Rattle.ob_judge.specs.Judged.{Keeps, rule, some}
use Rattle.ob_judge.specs.Scopes.{AModule, Object, AConstant, AType, AVariable, AProcedure, AStandard, Entry, Imported, KnownModule, Source, place, spelled}
use Rattle.ob_judge.specs.Statements.{body_of}
use Rattle.ob_judge.specs.Making.{Making, declare_last, with_levels, last_names}
use Rattle.ob_judge.specs.Declarations.{each, decls_part}
use Rattle.ob_judge.specs.Modules.{SoFar, no_modules, imported, is_new, is_in, origin, import_list, import_part, first_making, module_part, with_module, offered, offered_by}
use Rattle.judged_well.specs.Gives.{Gives}
use Rattle.judged_well.specs.Standing.{IsRead}
use Rattle.judged_well.proofs.Judging.{keeps, and_then}
use Rattle.judged_well.proofs.FirstWorld.{of_predeclared}
use Rattle.judged_modules.specs.Sound.{AllNames}
use Rattle.judged_outlines.specs.ends.Ends.{ObjectInRange, NamesInRange, OffersInRange, EndsWell}
use Rattle.judged_outlines.proofs.ends.Onward.{HasRanges, Onward, OnwardTo, calm, quiet, onward, o_next, o_look, AboveTo, above_by, above_on, a_next, a_by, a_look, names_last, last_in}
use Rattle.judged_outlines.proofs.ends.Names.{h_stand}
use Rattle.judged_outlines.proofs.ends.Types.{k_decls}

pub none_end : EndsWell no_modules
none_end = record { points = record { each = λ n h. none_some None h }; constants = λ n m at. none_some m at }

pub first_ranges : (c : SoFar) → EndsWell c → HasRanges (first_making c).world
first_ranges c h = record { names = (of_predeclared ObjectInRange tt tt tt tt tt (λ s. tt), (λ q x at. none_some x at, tt)); members = h.constants }

module _ (p : Source) (read : IsRead p) where
  abbrev imports_in : Imported → Making → Making
  imports_in m s = record s { imports_in = s.imports_in || is_in m }

  abbrev module_entry : Imported → Entry
  module_entry m = record { object = AModule m; exported = false }

  known_as : (name : ℕ) (m : Imported) (s : Making) → Onward s (with_levels (declare_last (spelled p name) (module_entry m)) (imports_in m s))
  known_as name m s = calm s _ refl refl refl refl (λ r. names_last ObjectInRange (spelled p name) (module_entry m) s.world.levels tt r.names) (λ r os. os)

  e_import : (x : Import) (s : Making) → Gives (OnwardTo s) (import_part p x s)
  e_import x s = o_next (h_stand p read (x.name ∷ []) s) (λ r. o_next (o_look (some 38 (place p (origin x)) (imported r.1.world.modules (spelled p (origin x)))) r.1) (λ m.
      keeps (OnwardTo m.1) (tt, with_levels (declare_last (spelled p x.name) (module_entry m.0)) (imports_in m.0 m.1)) (known_as x.name m.0 m.1)))

  pub e_imports : (xs : List Import) (s : Making) → Gives (OnwardTo s) (each (import_part p) xs s)
  e_imports [] s = keeps (OnwardTo s) (tt, s) (onward s)
  e_imports (x ∷ xs) s = o_next (e_import x s) (λ r. e_imports xs r.1)

  e_module : (m : S.Module) (s : Making) → Gives (AboveTo s) (module_part p m s)
  e_module m s =
      a_next (a_look (rule 36 (place p m.name) (is_new (imported s.world.modules (spelled p m.name)))) s) (λ a.
      a_next (a_by (e_imports (import_list m.imports) a.1)) (λ b.
      a_next (k_decls p read m.decls b.1) (λ d.
      a_next (a_look (body_of p d.1.world m.body) d.1) (λ e.
      a_next (a_look (rule 37 (place p m.end_name) (bytes_eq (spelled p m.end_name) (spelled p m.name))) e.1) (λ u.
      keeps (AboveTo u.1) (_, _) (above_by u.1 _ (quiet u.1 _ refl refl refl refl refl refl)))))))

  offered_range : (ls : List (List ℕ → Option Entry)) → AllNames ObjectInRange ls → NamesInRange (offered_by ls)
  offered_range ls all q x is = by (last_names ls q) refl is
    where
      of_object : (e : Entry) (o : Object) → (elim o as (λ _. Option Entry) [ AModule m ↦ None | other ↦ Some e ]) ≡ Some x → (Some e ≡ Some x → ObjectInRange x.object) → ObjectInRange x.object
      of_object e (AModule m) i f = none_some x i
      of_object e (AConstant c) i f = f i
      of_object e (AType s) i f = f i
      of_object e (AVariable v) i f = f i
      of_object e (AProcedure n s l) i f = f i
      of_object e (AStandard s) i f = f i

      by : (o : Option Entry) → last_names ls q ≡ o → offered o ≡ Some x → ObjectInRange x.object
      by None e i = none_some x i
      by (Some y) e i = of_object y y.object i (λ j. subst (λ z. ObjectInRange z.object) (some_same y x j) (last_in ObjectInRange ls all q y e))

  more_range : (ms : List KnownModule) (k : KnownModule) → NamesInRange k.names → ((n : ℕ) (m : KnownModule) → slice_get ms n ≡ Some m → NamesInRange m.names) → (n : ℕ) (m : KnownModule) → slice_get (ms ++ k ∷ []) n ≡ Some m → NamesInRange m.names
  more_range [] k h all zero m at = subst (λ (z : KnownModule). NamesInRange z.names) (some_same k m at) h
  more_range [] k h all (suc n) m at = none_some m at
  more_range (x ∷ ms) k h all zero m at = all zero m at
  more_range (x ∷ ms) k h all (suc n) m at = more_range ms k h (λ i y is. all (suc i) y is) n m at

  module _ (m : S.Module) (c : SoFar) (ends : EndsWell c) where
    e_with : Gives EndsWell (with_module p m c)
    e_with = and_then (e_module m (first_making c)) (λ r h. keeps EndsWell _ (record {
      points = record { each = λ n x. ends.points.each n (h.unset refl n x) };
      constants = more_range c.modules (record { name = spelled p m.name; names = offered_by (r.1).world.levels }) (offered_range (r.1).world.levels (h.names (first_ranges c ends))) ends.constants;
    }))

    pub module_ends_well : (d : SoFar) → with_module p m c ≡ Keeps d → EndsWell d
    module_ends_well d is = (subst (Gives EndsWell) is e_with).holds

    pub constants_offered : (s t : Making) → each (import_part p) (import_list m.imports) (first_making c) ≡ Keeps (tt, s) → decls_part p m.decls s ≡ Keeps (tt, t) → OffersInRange t.objects
    constants_offered s t i d =
        let a = (subst (Gives (OnwardTo (first_making c))) i (e_imports (import_list m.imports) (first_making c))).holds in
        let b = (subst (Gives (AboveTo s)) d (k_decls p read m.decls s)).holds in
        (above_on (first_making c) s t (above_by (first_making c) s a) b).objects (first_ranges c ends) tt
