-- One module more.
use Rattle.std.proofs.Common.{◌≡◌, ℕ, suc, List, [], ◌∷◌, ◌++◌, map, length, Option, Some, Result, Ok, Err, Vec, Global, refl, sym, ap, ap₂, ◌∙◌, subst}
use Rattle.std.specs.Prelude.{slice_get, get_or}
use Rattle.std.proofs.lemmas.Option.{get_or_from_slice_get}
use Rattle.ob_types.specs.Table.{Table}
use Rattle.ob_types.specs.declared.program.Module.{Module}
use Rattle.ob_syntax.specs.Syntax as S
use Rattle.ob_judge.specs.Image as I
use Rattle.ob_judge.specs.Judged.{Judged, Keeps, ◌>>=◌, ◌>>◌, rule}
use Rattle.ob_judge.specs.Scopes.{Source, World, Entry, place, spelled}
use Rattle.ob_judge.specs.Scopes.{KnownModule as KnownModuleOf}
use Rattle.ob_judge.specs.Making.{Making}
use Rattle.ob_judge.specs.Modules.{SoFar, imported, is_new, first_making, with_module, offered_by}
use Rattle.judged_well.specs.Standing.{IsRead}
use Rattle.judged_outlines.specs.Upright.{Upright, UprightSoFar}
use Rattle.judged_outlines.proofs.Modules.{first_upright}
use Rattle.legal_tables.specs.Promised.{HasLegalTypes}
use Rattle.check_types.specs.steps.Answers.{Answers}
use Rattle.check_types.specs.declared.steps.fault.CheckFault.{CheckFault}
use Rattle.check_types.proofs.steps.Answering.{as_judged, goes_on, stop}
use Rattle.check_types.specs.declared.table.TypeTable.{TypeTable}
use Rattle.check_types.specs.declared.names.scope.KnownModule.{KnownModule}
use Rattle.check_types.specs.names.Meaning.{module_of}
use Rattle.check_selectors.specs.standard.Made.{IsKept}
use Rattle.table_builder.specs.Growing.{Grows}
use Rattle.check_making.specs.declared.making.Declaring.{Declaring}
use Rattle.check_making.specs.declared.making.Surroundings.{Surroundings}
use Rattle.check_making.specs.Staying.{ModuleStays, ModulesStay, NamesHaveTypes, AllHaveTypes, AreSettled}
use Rattle.check_making.specs.Making.{strings_of, AreTextPlaces, Makes, IsSettled}
use Rattle.check_making.specs.Parts.{IsNextModule}
use Rattle.check_making.proofs.Growing.{grows_on}
use Rattle.check_making.specs.declared.scopes.building.Building.{Building}
use Rattle.check_making.specs.scopes.Building.{TheyStandFor, Represents}
use Rattle.check_procedures.specs.UnderWay.{IsUnderWay, BuildsUpright}
use Rattle.check_procedures.proofs.Giving.{rule_stops}
use Rattle.judged_outlines.specs.ends.Ends.{EndsWell}
use Rattle.check_procedures.specs.lines.Lines.{IsLineTable}
use Rattle.check_modules.specs.declared.ending.JudgedModule.{JudgedModule}
use Rattle.check_modules.specs.declared.programs.modules.Modules.{Modules}
use Rattle.check_modules.specs.programs.Entities.{AreTold}
use Rattle.check_modules.specs.programs.Modules.{IsModuleOf, AreModulesOf, StandsForModules, HasSettledModules, modules_behind}
use Rattle.check_modules.specs.Parts.{declared_part, ending_part}
use Rattle.check_modules.specs.Ended.{IsEnded, SeenStays, HasSoFar}
use Rattle.check_modules.proofs.ByParts.{module_parts}
use Rattle.check_modules.proofs.Declared.{same_modules, declared_upright, declared_in_range, told}
use Rattle.check_making.proofs.headings.Heads.{by_given as came}

-- ---- lists with one more

map_more : {A B : Type 0} (f : A → B) (xs : List A) (x : A) → map f (xs ++ x ∷ []) ≡ map f xs ++ f x ∷ []
map_more f [] x = refl
map_more f (y ∷ xs) x = ap (λ ys. f y ∷ ys) (map_more f xs x)

map_length : {A B : Type 0} (f : A → B) (xs : List A) → length (map f xs) ≡ length xs
map_length f [] = refl
map_length f (x ∷ xs) = ap suc (map_length f xs)

pub length_more : {A : Type 0} (xs : List A) (x : A) → length (xs ++ x ∷ []) ≡ suc (length xs)
length_more [] x = refl
length_more (y ∷ xs) x = ap suc (length_more xs x)

stay_more : (t : TypeTable) (strings : List (List ℕ)) (ks : List KnownModule) (k : KnownModule) → ModulesStay t strings ks → ModuleStays t strings k → ModulesStay t strings (ks ++ k ∷ [])
stay_more t strings [] k h one = (one, tt)
stay_more t strings (j ∷ ks) k h one = (h.0, stay_more t strings ks k h.1 one)

types_more : (t : Table) (ls : List (List ℕ → Option Entry)) (l : List ℕ → Option Entry) → AllHaveTypes t ls → NamesHaveTypes t l → AllHaveTypes t (ls ++ l ∷ [])
types_more t [] l h one = (one, tt)
types_more t (k ∷ ls) l h one = (h.0, types_more t ls l h.1 one)

module_still : (texts : List (List ℕ)) (t u : TypeTable) (g : Grows t u) (m : Module) (j : I.Module) → IsModuleOf texts t m j → IsModuleOf texts u m j
module_still texts t u g m j h = record { image = h.stays u g ∙ h.image; stays = λ v k. h.stays v (grows_on t u v g k) ∙ sym (h.stays u g) }

modules_more : (texts : List (List ℕ)) (t u : TypeTable) (g : Grows t u) (ms : List Module) (js : List I.Module) (m : Module) (j : I.Module) → AreModulesOf texts t ms js → IsModuleOf texts u m j
    → AreModulesOf texts u (ms ++ m ∷ []) (js ++ j ∷ [])
modules_more texts t u g [] [] m j h one = (one, tt)
modules_more texts t u g (n ∷ ms) (k ∷ js) m j h one = (module_still texts t u g n k h.0, modules_more texts t u g ms js m j h.1 one)
modules_more texts t u g [] (k ∷ js) m j h one = absurd h
modules_more texts t u g (n ∷ ms) [] m j h one = absurd h

-- ---- the judgement by its parts

module _ (p : Source) (x : S.Module) (c : SoFar) where
  abbrev pub after : I.Module × Making → Judged SoFar
  after y = Keeps (record {
    imports_in = y.1.imports_in;
    modules = c.modules ++ record { name = spelled p x.name; names = offered_by y.1.world.levels } ∷ [];
    known = y.1.world.known;
    program_modules = c.program_modules ++ y.0 ∷ [];
    procedures = y.1.procedures;
  })

  abbrev pub whole : Judged (I.Module × Making)
  whole = declared_part p x (first_making c) >>= λ d. ending_part p x d.1

  abbrev pub new_name : Judged (Unit {0})
  new_name = rule 36 (place p x.name) (is_new (imported c.modules (spelled p x.name)))

  with_parts : with_module p x c ≡ ((new_name >> whole) >>= after)
  with_parts = ap (λ (j : Judged (I.Module × Making)). j >>= after) (module_parts p x (first_making c))

  abbrev Stops : Unit {0} → I.Module × Making → Type 0
  Stops a b = Unit {0}

  pub not_new : {B : Type 0} {R : B → SoFar → Type 0} {e : CheckFault} → Answers IsKept new_name (Err e) → Answers R (with_module p x c) (Err e)
  not_new h = as_judged with_parts (stop {R = Stops} (new_name >> whole) after (rule_stops {S = Stops} new_name whole h))

-- the lines of a module's text, which is the one by its number
pub lines_here : (texts : List (List ℕ)) (n k : ℕ) (bytes own shown lines seen : List ℕ) → slice_get texts k ≡ Some bytes → n ≡ k → own ≡ get_or texts n own → shown ≡ own → IsLineTable shown lines → seen ≡ lines → IsLineTable bytes seen
lines_here texts n k bytes own shown lines seen at number is shows h sees =
    subst (IsLineTable bytes) (sym sees) (subst (λ b. IsLineTable b lines) (shows ∙ is ∙ get_or_from_slice_get texts n bytes own (subst (λ i. slice_get texts i ≡ Some bytes) (sym number) at)) h)

-- the answer of a new name
pub name_judged : (texts : List (List ℕ)) (state : Modules) (p : Source) (x : S.Module) (known : List KnownModule) → known ≡ state.known.items → {result : Result (Unit {0}) CheckFault}
    → ((t : Table) (strings : List (List ℕ)) → Answers IsKept (rule 36 (place p x.name) (is_new (imported (map (module_of t strings) known) (spelled p x.name)))) result)
    → (c : SoFar) → StandsForModules texts state c → Answers IsKept (new_name p x c) result
name_judged texts state p x known same {result} h c stands =
    subst (λ ms. Answers IsKept (rule 36 (place p x.name) (is_new (imported ms (spelled p x.name)))) result)
    (ap (map (module_of state.types.table.types state.strings.items)) same ∙ sym stands.modules) (h state.types.table.types state.strings.items)

-- ---- where a module begins

module _ (texts : List (List ℕ)) (state : Modules) (r : Surroundings) (modules : r.modules.now ≡ state.known.items) (number : r.module_number ≡ length state.known.items) where
  next_is : (c : SoFar) → StandsForModules texts state c → IsNextModule r state.types.table state.strings.items state.imports_in c
  next_is c h = record {
    imports = h.imports_in;
    modules = h.modules ∙ ap (map (module_of state.types.table.types state.strings.items)) (sym modules);
    known = h.known;
    number = ap (λ ks. length ks) h.modules ∙ map_length (module_of state.types.table.types state.strings.items) state.known.items ∙ sym number;
  }

  module _ (s : Declaring) (types : s.types ≡ state.types) (makes : (c : SoFar) → IsNextModule r state.types.table state.strings.items state.imports_in c → Makes r s (first_making c)) where
    abbrev first_building : Building
    first_building = record { declaring = s; procedures = state.procedures }

    pub first_represents : (c : SoFar) → StandsForModules texts state c → Represents r first_building (first_making c)
    first_represents c h = record {
      makes = makes c (next_is c h);
      procedures = subst (λ z. TheyStandFor z.table state.procedures.items c.procedures) (sym types) h.procedures;
    }

    pub first_under_way : IsSettled r s → HasSoFar texts state → IsUnderWay r first_building
    first_under_way ok h = record {
      settled = ok;
      so_far = h.so_far;
      making = first_making h.so_far;
      represents = first_represents h.so_far h.stands;
      upright = first_upright h.so_far h.upright;
    }

    -- ---- once it is declared

    module _ (x : S.Module) (b : Building) (declared : BuildsUpright r first_building b (declared_part r.source.now x) (Ok tt)) where
      pub offers_told : IsRead r.source.now → HasSoFar texts state → IsSettled r b.declaring → AreTold b.declaring.types.table.entries.items b.declaring.objects.items
      offers_told read h ok =
          came (declared_part r.source.now x (first_making h.so_far)) (declared h.so_far (first_making h.so_far) (first_represents h.so_far h.stands) (first_upright h.so_far h.upright)) (λ a e built.
          told b.declaring.types ok.built (strings_of b.declaring) b.declaring.objects.items ok.objects
          (subst (λ os. Rattle.judged_outlines.specs.ends.Ends.OffersInRange os) (built.represents.makes.objects) (declared_in_range r x h.so_far a read h.ends e)))

      -- ---- and has ended

      module _ (t : Building) (end : JudgedModule) (t_types : t.declaring.types ≡ b.declaring.types) (t_strings : t.declaring.strings ≡ b.declaring.strings) (t_places : t.declaring.places ≡ b.declaring.places)
          (seen : SeenStays t end) (ok : IsSettled r b.declaring) (known : Vec KnownModule Global) (known_is : known.items ≡ state.known.items ++ end.seen ∷ []) where
        abbrev now : Modules
        now = modules_behind t known (state.modules ++ end.own ∷ [])

        abbrev members_at : TypeTable → List (List ℕ) → List KnownModule → List (List ℕ → Option Entry)
        members_at u strings ks = map (λ k. (module_of u.types strings k).names) ks

        pub settled_behind : (texts_are : r.texts.now ≡ texts) → HasLegalTypes b.declaring.types.table → HasSettledModules texts now
        settled_behind texts_are legal =
            let ks = state.known.items in
            let stay = subst (λ z. ModulesStay z.table (strings_of t.declaring) ks) (sym t_types) (subst (λ z. ModulesStay b.declaring.types.table z.items ks) (sym t_strings) (subst (ModulesStay b.declaring.types.table (strings_of b.declaring)) modules ok.modules)) in
            let types = subst (λ z. AllHaveTypes z.table.types (members_at z.table (strings_of t.declaring) ks)) (sym t_types)
            (subst (λ z. AllHaveTypes b.declaring.types.table.types (members_at b.declaring.types.table z.items ks)) (sym t_strings)
            (subst (λ ms. AllHaveTypes b.declaring.types.table.types (members_at b.declaring.types.table (strings_of b.declaring) ms)) modules ok.members)) in
            record {
              built = subst (λ z. Rattle.table_builder.specs.Builder.IsBuilt z) (sym t_types) ok.built;
              names = subst (AreSettled t.declaring.types.table (strings_of t.declaring)) (sym known_is) (record {
                stay = stay_more t.declaring.types.table (strings_of t.declaring) ks end.seen stay seen.names;
                types = subst (AllHaveTypes t.declaring.types.table.types) (sym (map_more (λ k. (module_of t.declaring.types.table.types (strings_of t.declaring) k).names) ks end.seen))
                    (types_more t.declaring.types.table.types (members_at t.declaring.types.table (strings_of t.declaring) ks) (module_of t.declaring.types.table.types (strings_of t.declaring) end.seen).names types seen.types);
              });
              places = subst (λ z. AreTextPlaces z t.declaring.places.items (strings_of t.declaring)) texts_are
                  (subst (λ z. AreTextPlaces r.texts.now z.items (strings_of t.declaring)) (sym t_places) (subst (λ z. AreTextPlaces r.texts.now b.declaring.places.items z.items) (sym t_strings) ok.places));
              legal = subst (λ z. HasLegalTypes z.table) (sym t_types) legal;
            }

        stands_behind : (texts_are : r.texts.now ≡ texts) → Grows state.types.table b.declaring.types.table → (c : SoFar) → StandsForModules texts state c → (a : Unit {0} × Making) → declared_part r.source.now x (first_making c) ≡ Keeps a → Represents r b a.1
            → (y : I.Module × Making) → IsEnded r x.name t end y
            → StandsForModules texts now (record {
              imports_in = y.1.imports_in;
              modules = c.modules ++ record { name = spelled r.source.now x.name; names = offered_by y.1.world.levels } ∷ [];
              known = y.1.world.known;
              program_modules = c.program_modules ++ y.0 ∷ [];
              procedures = y.1.procedures;
            })
        stands_behind texts_are grows c h a e represents y ended = record {
          imports_in = ended.imports_in;
          modules =
              ap₂ {C = List KnownModuleOf} (λ ms k. ms ++ k ∷ [])
              (sym (same_modules r x (first_making c) a e) ∙ ap (λ (w : World). w.modules) represents.makes.world
              ∙ ap (λ z. map (module_of z.table.types (strings_of b.declaring)) r.modules.now) (sym t_types) ∙ ap (λ z. map (module_of t.declaring.types.table.types z.items) r.modules.now) (sym t_strings)
              ∙ ap (map (module_of t.declaring.types.table.types (strings_of t.declaring))) modules)
              (sym ended.seen)
              ∙ sym (map_more (module_of t.declaring.types.table.types (strings_of t.declaring)) state.known.items end.seen)
              ∙ ap (map (module_of t.declaring.types.table.types (strings_of t.declaring))) (sym known_is);
          known = ended.known;
          program_modules = modules_more texts state.types.table t.declaring.types.table (subst (λ z. Grows state.types.table z.table) (sym t_types) grows) state.modules c.program_modules end.own y.0 h.program_modules
              (subst (λ z. IsModuleOf z t.declaring.types.table end.own y.0) texts_are ended.is_module);
          procedures = ended.procedures;
        }

        -- ---- the whole

        pub checked : (texts_are : r.texts.now ≡ texts) → Grows state.types.table b.declaring.types.table → ((c : SoFar) (m : Making) → Represents r b m → Upright c m → Answers (IsEnded r x.name t) (ending_part r.source.now x m) (Ok end))
            → (c : SoFar) → StandsForModules texts state c → UprightSoFar c → Answers IsKept (new_name r.source.now x c) (Ok tt) → Answers (StandsForModules texts) (with_module r.source.now x c) (Ok now)
        checked texts_are grows ended c h up new =
            as_judged (with_parts r.source.now x c)
            (came (new_name r.source.now x c) new (λ u e kept. as_judged (ap (λ (j : Judged (Unit {0})). (j >> whole r.source.now x c) >>= after r.source.now x c) e)
            (came (declared_part r.source.now x (first_making c)) (declared c (first_making c) (first_represents c h) (first_upright c up)) (λ a is built.
            as_judged (ap (λ (j : Judged (Unit {0} × Making)). (j >>= λ d. ending_part r.source.now x d.1) >>= after r.source.now x c) is)
            (goes_on (ending_part r.source.now x a.1) (after r.source.now x c) (ended c a.1 built.represents (declared_upright r x c (first_making c) a is (first_upright c up))) (λ y k. record {
              by = stands_behind texts_are grows c h a is built.represents y k;
            }))))))

      -- a part that follows was refused
      pub not_ended : {t : Building} {e : CheckFault} → ((c : SoFar) (m : Making) → Represents r b m → Upright c m → Answers (IsEnded r x.name t) (ending_part r.source.now x m) (Err e))
          → (c : SoFar) → StandsForModules texts state c → UprightSoFar c → Answers IsKept (new_name r.source.now x c) (Ok tt) → Answers (StandsForModules texts) (with_module r.source.now x c) (Err e)
      not_ended ended c h up new =
          as_judged (with_parts r.source.now x c)
          (came (new_name r.source.now x c) new (λ u e kept. as_judged (ap (λ (j : Judged (Unit {0})). (j >> whole r.source.now x c) >>= after r.source.now x c) e)
          (came (declared_part r.source.now x (first_making c)) (declared c (first_making c) (first_represents c h) (first_upright c up)) (λ a is built.
          as_judged (ap (λ (j : Judged (Unit {0} × Making)). (j >>= λ d. ending_part r.source.now x d.1) >>= after r.source.now x c) is)
          (stop (ending_part r.source.now x a.1) (after r.source.now x c) (ended c a.1 built.represents (declared_upright r x c (first_making c) a is (first_upright c up))))))))

    pub not_declared : (x : S.Module) {b : Building} {e : CheckFault} → BuildsUpright r first_building b (declared_part r.source.now x) (Err e)
        → (c : SoFar) → StandsForModules texts state c → UprightSoFar c → Answers IsKept (new_name r.source.now x c) (Ok tt) → Answers (StandsForModules texts) (with_module r.source.now x c) (Err e)
    not_declared x declared c h up new =
        as_judged (with_parts r.source.now x c)
        (came (new_name r.source.now x c) new (λ u e kept. as_judged (ap (λ (j : Judged (Unit {0})). (j >> whole r.source.now x c) >>= after r.source.now x c) e)
        (stop {R = Stops r.source.now x c} (whole r.source.now x c) (after r.source.now x c)
        (stop {S = Stops r.source.now x c} (declared_part r.source.now x (first_making c)) _ (declared c (first_making c) (first_represents c h) (first_upright c up))))))
