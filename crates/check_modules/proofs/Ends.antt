-- A module's end: what the program has of it, and what later modules see.
use Rattle.std.proofs.Common.{◌≡◌, ℕ, List, [], ◌∷◌, ◌++◌, map, Option, Some, None, Ok, Err, refl, sym, ap, ap₂, ◌∙◌, subst}
use Rattle.std.specs.Prelude.{slice_set}
use Rattle.ob_types.proofs.Tests.{none_some, some_same}
use Rattle.ob_types.specs.Table.{Table}
use Rattle.ob_types.specs.declared.program.Module.{Module}
use Rattle.ob_types.specs.declared.program.Procedure.{Procedure}
use Rattle.ob_syntax.specs.Syntax as S
use Rattle.ob_judge.specs.Image as I
use Rattle.ob_judge.specs.Judged.{Judged, Keeps, ◌>>=◌}
use Rattle.ob_judge.specs.Scopes.{Object as JudgedObject, AConstant, AType, AVariable, AProcedure, AStandard, AModule, Entry, World, spelled}
use Rattle.ob_judge.specs.Scopes.{KnownModule as KnownModuleOf}
use Rattle.ob_judge.specs.Standards.{predeclared}
use Rattle.ob_judge.specs.Making.{Making, last_names, new_procedure, set_procedure}
use Rattle.ob_judge.specs.Modules.{offered, offered_by}
use Rattle.check_types.specs.steps.Answers.{Answers}
use Rattle.check_types.specs.declared.steps.fault.CheckFault.{CheckFault}
use Rattle.check_types.proofs.steps.Answering.{goes_on, stop}
use Rattle.check_types.specs.declared.table.TypeTable.{TypeTable}
use Rattle.check_types.specs.TypeMeaning.{type_shape}
use Rattle.check_types.specs.Known.{known_of}
use Rattle.check_types.specs.declared.names.levels.Level.{Level}
use Rattle.check_types.specs.declared.names.scope.KnownModule.{KnownModule}
use Rattle.check_types.specs.names.Meaning.{names_of, module_of}
use Rattle.table_builder.specs.Growing.{Grows}
use Rattle.check_making.specs.declared.making.Declaring.{Declaring}
use Rattle.check_making.specs.declared.making.Surroundings.{Surroundings}
use Rattle.check_making.specs.Staying.{LevelsStay, ModuleStays, HasType, NamesHaveTypes, AllHaveTypes}
use Rattle.check_making.specs.Making.{table_of, strings_of, levels_of, offered_of, IsSettled}
use Rattle.check_modules.specs.importing.Ends.{seen}
use Rattle.check_making.specs.declared.scopes.building.Building.{Building}
use Rattle.check_making.specs.scopes.Building.{StandsFor, TheyStandFor, Represents}
use Rattle.check_making.specs.scopes.Built.{BuiltAs, Builds, BuildsAs, IsNumber}
use Rattle.check_modules.specs.declared.ending.JudgedModule.{JudgedModule}
use Rattle.check_modules.specs.programs.Modules.{IsModuleOf}
use Rattle.check_modules.specs.Parts.{numbered_part, module_made, ending_part, body_part, completed_module}
use Rattle.check_modules.specs.Ended.{IsEnded, SeenStays}

-- ---- a body takes its number

abbrev then_set : I.Procedure → ℕ × Making → Judged (ℕ × Making)
then_set j a = set_procedure a.0 j a.1 >>= λ b. Keeps (a.0, b.1)

pub body_numbered : (r : Surroundings) (s t u : Building) (f : ℕ) (q : Procedure) (j : I.Procedure) → BuildsAs IsNumber r s t new_procedure (Ok f) → Builds r t u (set_procedure f j) (Ok tt)
    → BuildsAs IsNumber r s u (numbered_part r.source.now j) (Ok f)
body_numbered r s t u f q j new set m h =
    goes_on (new_procedure m) (then_set j) (new m h) (λ a b. record {
      by = record {
        value = b.value;
        represents = subst (λ n. Represents r u (record (a.1) { procedures = slice_set a.1.procedures n j })) b.value ((set a.1 b.represents).by).represents;
      };
    })

pub none_numbered : (r : Surroundings) (s t u : Building) (e : CheckFault) (j : I.Procedure) → BuildsAs IsNumber r s t new_procedure (Err e) → BuildsAs IsNumber r s u (numbered_part r.source.now j) (Err e)
none_numbered r s t u e j new m h = stop (new_procedure m) (then_set j) (new m h)

-- ---- what later modules see

names_more : (t : TypeTable) (strings : List (List ℕ)) (ls : List Level) → LevelsStay t strings ls → (u : TypeTable) (more : List (List ℕ)) → Grows t u → map (names_of u.types (strings ++ more)) ls ≡ map (names_of t.types strings) ls
names_more t strings [] h u more g = refl
names_more t strings (l ∷ ls) h u more g = ap₂ (λ (a : List ℕ → Option Entry) (as' : List (List ℕ → Option Entry)). a ∷ as') ((h.0).names u more g) (names_more t strings ls h.1 u more g)

last_has : (t : Table) (ls : List (List ℕ → Option Entry)) → AllHaveTypes t ls → (q : List ℕ) (x : Entry) → last_names ls q ≡ Some x → HasType t x.object
last_has t [] h q x is = none_some x is
last_has t (l ∷ []) h q x is = (h.0).each q x is
last_has t (l ∷ k ∷ ls) h q x is = last_has t (k ∷ ls) h.1 q x is

offered_has : (t : Table) (ls : List (List ℕ → Option Entry)) → AllHaveTypes t ls → NamesHaveTypes t (offered_by ls)
offered_has t ls h = record { each = λ q x is. by q x (last_names ls q) refl is }
  where
    of_object : (x e : Entry) (o : JudgedObject) → (elim o as (λ _. Option Entry) [ AModule m ↦ None | other ↦ Some e ]) ≡ Some x → (Some e ≡ Some x → HasType t x.object) → HasType t x.object
    of_object x e (AModule m) i f = none_some x i
    of_object x e (AConstant c) i f = f i
    of_object x e (AType s) i f = f i
    of_object x e (AVariable v) i f = f i
    of_object x e (AProcedure n s l) i f = f i
    of_object x e (AStandard s) i f = f i

    by : (q : List ℕ) (x : Entry) (o : Option Entry) → last_names ls q ≡ o → offered o ≡ Some x → HasType t x.object
    by q x None e i = none_some x i
    by q x (Some y) e i = of_object x y y.object i (λ j. subst (λ z. HasType t z.object) (some_same y x j) (last_has t ls h q y e))

module _ (r : Surroundings) (s : Declaring) (ok : IsSettled r s) (name : ℕ) (k : KnownModule) (seen_is : (t : Table) (strings : List (List ℕ)) → module_of t strings k ≡ seen r.source.now name t strings s.levels.items) where
  seen_stays : ModuleStays s.types.table (strings_of s) k
  seen_stays = record {
    names = λ u more g. seen_is u.types (strings_of s ++ more)
        ∙ ap (λ ls. record { name = spelled r.source.now name; names = offered_by (predeclared ∷ ls) }) (names_more s.types.table (strings_of s) s.levels.items ok.levels u more g)
        ∙ sym (seen_is (table_of s) (strings_of s));
  }

  seen_typed : NamesHaveTypes (table_of s) (module_of (table_of s) (strings_of s) k).names
  seen_typed = subst (λ (z : KnownModuleOf). NamesHaveTypes (table_of s) z.names) (sym (seen_is (table_of s) (strings_of s))) (offered_has (table_of s) (levels_of s) ok.types)

  pub seen_on : (t : Building) (own : Module) → t.declaring.types ≡ s.types → t.declaring.strings ≡ s.strings → SeenStays t (record { own = own; seen = k })
  seen_on t own types strings = record {
    names = subst (λ z. ModuleStays z.table t.declaring.strings.items k) (sym types) (subst (λ z. ModuleStays s.types.table z.items k) (sym strings) seen_stays);
    types = subst (λ z. NamesHaveTypes z.table.types (module_of z.table.types t.declaring.strings.items k).names) (sym types) (subst (λ z. NamesHaveTypes (table_of s) (module_of (table_of s) z.items k).names) (sym strings) seen_typed);
  }

-- ---- the whole

module _ (r : Surroundings) (s : Building) (x : S.Module) (own : Module) (k : KnownModule)
    (seen_is : (t : Table) (strings : List (List ℕ)) → module_of t strings k ≡ seen r.source.now x.name t strings s.declaring.levels.items) (t : Declaring)
    (types : t.types ≡ s.declaring.types) (strings : t.strings ≡ s.declaring.strings) (imports_in : t.imports_in ≡ s.declaring.imports_in) where
  pub is_ended : (number : ℕ) → IsModuleOf r.texts.now s.declaring.types.table own (record {
    name = spelled r.source.now x.name;
    objects = offered_of (table_of s.declaring) (strings_of s.declaring) s.declaring.objects.items;
    variables = map (type_shape (table_of s.declaring)) s.declaring.variables.items;
    body = number;
  }) → (f : ℕ × Making) → number ≡ f.0 → Represents r s f.1 → IsEnded r x.name (record s { declaring = t }) (record { own = own; seen = k }) (module_made r.source.now x f.0 f.1, f.1)
  is_ended number is f number_is h = record {
    imports_in = h.makes.imports_in ∙ sym imports_in;
    known = ap (λ (w : World). w.known) h.makes.world ∙ ap (λ z. known_of z.table) (sym types);
    procedures = subst (λ z. TheyStandFor z.table s.procedures.items f.1.procedures) (sym types) h.procedures;
    is_module = subst (λ z. IsModuleOf r.texts.now z.table own (module_made r.source.now x f.0 f.1)) (sym types)
        (subst (IsModuleOf r.texts.now s.declaring.types.table own)
        (ap (λ os. record { name = spelled r.source.now x.name; objects = os; variables = map (type_shape (table_of s.declaring)) s.declaring.variables.items; body = number }) (sym h.makes.objects)
        ∙ ap (λ vs. record { name = spelled r.source.now x.name; objects = f.1.objects; variables = vs; body = number }) (sym h.makes.variables)
        ∙ ap (λ n. record { name = spelled r.source.now x.name; objects = f.1.objects; variables = f.1.variables; body = n }) number_is) is);
    seen = ap (λ z. module_of z.table.types t.strings.items k) types ∙ ap (λ z. module_of (table_of s.declaring) z.items k) strings ∙ seen_is (table_of s.declaring) (strings_of s.declaring)
        ∙ ap (λ ls. record { name = spelled r.source.now x.name; names = offered_by ls }) (sym (ap (λ (w : World). w.levels) h.makes.world));
  }

module _ (r : Surroundings) (x : S.Module) (m : Making) where
  abbrev Numbers : ℕ → ℕ × Making → Type 0
  Numbers a b = Unit {0}

  pub not_completed : {B : Type 0} {R : B → I.Module × Making → Type 0} {T : Procedure → I.Procedure → Type 0} {e : CheckFault} → Answers T (completed_module r.source.now x m) (Err e) → Answers R (ending_part r.source.now x m) (Err e)
  not_completed h = stop {R = Numbers} (body_part r.source.now x m) _ (stop {S = Numbers} (completed_module r.source.now x m) _ h)

  pub not_numbered : {B : Type 0} {R : B → I.Module × Making → Type 0} {t : TypeTable} {q : Procedure} {u : Building} {e : CheckFault} → Answers (StandsFor t) (completed_module r.source.now x m) (Ok q)
      → ((j : I.Procedure) → StandsFor t q j → Answers (BuiltAs IsNumber r u) (numbered_part r.source.now j m) (Err e)) → Answers R (ending_part r.source.now x m) (Err e)
  not_numbered h k = stop {R = Numbers} (body_part r.source.now x m) _ (goes_on {S = Numbers} (completed_module r.source.now x m) _ h (λ j stands. record { by = (k j stands).by }))

  pub ends : {R : JudgedModule → I.Module × Making → Type 0} {t : TypeTable} {q : Procedure} {u : Building} {f : ℕ} {e : JudgedModule} → Answers (StandsFor t) (completed_module r.source.now x m) (Ok q)
      → ((j : I.Procedure) → StandsFor t q j → Answers (BuiltAs IsNumber r u) (numbered_part r.source.now j m) (Ok f))
      → ((g : ℕ × Making) → BuiltAs IsNumber r u f g → R e (module_made r.source.now x g.0 g.1, g.1)) → Answers R (ending_part r.source.now x m) (Ok e)
  ends {u = u} h k made = goes_on {R = BuiltAs IsNumber r u} (body_part r.source.now x m) _ (goes_on (completed_module r.source.now x m) _ h k) (λ g b. record { by = made g b })
