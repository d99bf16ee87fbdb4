-- A module's imports and declarations.
use Rattle.std.proofs.Common.{◌≡◌, ℕ, List, [], ◌∷◌, ◌++◌, Bool, Result, Ok, Err, refl, sym, ◌∙◌, subst}
use Rattle.std.specs.Prelude.{OnOk}
use Rattle.ob_syntax.specs.Syntax as S
use Rattle.ob_judge.specs.Image as I
use Rattle.ob_judge.specs.Judged.{Judged, Keeps, Breaks, ◌>>=◌}
use Rattle.ob_judge.specs.Making.{Making, declared_as, entity_of}
use Rattle.ob_judge.specs.Modules.{SoFar, import_list, import_part, first_making}
use Rattle.ob_judge.specs.Declarations.{each, decls_part}
use Rattle.judged_well.specs.Standing.{IsRead}
use Rattle.judged_outlines.specs.Upright.{Upright}
use Rattle.judged_outlines.proofs.Uprights.{imports_upright, decls_upright}
use Rattle.legal_tables.specs.Promised.{HasLegalTypes}
use Rattle.check_types.specs.steps.Answers.{Answers}
use Rattle.check_types.specs.declared.steps.fault.CheckFault.{CheckFault}
use Rattle.check_types.proofs.steps.Answering.{stop}
use Rattle.check_types.specs.TypeMeaning.{type_shape}
use Rattle.check_types.specs.declared.names.scope.Named.{Named}
use Rattle.check_types.specs.declared.names.scope.Named.TheVariants as TheNamed
use Rattle.check_types.specs.declared.names.scope.Constant.TheVariants as TheConstant
use Rattle.check_types.specs.names.Meaning.{object_of}
use Rattle.table_builder.specs.declared.builder.TableBuilder.{TableBuilder}
use Rattle.table_builder.specs.Builder.{IsBuilt}
use Rattle.table_builder.specs.Contents.{contents_of}
use Rattle.table_builder.proofs.ByShape.{entry_by_shape}
use Rattle.judged_modules.proofs.steps.FrameTypes.{m_decls}
use Rattle.check_making.specs.declared.making.Declaring.{Declaring}
use Rattle.check_making.specs.declared.making.Offered.{Offered}
use Rattle.check_making.specs.declared.making.Surroundings.{Surroundings}
use Rattle.check_making.specs.Staying.{HasType}
use Rattle.check_making.specs.Making.{offered_of, OfferedStay, IsSettled}
use Rattle.check_making.specs.Parts.{Judges}
use Rattle.check_modules.specs.importing.Importing.{imports_part}
use Rattle.check_making.specs.declared.scopes.building.Building.{Building}
use Rattle.check_making.specs.scopes.Building.{Represents}
use Rattle.check_making.specs.scopes.Built.{Built}
use Rattle.check_making.proofs.scopes.Together.{built_at}
use Rattle.check_procedures.specs.UnderWay.{IsUnderWay, BuildsUpright}
use Rattle.check_procedures.proofs.Giving.{then_so, given_so}
use Rattle.judged_outlines.specs.ends.Ends.{OffersInRange, EndsWell}
use Rattle.judged_outlines.proofs.ends.Modules.{constants_offered}
use Rattle.check_modules.specs.programs.Entities.{IsTold, AreTold}
use Rattle.check_modules.specs.Parts.{declared_part}
use Rattle.check_modules.proofs.Imports.{h_imports}
use Rattle.check_making.proofs.headings.Heads.{by_given as came}

module _ (r : Surroundings) (x : S.Module) (s : Building) (t : Declaring) where
  abbrev imported_to : Building
  imported_to = record s { declaring = t }

  -- the answer of imports, on a program that is being built
  imports_built : (types : t.types ≡ s.declaring.types) (result : Result (Unit {0}) CheckFault) → Judges r s.declaring t (imports_part r.source.now x.imports) result → (m : Making) → Represents r s m
      → Answers (Built r imported_to) (each (import_part r.source.now) (import_list x.imports) m) result
  imports_built types result judged m h = built_at r s m h t (each (import_part r.source.now) (import_list x.imports) m) (h_imports r.source.now (import_list x.imports) m) types result (judged m h.makes)

  pub not_imported : {u : Building} {e : CheckFault} → t.types ≡ s.declaring.types → Judges r s.declaring t (imports_part r.source.now x.imports) (Err e) → BuildsUpright r s u (declared_part r.source.now x) (Err e)
  not_imported types judged = λ c m h up. stop _ _ (imports_built types (Err _) judged m h)

  module _ (types : t.types ≡ s.declaring.types) (judged : Judges r s.declaring t (imports_part r.source.now x.imports) (Ok tt)) where
    pub imported_under_way : IsUnderWay r s → IsSettled r t → IsUnderWay r imported_to
    imported_under_way old ok = came _ (imports_built types (Ok tt) judged old.making old.represents) (λ a e b. record {
      settled = ok;
      so_far = old.so_far;
      making = a.1;
      represents = b.represents;
      upright = imports_upright old.so_far r.source.now (import_list x.imports) old.making a.1 e old.upright;
    })

    pub declared_on : {u : Building} {result : Result (Unit {0}) CheckFault} → BuildsUpright r imported_to u (decls_part r.source.now x.decls) result → BuildsUpright r s u (declared_part r.source.now x) result
    declared_on h = λ c m represents up. then_so _ _ (imports_built types (Ok tt) judged m represents) (λ a e b.
        h c a.1 b.represents (imports_upright c r.source.now (import_list x.imports) m a.1 e up))

    pub legal_on : (u : Building) → IsUnderWay r s → ((c : SoFar) (m : Making) → Represents r imported_to m → Upright c m → HasLegalTypes t.types.table → HasLegalTypes u.declaring.types.table)
        → HasLegalTypes s.declaring.types.table → HasLegalTypes u.declaring.types.table
    legal_on u old h legal = came _ (imports_built types (Ok tt) judged old.making old.represents) (λ a e b.
        h old.so_far a.1 b.represents (imports_upright old.so_far r.source.now (import_list x.imports) old.making a.1 e old.upright) (subst (λ z. HasLegalTypes z.table) (sym types) legal))

    pub legal_if : (u : Building) (result : Result (Unit {0}) CheckFault) → IsUnderWay r s
        → ((c : SoFar) (m : Making) → Represents r imported_to m → Upright c m → OnOk result (HasLegalTypes t.types.table → HasLegalTypes u.declaring.types.table))
        → OnOk result (HasLegalTypes s.declaring.types.table → HasLegalTypes u.declaring.types.table)
    legal_if u (Ok a) old h = legal_on u old h
    legal_if u (Err e) old h = tt

-- ---- what the judgement knows then

-- by its parts
pub by_parts : {P : Type 0} (r : Surroundings) (x : S.Module) (m : Making) (a : Unit {0} × Making) → declared_part r.source.now x m ≡ Keeps a
    → ((b : Making) → each (import_part r.source.now) (import_list x.imports) m ≡ Keeps (tt, b) → decls_part r.source.now x.decls b ≡ Keeps (tt, a.1) → P) → P
by_parts {P = P} r x m a is f = by (each (import_part r.source.now) (import_list x.imports) m) refl is
  where
    by : (j : Judged (Unit {0} × Making)) → each (import_part r.source.now) (import_list x.imports) m ≡ j → (j >>= λ b. decls_part r.source.now x.decls b.1) ≡ Keeps a → P
    by (Keeps b) e i = f b.1 e i
    by (Breaks n at) e i = absurd (let z = i in cc)

pub same_modules : (r : Surroundings) (x : S.Module) (m : Making) (a : Unit {0} × Making) → declared_part r.source.now x m ≡ Keeps a → a.1.world.modules ≡ m.world.modules
same_modules r x m a is = by_parts r x m a is (λ b e d. given_so (tt, a.1) d (m_decls r.source.now x.decls b) ∙ (given_so (tt, b) e (h_imports r.source.now (import_list x.imports) m)).modules)

pub declared_upright : (r : Surroundings) (x : S.Module) (c : SoFar) (m : Making) (a : Unit {0} × Making) → declared_part r.source.now x m ≡ Keeps a → Upright c m → Upright c a.1
declared_upright r x c m a is up = by_parts r x m a is (λ b e d. decls_upright c r.source.now x.decls b a.1 d (imports_upright c r.source.now (import_list x.imports) m b e up))

pub declared_in_range : (r : Surroundings) (x : S.Module) (c : SoFar) (a : Unit {0} × Making) → IsRead r.source.now → EndsWell c → declared_part r.source.now x (first_making c) ≡ Keeps a → OffersInRange a.1.objects
declared_in_range r x c a read ends is = by_parts r x (first_making c) a is (λ b e d. constants_offered r.source.now read x c ends b a.1 e d)

-- ---- what it offers can be told by numbers

module _ (b : TableBuilder) (built : IsBuilt b) (strings : List (List ℕ)) where
  abbrev of_named : List ℕ → Bool → Named → List I.Declared
  of_named name exported n = declared_as name exported (entity_of (object_of b.table.types strings n))

  one : (name : List ℕ) (exported : Bool) (n : Named) → HasType b.table.types (object_of b.table.types strings n) → (rest : List I.Declared) → OffersInRange (of_named name exported n ++ rest) → IsTold b.table.entries.items n × OffersInRange rest
  one name exported (TheNamed.Constant (TheConstant.Bits c n)) h rest k = k
  one name exported (TheNamed.Constant (TheConstant.Chars n)) h rest k = (tt, k.1)
  one name exported (TheNamed.Type of) h rest k = (entry_by_shape (contents_of b.table b.numbers b.elements.items) built of (type_shape b.table.types of) h.0 refl, k.1)
  one name exported (TheNamed.Variable v) h rest k = (tt, k.1)
  one name exported (TheNamed.Procedure n g l) h rest k = (tt, k.1)
  one name exported (TheNamed.Standard n) h rest k = (tt, k)
  one name exported (TheNamed.Module n) h rest k = (tt, k)

  pub told : (xs : List Offered) → OfferedStay b.table strings xs → OffersInRange (offered_of b.table.types strings xs) → AreTold b.table.entries.items xs
  told [] h k = tt
  told (x ∷ xs) h k =
      let y = one x.name x.declared.exported x.declared.named h.1 (offered_of b.table.types strings xs) k in
      (y.0, told xs h.2 y.1)
