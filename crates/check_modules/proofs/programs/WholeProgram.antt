-- The finished program is the judgement's, as far as a checked tree tells.
use Rattle.std.proofs.Common.{◌≡◌, ℕ, zero, suc, ◌+◌, ◌-◌, ◌<◌, List, [], ◌∷◌, ◌++◌, map, length, Bool, Option, Some, None, refl, sym, ap, ap₂, ◌∙◌, subst, arith}
use Rattle.std.specs.Prelude.{slice_get}
use Rattle.std.specs.List.{range_with_len}
use Rattle.ob_types.specs.declared.types.Extent.{Extent}
use Rattle.ob_types.proofs.Tests.{none_some, some_same}
use Rattle.ob_types.specs.declared.types.Field.{Field}
use Rattle.ob_types.specs.declared.types.RecordType.{RecordType}
use Rattle.ob_types.specs.declared.program.Module.{Module}
use Rattle.ob_types.specs.declared.program.Procedure.{Procedure}
use Rattle.ob_types.specs.declared.program.Program.{Program}
use Rattle.ob_judge.specs.Shapes.{Added as AddedOf, Known}
use Rattle.ob_judge.specs.Image as I
use Rattle.ob_judge.specs.Modules.{SoFar, base_in, record_form, program_of}
use Rattle.judged_tree.specs.TypeShapes.{shape_of, pointer_bases}
use Rattle.judged_tree.specs.Plain.{plain_field, plain_record, plain_module, plain_procedure, plain_program}
use Rattle.judged_tree.specs.Outline.{outlined_procedure, outlined_program, record_or_zero}
use Rattle.judged_programs.specs.ProgramOf.{HasResults}
use Rattle.check_types.specs.declared.types.TypeRef.{TypeRef}
use Rattle.check_types.specs.declared.types.TypeRef.TheVariants as TheType
use Rattle.check_types.specs.declared.table.Added.{Added}
use Rattle.check_types.specs.declared.table.Layout.{Layout}
use Rattle.check_types.specs.declared.table.TypeTable.{TypeTable}
use Rattle.check_types.specs.Known.{added_of, layout_of}
use Rattle.check_types.specs.TypeMeaning.{kind_of_type}
use Rattle.table_builder.specs.Entries.{pointers_of}
use Rattle.table_builder.specs.Contents.{AreFields, AreRecordTypes}
use Rattle.table_builder.specs.Builder.{IsBuilt}
use Rattle.table_builder.proofs.Meaning.{long}
use Rattle.check_making.specs.scopes.Building.{TheyStandFor}
use Rattle.check_making.specs.scopes.InTurn.{UseInTurn, AllUseInTurn}
use Rattle.check_making.proofs.scopes.Procedures.{number_means}
use Rattle.judged_outlines.specs.ends.Ends.{AllPoint}
use Rattle.check_modules.specs.declared.programs.modules.Modules.{Modules}
use Rattle.check_modules.specs.programs.Modules.{AreModulesOf, StandsForModules}

-- ---- record types

module _ (t : TypeTable) where
  fields_same : (fs : List Field) (as' : List Added) → AreFields t.entries.items fs as' → map (plain_field t.types) fs ≡ map (added_of t.types) as'
  fields_same [] [] h = refl
  fields_same (f ∷ fs) (a ∷ as') h =
      ap₂ {C = List AddedOf} (λ x xs. x ∷ xs)
      (ap (λ n. record { name = n; exported = f.exported; shape = shape_of t.types f.type_number }) (h.0).name ∙ ap (λ b. record { name = a.name; exported = b; shape = shape_of t.types f.type_number }) (h.0).exported
      ∙ ap (λ s. record { name = a.name; exported = a.exported; shape = s }) (number_means t f.type_number a.of (h.0).type_number))
      (fields_same fs as' h.1)
  fields_same [] (a ∷ as') h = absurd h
  fields_same (f ∷ fs) [] h = absurd h

  abbrev by_parts : ℕ → Option ℕ → ℕ → List AddedOf → ℕ → Extent → I.RecordType
  by_parts m b l fs n e = record { module_number = m; base = b; level = l; fields = fs; cells = n; extent = e }

  records_same : (xs : List RecordType) (ls : List Layout) → AreRecordTypes t.entries.items xs ls → map (plain_record t.types) xs ≡ map record_form (map (layout_of t.types) ls)
  records_same [] [] h = refl
  records_same (x ∷ xs) (l ∷ ls) h =
      let r = h.0 in
      ap₂ {C = List I.RecordType} (λ y ys. y ∷ ys)
      (ap (λ m. by_parts m x.base x.level (map (plain_field t.types) x.fields) x.cells x.extent) r.unit
      ∙ ap (λ b. by_parts l.module_number b x.level (map (plain_field t.types) x.fields) x.cells x.extent) r.base
      ∙ ap (λ k. by_parts l.module_number (base_in l.line.items) k (map (plain_field t.types) x.fields) x.cells x.extent) r.level
      ∙ ap (λ fs. by_parts l.module_number (base_in l.line.items) (length l.line.items - 1) fs x.cells x.extent) (fields_same x.fields l.added.items r.fields)
      ∙ ap (λ n. by_parts l.module_number (base_in l.line.items) (length l.line.items - 1) (map (added_of t.types) l.added.items) n x.extent) r.cells
      ∙ ap (λ e. by_parts l.module_number (base_in l.line.items) (length l.line.items - 1) (map (added_of t.types) l.added.items) l.cells e) r.extent)
      (records_same xs ls h.2)
  records_same [] (l ∷ ls) h = absurd h
  records_same (x ∷ xs) [] h = absurd h

-- ---- pointer types

abbrev base_at : List (Option ℕ) → ℕ → Option ℕ
base_at bs p = Some (record_or_zero (slice_get bs p))

bases_by : (bs : List (Option ℕ)) (es : List TypeRef) → pointer_bases (map (kind_of_type bs) es) ≡ map (base_at bs) (pointers_of es)
bases_by bs [] = refl
bases_by bs (TheType.Pointer p ∷ es) = ap (λ xs. base_at bs p ∷ xs) (bases_by bs es)
bases_by bs (TheType.Int ∷ es) = bases_by bs es
bases_by bs (e ∷ es) = bases_by bs es

pointing : (o : Option ℕ) → (o ≡ None → ⊥) → Some (record_or_zero (Some o)) ≡ o
pointing None h = absurd (h refl)
pointing (Some r) h = refl

-- each is what it points to
bases_from : (bs front rest : List (Option ℕ)) (n : ℕ) → n ≡ length front → bs ≡ front ++ rest → AllPoint bs → map (base_at bs) (range_with_len n (length rest)) ≡ rest
bases_from bs front [] n e is all = refl
bases_from bs front (x ∷ rest) n e is all =
    ap₂ {C = List (Option ℕ)} (λ y ys. y ∷ ys)
    (ap (λ o. Some (record_or_zero o)) here ∙ pointing x (λ none. all.each n (here ∙ ap (λ o. Some o) none)))
    (bases_from bs (front ++ x ∷ []) rest (n + 1) (let l = longer front in omega (arith, l, e)) (is ∙ sym (onto front)) all)
  where
    at_front : (front : List (Option ℕ)) → slice_get (front ++ x ∷ rest) (length front) ≡ Some x
    at_front [] = refl
    at_front (y ∷ front) = at_front front

    here : slice_get bs n ≡ Some x
    here = ap (λ ys. slice_get ys n) is ∙ ap (slice_get (front ++ x ∷ rest)) e ∙ at_front front

    longer : (front : List (Option ℕ)) → length (front ++ x ∷ []) ≡ suc (length front)
    longer [] = refl
    longer (y ∷ front) = ap suc (longer front)

    onto : (front : List (Option ℕ)) → (front ++ x ∷ []) ++ rest ≡ front ++ x ∷ rest
    onto [] = refl
    onto (y ∷ front) = ap (λ ys. y ∷ ys) (onto front)

bases_same : (bs : List (Option ℕ)) (es : List TypeRef) → pointers_of es ≡ range_with_len 0 (length (pointers_of es)) → length bs ≡ length (pointers_of es) → AllPoint bs → pointer_bases (map (kind_of_type bs) es) ≡ bs
bases_same bs es range many all = bases_by bs es ∙ ap (map (base_at bs)) (range ∙ ap (range_with_len 0) (sym many)) ∙ bases_from bs [] bs 0 refl refl all

-- ---- modules and procedures

modules_same : (texts : List (List ℕ)) (t : TypeTable) (ms : List Module) (js : List I.Module) → AreModulesOf texts t ms js → map (plain_module t.types texts) ms ≡ js
modules_same texts t [] [] h = refl
modules_same texts t (m ∷ ms) (j ∷ js) h = ap₂ {C = List I.Module} (λ x xs. x ∷ xs) (h.0).image (modules_same texts t ms js h.1)
modules_same texts t [] (j ∷ js) h = absurd h
modules_same texts t (m ∷ ms) [] h = absurd h

procedures_same : (t : TypeTable) (qs : List Procedure) (js : List I.Procedure) → TheyStandFor t qs js → map (plain_procedure t.types) qs ≡ map (outlined_procedure t.bases.items) js
procedures_same t [] [] h = refl
procedures_same t (q ∷ qs) (j ∷ js) h =
    ap₂ {C = List I.Procedure} (λ x xs. x ∷ xs) ((h.0).image ∙ sym ((h.0).same t.bases.items (h.0).begins)) (procedures_same t qs js h.1)
procedures_same t [] (j ∷ js) h = absurd h
procedures_same t (q ∷ qs) [] h = absurd h

results_there : (t : TypeTable) (qs : List Procedure) (js : List I.Procedure) → TheyStandFor t qs js → (f : ℕ) (q : Procedure) → slice_get qs f ≡ Some q → q.result < length t.entries.items
results_there t [] [] h f q at = none_some q at
results_there t (p ∷ qs) (j ∷ js) h zero q at = subst (λ (x : Procedure). x.result < length t.entries.items) (some_same p q at) (h.0).result_there
results_there t (p ∷ qs) (j ∷ js) h (suc f) q at = results_there t qs js h.1 f q at
results_there t [] (j ∷ js) h f q at = absurd h
results_there t (p ∷ qs) [] h f q at = absurd h

all_in_turn : (t : TypeTable) (qs : List Procedure) (js : List I.Procedure) → TheyStandFor t qs js → (f : ℕ) (q : Procedure) → slice_get qs f ≡ Some q → UseInTurn q.texts q.body q.answer
all_in_turn t [] [] h f q at = none_some q at
all_in_turn t (p ∷ qs) (j ∷ js) h zero q at = subst (λ (x : Procedure). UseInTurn x.texts x.body x.answer) (some_same p q at) (h.0).in_turn
all_in_turn t (p ∷ qs) (j ∷ js) h (suc f) q at = all_in_turn t qs js h.1 f q at
all_in_turn t [] (j ∷ js) h f q at = absurd h
all_in_turn t (p ∷ qs) [] h f q at = absurd h

-- ---- the whole

abbrev image_by : List I.RecordType → List (Option ℕ) → List I.Module → List I.Procedure → Bool → I.Program
image_by rs ps ms qs b = record { records = rs; pointers = ps; modules = ms; procedures = qs; imports_in = b }

module _ (texts : List (List ℕ)) (s : Modules) (built : IsBuilt s.types) (c : SoFar) (stands : StandsForModules texts s c) where
  abbrev t : TypeTable
  t = s.types.table

  records_are : map (plain_record t.types) t.types.records ≡ map record_form c.known.records
  records_are = records_same t t.types.records t.layouts.items built.layouts ∙ ap (λ (k : Known). map record_form k.records) (sym stands.known)

  bases_are : t.bases.items ≡ c.known.bases
  bases_are = ap (λ (k : Known). k.bases) (sym stands.known)

  pointers_are : AllPoint c.known.bases → pointer_bases t.types.kinds ≡ c.known.bases
  pointers_are all =
      ap pointer_bases built.sound.kinds ∙ bases_same t.bases.items t.entries.items built.sound.pointers built.bases (subst AllPoint (sym bases_are) all) ∙ bases_are

  procedures_are : map (plain_procedure t.types) s.procedures.items ≡ map (outlined_procedure c.known.bases) c.procedures
  procedures_are = procedures_same t s.procedures.items c.procedures stands.procedures ∙ ap (λ bs. map (outlined_procedure bs) c.procedures) bases_are

  pub program_is : AllPoint c.known.bases → (p : Program) → p ≡ record { types = t.types; modules = s.modules; procedures = s.procedures.items; imports_in = s.imports_in } → plain_program texts p ≡ outlined_program (program_of c)
  program_is all p is =
      ap (plain_program texts) is
      ∙ ap (λ rs. image_by rs (pointer_bases t.types.kinds) (map (plain_module t.types texts) s.modules) (map (plain_procedure t.types) s.procedures.items) s.imports_in) records_are
      ∙ ap (λ ps. image_by (map record_form c.known.records) ps (map (plain_module t.types texts) s.modules) (map (plain_procedure t.types) s.procedures.items) s.imports_in) (pointers_are all)
      ∙ ap (λ ms. image_by (map record_form c.known.records) c.known.bases ms (map (plain_procedure t.types) s.procedures.items) s.imports_in) (modules_same texts t s.modules c.program_modules stands.program_modules)
      ∙ ap (λ qs. image_by (map record_form c.known.records) c.known.bases c.program_modules qs s.imports_in) procedures_are
      ∙ ap (λ b. image_by (map record_form c.known.records) c.known.bases c.program_modules (map (outlined_procedure c.known.bases) c.procedures) b) (sym stands.imports_in)

  pub results_are : (p : Program) → p ≡ record { types = t.types; modules = s.modules; procedures = s.procedures.items; imports_in = s.imports_in } → HasResults p
  results_are p is = subst HasResults (sym is) (record {
    each = λ f q at. let l = results_there t s.procedures.items c.procedures stands.procedures f q at in let m = long t.types t.entries.items t.bases.items built.sound in omega (arith, l, m);
  })

  pub all_use_in_turn : (procedures : List Procedure) → procedures ≡ s.procedures.items → AllUseInTurn procedures
  all_use_in_turn procedures is = subst AllUseInTurn (sym is) (record { each = all_in_turn t s.procedures.items c.procedures stands.procedures })
