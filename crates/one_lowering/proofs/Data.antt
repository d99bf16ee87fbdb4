-- Where a program's data stand is told by its form.
use Rattle.std.proofs.Common.{◌≡◌, ℕ, zero, suc, ◌+◌, ◌*◌, List, [], ◌∷◌, ◌++◌, map, take, length, sum, true, Option, Some, None, refl, sym, ap, ap₂, subst, ◌∙◌, slice_get, arith}
use Rattle.std.specs.Prelude.{slice_index, slice_index_or, option_map, sum_by, flat_map, filter}
use Rattle.std.proofs.lemmas.List.{length-map}
use Rattle.std.proofs.lemmas.List.Sums.{sum_by-cons}
use Rattle.ob_types.specs.Forms.{all}
use Rattle.ob_types.specs.Layout.{record_of, types_of, cells, cells_of_all, record_cells, no_record_type}
use Rattle.ob_types.specs.Trees.{FieldRow, round_up, tree_extent, row_extent, with_part, base_row, with_fields, data_tree, record_row, record_extent, fields_before}
use Rattle.ob_types.specs.Trees.{Field as FieldBehind}
use Rattle.ob_types.specs.declared.types.Extent.{Extent}
use Rattle.ob_types.specs.Meaning.{procedure_of, no_procedure, globals_of, locals_of, texts_of, text_number, is_value}
use Rattle.ob_types.specs.WellFormed.{well_formed}
use Rattle.ob_types.specs.declared.types.Field.{Field}
use Rattle.ob_types.specs.declared.types.Formal.{Formal}
use Rattle.ob_types.specs.declared.program.Module.{Module}
use Rattle.ob_types.specs.declared.program.Procedure.{Procedure}
use Rattle.ob_types.specs.declared.program.Program.{Program}
use Rattle.ob_types.proofs.Tests.{none_some, some_same, and_of, and_from, all_at}
use Rattle.ssa_lowered.specs.Data
use Rattle.ssa_lowered.specs.Data.{layout, rounded, globals_room, global_at, descriptor_at, text_at}
use Rattle.ob_judge.specs.Shapes.{Shape, Nothing}
use Rattle.ob_judge.specs.Image as I
use Rattle.judged_tree.specs.TypeShapes.{shape_of}
use Rattle.judged_tree.specs.Plain.{plain_record, plain_field, plain_formal, plain_module, plain_procedure, plain_program}
use Rattle.one_lowering.specs.Forms.{is_closed, HasClosedTypes, numbered_procedure, numbered}
use Rattle.one_lowering.proofs.Lists.{index_map, get_map, map_map, take_map, flat_of_map, all_index, all_append, map_append, filter_map, all_filter, all_of_map}
use Rattle.one_lowering.proofs.Sizes.{shape_cells, shape_extent}
use Rattle.one_lowering.proofs.Entries.{same_cells, extent_told}
use Rattle.one_lowering.proofs.Parts.{types_are_fine, record_counts, record_takes}
use Rattle.one_lowering.proofs.Sound.{AreClosed}
use Rattle.one_lowering.proofs.Whole.{Facts, facts_of, blank, no_module, string_room, record_at, counted, cells_in, taken, extent_in, size, fields_in, base_extent, with_parts, place, room, rooms, modules_room, variables_in, global_place, all_globals, descriptor_place, strings, string_place, use_place, local_shapes}

-- the number of a list at a place, where there is one
number_at : (ks : List ℕ) (i k : ℕ) → slice_get ks i ≡ Some k → slice_index ks i ≡ k
number_at [] i k at = none_some k at
number_at (j ∷ ks) zero k at = some_same j k at
number_at (j ∷ ks) (suc i) k at = number_at ks i k at

shape_there : (ss : List Shape) (i : ℕ) (s : Shape) → slice_get ss i ≡ Some s → slice_index_or ss i Nothing ≡ s
shape_there [] i s at = none_some s at
shape_there (t ∷ ss) zero s at = some_same t s at
shape_there (t ∷ ss) (suc i) s at = shape_there ss i s at

module _ (p : Program) (well : well_formed p ≡ true) (sources : List (List ℕ)) (closed : HasClosedTypes (plain_program sources (numbered p))) where
  abbrev pub facts : Facts
  facts = facts_of (plain_program sources (numbered p)) (map (λ q. q.texts) p.procedures)

  abbrev shape : ℕ → Shape
  shape k = shape_of p.types k

  -- all of these types are closed
  abbrev pub AllClosed : List ℕ → Type 0
  AllClosed ks = all is_closed (map shape ks) ≡ true

  closed_at : (ks : List ℕ) → AllClosed ks → (i k : ℕ) → slice_get ks i ≡ Some k → is_closed (shape k) ≡ true
  closed_at ks h = all_at (λ k. is_closed (shape k)) ks (sym (all_of_map is_closed shape ks) ∙ h)

  take_closed : (n : ℕ) (ks : List ℕ) → AllClosed ks → AllClosed (take n ks)
  take_closed zero ks h = refl
  take_closed (suc n) [] h = refl
  take_closed (suc n) (k ∷ ks) h =
      let b = and_of (is_closed (shape k)) (all is_closed (map shape ks)) h in
      and_from (is_closed (shape k)) (all is_closed (map shape (take n ks))) b.0 (take_closed n ks b.1)

  -- what is made of types is made of their shapes
  pub of_shapes : (g : ℕ → ℕ) (h : Shape → ℕ) → ((k : ℕ) → is_closed (shape k) ≡ true → g k ≡ h (shape k)) → (ks : List ℕ) → AllClosed ks → map g ks ≡ map h (map shape ks)
  of_shapes g h e [] c = refl
  of_shapes g h e (k ∷ ks) c =
      let b = and_of (is_closed (shape k)) (all is_closed (map shape ks)) c in
      ap₂ (λ x xs. x ∷ xs) (e k b.0) (of_shapes g h e ks b.1)

  -- ---- record types

  record_same : (r : ℕ) → record_at facts r ≡ plain_record p.types (record_of p.types r)
  record_same r = index_map (plain_record p.types) p.types.records r no_record_type

  pub level_same : (r : ℕ) → (record_of p.types r).level ≡ (record_at facts r).level
  level_same r = sym (ap (λ y. y.level) (record_same r))

  pub base_same : (r : ℕ) → (record_of p.types r).base ≡ (record_at facts r).base
  base_same r = sym (ap (λ y. y.base) (record_same r))

  pub counted_same : (r : ℕ) → record_cells p.types r ≡ counted facts r
  counted_same r = record_counts p well r ∙ sym (ap (λ y. y.cells) (record_same r))

  pub cells_same : (k : ℕ) → is_closed (shape k) ≡ true → cells p.types k ≡ cells_in facts (shape k)
  cells_same k h = same_cells p.types (types_are_fine p well) k h ∙ (λ i. shape_cells (λ r. counted_same r i) (shape k))

  pub taken_same : (r : ℕ) → record_extent p.types r ≡ taken facts r
  taken_same r = record_takes p well r ∙ sym (ap (λ y. y.extent) (record_same r))

  extent_same : (k : ℕ) → is_closed (shape k) ≡ true → tree_extent (data_tree p.types k) ≡ extent_in facts (shape k)
  extent_same k h = extent_told p.types (types_are_fine p well) k h ∙ (λ i. shape_extent (λ r. taken_same r i) (shape k))

  pub size_same : (k : ℕ) → is_closed (shape k) ≡ true → (layout p.types).bytes k ≡ size facts (shape k)
  size_same k h = ap (λ x. x.bytes) (extent_same k h)

  pub whole_bytes_same : (r : ℕ) → (layout p.types).record_bytes r ≡ (taken facts r).bytes
  whole_bytes_same r = ap (λ x. x.bytes) (taken_same r)

  fields_closed : (r : ℕ) → AllClosed (types_of (record_of p.types r).fields)
  fields_closed r =
      let fs = (record_of p.types r).fields in
      let own = all_index (λ (y : I.RecordType). all (λ x. is_closed x.shape) y.fields) (plain_program sources (numbered p)).records blank closed.fields refl r in
      let here = subst (λ (y : I.RecordType). all (λ x. is_closed x.shape) y.fields ≡ true) (record_same r) own in
      all_of_map is_closed shape (types_of fs) ∙ all_of_map (λ k. is_closed (shape k)) (λ (x : Field). x.type_number) fs ∙ sym (all_of_map (λ x. is_closed x.shape) (plain_field p.types) fs) ∙ here

  fields_same : (r : ℕ) → map shape (types_of (record_of p.types r).fields) ≡ fields_in facts r
  fields_same r =
      let fs = (record_of p.types r).fields in
      map_map shape (λ (x : Field). x.type_number) fs ∙ sym (map_map (λ x. x.shape) (plain_field p.types) fs) ∙ sym (ap (λ (y : I.RecordType). map (λ f. f.shape) y.fields) (record_same r))

  -- what the base takes, and what it takes with fields behind it
  base_taken : (o : Option ℕ) → row_extent (base_row o (record_row p.types)) ≡ base_extent facts o
  base_taken None = refl
  base_taken (Some b) = taken_same b

  fields_taken : (row : FieldRow) (x : Extent) → row_extent row ≡ x → (ks : List ℕ) → AllClosed ks → row_extent (with_fields (data_tree p.types) row ks) ≡ with_parts facts x (map shape ks)
  fields_taken row x e [] h = e
  fields_taken row x e (k ∷ ks) h =
      let b = and_of (is_closed (shape k)) (all is_closed (map shape ks)) h in
      fields_taken (FieldBehind row (data_tree p.types k)) (with_part x (extent_in facts (shape k))) (ap₂ (λ y z. with_part y z) e (extent_same k b.0)) ks b.1

  before_taken : (r i : ℕ) → row_extent (fields_before p.types r i) ≡ with_parts facts (base_extent facts (record_at facts r).base) (take i (fields_in facts r))
  unfolding fields_before
  before_taken r i =
      let ks = types_of (record_of p.types r).fields in
      let base = base_taken (record_of p.types r).base ∙ ap (λ o. base_extent facts o) (base_same r) in
      fields_taken (base_row (record_of p.types r).base (record_row p.types)) (base_extent facts (record_at facts r).base) base (take i ks) (take_closed i ks (fields_closed r))
      ∙ ap (λ ss. with_parts facts (base_extent facts (record_at facts r).base) ss) (sym (take_map shape i ks) ∙ ap (λ ss. take i ss) (fields_same r))

  -- a field of some type
  own_taken : (r i k : ℕ) → slice_get (types_of (record_of p.types r).fields) i ≡ Some k
      → tree_extent (data_tree p.types (slice_index (types_of (record_of p.types r).fields) i)) ≡ extent_in facts (slice_index_or (fields_in facts r) i Nothing)
  own_taken r i k at =
      let ks = types_of (record_of p.types r).fields in
      let there : slice_get (fields_in facts r) i ≡ Some (shape k) = ap (λ ss. slice_get ss i) (sym (fields_same r)) ∙ get_map shape ks i ∙ ap (λ o. option_map shape o) at in
      ap (λ n. tree_extent (data_tree p.types n)) (number_at ks i k at)
      ∙ extent_same k (closed_at ks (fields_closed r) i k at)
      ∙ ap (λ s. extent_in facts s) (sym (shape_there (fields_in facts r) i (shape k) there))

  pub place_same : (r i k : ℕ) → slice_get (types_of (record_of p.types r).fields) i ≡ Some k → (layout p.types).offset r i ≡ place facts r i
  place_same r i k at = ap₂ (λ (x y : Extent). round_up x.wide y.bytes) (own_taken r i k at) (before_taken r i)

  -- ---- modules' variables

  rooms_same : (ks : List ℕ) → AllClosed ks → Data.room_of_all (layout p.types) ks ≡ rooms facts (map shape ks)
  rooms_same ks h = ap sum (of_shapes (λ k. rounded ((layout p.types).bytes k)) (λ s. room facts s) (λ k c. ap (λ n. rounded n) (size_same k c)) ks h)

  modules_same : (n : ℕ) (ms : List Module) → all (λ (y : I.Module). all is_closed y.variables) (map (plain_module p.types sources) ms) ≡ true
      → sum_by (λ (y : Module). Data.room_of_all (layout p.types) y.variables) (take n ms) ≡ sum_by (λ (y : I.Module). rooms facts y.variables) (take n (map (plain_module p.types sources) ms))
  modules_same zero ms h = refl
  modules_same (suc n) [] h = refl
  modules_same (suc n) (m ∷ ms) h =
      let b = and_of (all is_closed (map shape m.variables)) (all (λ (y : I.Module). all is_closed y.variables) (map (plain_module p.types sources) ms)) h in
      sum_by-cons (λ (y : Module). Data.room_of_all (layout p.types) y.variables) m (take n ms)
      ∙ ap₂ (λ u v. u + v) (rooms_same m.variables b.0) (modules_same n ms b.1)
      ∙ sym (sum_by-cons (λ (y : I.Module). rooms facts y.variables) (plain_module p.types sources m) (take n (map (plain_module p.types sources) ms)))

  module_same : (m : ℕ) → slice_index_or (map (plain_module p.types sources) p.modules) m no_module ≡ plain_module p.types sources (slice_index_or p.modules m (record { name = []; objects = []; variables = []; body = 0 }))
  module_same m = index_map (plain_module p.types sources) p.modules m (record { name = []; objects = []; variables = []; body = 0 })

  variables_same : (m : ℕ) → map shape (globals_of p m) ≡ variables_in facts m
  variables_same m = sym (ap (λ y. y.variables) (module_same m))

  variables_closed : (m : ℕ) → AllClosed (globals_of p m)
  variables_closed m =
      subst (λ ss. all is_closed ss ≡ true) (sym (variables_same m))
      (all_index (λ (y : I.Module). all is_closed y.variables) (map (plain_module p.types sources) p.modules) no_module closed.variables refl m)

  pub global_same : (m v : ℕ) → global_at p (layout p.types) m v ≡ global_place facts m v
  global_same m v =
      let ks = globals_of p m in
      let before = rooms_same (take v ks) (take_closed v ks (variables_closed m)) ∙ ap (λ ss. rooms facts ss) (sym (take_map shape v ks) ∙ ap (λ ss. take v ss) (variables_same m)) in
      ap₂ (λ u w. 8 + (u + w)) (modules_same m p.modules closed.variables) before

  pub globals_same : globals_room p (layout p.types) ≡ all_globals facts
  globals_same = ap (λ n. 8 + n) (modules_same (length p.modules) p.modules closed.variables ∙ ap (λ n. modules_room facts n) (sym (length-map p.modules (plain_module p.types sources))))

  pub descriptor_same : (r : ℕ) → descriptor_at p (layout p.types) r ≡ descriptor_place facts r
  descriptor_same r = ap (λ n. n + 128 * r) globals_same

  -- their cells
  pub module_cells : (ms : List Module) → all (λ (y : I.Module). all is_closed y.variables) (map (plain_module p.types sources) ms) ≡ true
      → sum_by (λ (y : Module). cells_of_all p.types y.variables) ms ≡ sum_by (λ (y : I.Module). sum (map (λ s. cells_in facts s) y.variables)) (map (plain_module p.types sources) ms)
  module_cells [] h = refl
  module_cells (m ∷ ms) h =
      let b = and_of (all is_closed (map shape m.variables)) (all (λ (y : I.Module). all is_closed y.variables) (map (plain_module p.types sources) ms)) h in
      sum_by-cons (λ (y : Module). cells_of_all p.types y.variables) m ms
      ∙ ap₂ (λ u v. u + v) (ap sum (of_shapes (λ k. cells p.types k) (λ s. cells_in facts s) cells_same m.variables b.0)) (module_cells ms b.1)
      ∙ sym (sum_by-cons (λ (y : I.Module). sum (map (λ s. cells_in facts s) y.variables)) (plain_module p.types sources m) (map (plain_module p.types sources) ms))

  -- ---- strings

  pub strings_same : texts_of p.procedures ≡ strings facts
  strings_same = sym (flat_of_map (λ (q : Procedure). q.texts) p.procedures)

  pub records_many : length p.types.records ≡ length (plain_program sources (numbered p)).records
  records_many = sym (length-map p.types.records (plain_record p.types))

  pub text_room_same : (cs : List ℕ) → Data.text_room (layout p.types) cs ≡ string_room cs
  text_room_same cs = ap (λ n. rounded n) (once (suc (length cs)))
    where
      once : (n : ℕ) → 1 * n ≡ n
      once n = omega arith

  pub text_same : (k : ℕ) → text_at p (layout p.types) k ≡ string_place facts k
  text_same k =
      ap₂ (λ u xs. u + sum_by (Data.text_room (layout p.types)) (take k xs))
      (descriptor_same (length p.types.records) ∙ ap (λ n. descriptor_place facts n) records_many)
      strings_same
      ∙ (λ i. descriptor_place facts (length facts.records) + sum_by (λ cs. text_room_same cs i) (take k (strings facts)))

  pub use_same : (f k : ℕ) → text_at p (layout p.types) (text_number p f k) ≡ use_place facts f k
  use_same f k =
      text_same (text_number p f k)
      ∙ ap (λ xs. string_place facts (length xs + k)) (sym (flat_of_map (λ (q : Procedure). q.texts) (take f p.procedures)) ∙ ap (λ yss. flat_map (λ ys. ys) yss) (sym (take_map (λ (q : Procedure). q.texts) f p.procedures)))

  -- ---- a procedure's parameters and variables

  abbrev many : ℕ
  many = length (texts_of p.procedures)

  -- a procedure of the form
  abbrev pub form_of : Procedure → I.Procedure
  form_of q = plain_procedure p.types (numbered_procedure many q)

  procedure_same : (f : ℕ) → slice_index_or (plain_program sources (numbered p)).procedures f (form_of no_procedure) ≡ form_of (procedure_of p f)
  procedure_same f =
      index_map (plain_procedure p.types) (map (numbered_procedure many) p.procedures) f (numbered_procedure many no_procedure)
      ∙ ap (λ q. plain_procedure p.types q) (index_map (numbered_procedure many) p.procedures f no_procedure)

  pub formals_closed : (f : ℕ) → all (λ (y : Formal). is_closed (shape y.type_number)) (procedure_of p f).formals ≡ true
  formals_closed f =
      sym (all_of_map (λ (y : I.Formal). is_closed y.shape) (plain_formal p.types) (procedure_of p f).formals)
      ∙ subst (λ (q : I.Procedure). all (λ (y : I.Formal). is_closed y.shape) q.formals ≡ true) (procedure_same f)
      (all_index (λ (q : I.Procedure). all (λ (y : I.Formal). is_closed y.shape) q.formals) (plain_program sources (numbered p)).procedures (form_of no_procedure) closed.formals refl f)

  pub own_closed : (f : ℕ) → AllClosed (procedure_of p f).locals
  own_closed f =
      subst (λ (q : I.Procedure). all is_closed q.locals ≡ true) (procedure_same f)
      (all_index (λ (q : I.Procedure). all is_closed q.locals) (plain_program sources (numbered p)).procedures (form_of no_procedure) closed.locals refl f)

  abbrev values : Procedure → List Formal
  values q = filter (λ (y : Formal). is_value y.mode) q.formals

  pub locals_closed : (f : ℕ) → AllClosed (locals_of (procedure_of p f))
  locals_closed f =
      let q = procedure_of p f in
      let ks = map (λ (y : Formal). y.type_number) (values q) in
      ap (λ ss. all is_closed ss) (map_append shape ks q.locals)
      ∙ all_append is_closed (map shape ks) (map shape q.locals)
      (all_of_map is_closed shape ks ∙ all_of_map (λ k. is_closed (shape k)) (λ (y : Formal). y.type_number) (values q) ∙ all_filter (λ (y : Formal). is_closed (shape y.type_number)) (λ (y : Formal). is_value y.mode) q.formals (formals_closed f))
      (own_closed f)

  pub local_shapes_same : (q : Procedure) → map shape (locals_of q) ≡ local_shapes (form_of q)
  local_shapes_same q =
      let ks = map (λ (y : Formal). y.type_number) (values q) in
      map_append shape ks q.locals
      ∙ ap (λ ss. ss ++ map shape q.locals)
      (map_map shape (λ (y : Formal). y.type_number) (values q)
      ∙ sym (map_map (λ (y : I.Formal). y.shape) (plain_formal p.types) (values q))
      ∙ ap (λ ys. map (λ (y : I.Formal). y.shape) ys) (sym (filter_map (plain_formal p.types) (λ (y : I.Formal). is_value y.mode) q.formals)))

  pub are_closed : (f : ℕ) → AreClosed p f
  are_closed f = record {
    field = λ r i k at. closed_at (types_of (record_of p.types r).fields) (fields_closed r) i k at;
    global = λ m v k at. closed_at (globals_of p m) (variables_closed m) v k at;
    variable = λ v k at. closed_at (locals_of (procedure_of p f)) (locals_closed f) v k at;
    formal = λ k x at. all_at (λ (y : Formal). is_closed (shape y.type_number)) (procedure_of p f).formals (formals_closed f) k x at;
  }
