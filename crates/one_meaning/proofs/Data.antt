-- What a program holds is told by its form.
use Rattle.std.proofs.Common.{◌≡◌, ℕ, zero, suc, ◌+◌, List, [], ◌∷◌, ◌++◌, map, take, length, sum, Bool, true, false, ◌||◌, Option, Some, None, refl, sym, ap, ap₂, subst, ◌∙◌, slice_get}
use Rattle.std.specs.Prelude.{slice_index_or, sum_by, flat_map, filter, replicate, ◌==◌}
use Rattle.std.proofs.lemmas.List.{length-map}
use Rattle.std.proofs.lemmas.List.Sums.{sum_by-cons}
use Rattle.ob_types.specs.Forms.{all}
use Rattle.ob_types.specs.Layout.{kind_of, record_of, types_of, or_base, base_cells, cells, cells_of_all, record_cells, field_place, extends, no_record_type}
use Rattle.ob_types.specs.Layout as Layout
use Rattle.ob_types.specs.Store.{Bits}
use Rattle.ob_types.specs.Table.{Table}
use Rattle.ob_types.specs.Meaning.{procedure_of, no_procedure, globals_of, locals_of, texts_of, text_number, is_value, structured_by}
use Rattle.ob_types.specs.Meaning as Meaning
use Rattle.ob_types.specs.WellFormed.{well_formed}
use Rattle.ob_types.specs.declared.types.TypeKind.{TypeKind}
use Rattle.ob_types.specs.declared.types.TypeKind.TheVariants as TheKind
use Rattle.ob_types.specs.declared.types.Field.{Field}
use Rattle.ob_types.specs.declared.types.Formal.{Formal}
use Rattle.ob_types.specs.declared.program.Module.{Module}
use Rattle.ob_types.specs.declared.program.Procedure.{Procedure}
use Rattle.ob_types.specs.declared.program.Program.{Program}
use Rattle.ob_types.proofs.Tests.{and_of, and_from, all_at}
use Rattle.ob_judge.specs.Shapes.{Shape}
use Rattle.ob_judge.specs.Image as I
use Rattle.judged_tree.specs.TypeShapes.{shape_of, kind_shape}
use Rattle.judged_tree.specs.Plain.{plain_record, plain_field, plain_formal, plain_module, plain_procedure, plain_program}
use Rattle.one_lowering.specs.Forms.{is_closed, HasClosedTypes, numbered_procedure, numbered}
use Rattle.one_lowering.proofs.Lists.{index_map, map_map, take_map, flat_of_map, all_index, all_append, map_append, filter_map, all_filter, all_of_map}
use Rattle.one_lowering.proofs.Sizes.{shape_cells}
use Rattle.one_lowering.proofs.Entries.{same_cells, number_stands}
use Rattle.one_lowering.proofs.Parts.{types_are_fine, record_counts}
use Rattle.one_lowering.proofs.Sound.{AreClosed}
use Rattle.one_lowering.proofs.Whole.{blank, no_module}
use Rattle.one_meaning.proofs.Expressions.{Answers}
use Rattle.one_meaning.proofs.Whole.{no_form, local_shapes, structured_in, asked, record_at, counted, size, sizes, fields_in, place, extends_within, variables_in, procedure_at, zeroed, zeros}

-- a kind's cells, where it is an array or a record
kind_structured : (t : Table) (front : List Shape) (n : ℕ) (kind : TypeKind) (cells : ℕ) → structured_by kind cells ≡ structured_in (kind_shape t front n kind) cells
kind_structured t front n (TheKind.Array (Some m) e) cells = refl
kind_structured t front n (TheKind.Array None e) cells = refl
kind_structured t front n _ cells = refl

module _ (p : Program) (well : well_formed p ≡ true) (sources : List (List ℕ)) (closed : HasClosedTypes (plain_program sources (numbered p))) where
  abbrev pub image : I.Program
  image = plain_program sources (numbered p)

  abbrev pub strings : List (List (List ℕ))
  strings = map (λ (q : Procedure). q.texts) p.procedures

  abbrev shape : ℕ → Shape
  shape k = shape_of p.types k

  -- all of these types are closed
  abbrev pub AllClosed : List ℕ → Type 0
  AllClosed ks = all is_closed (map shape ks) ≡ true

  closed_at : (ks : List ℕ) → AllClosed ks → (i k : ℕ) → slice_get ks i ≡ Some k → is_closed (shape k) ≡ true
  closed_at ks h = all_at (λ k. is_closed (shape k)) ks (sym (all_of_map is_closed shape ks) ∙ h)

  take_closed : (n : ℕ) (ks : List ℕ) → AllClosed ks → AllClosed (take n ks)
  take_closed zero ks h = refl
  take_closed (suc n) [] h = refl
  take_closed (suc n) (k ∷ ks) h =
      let b = and_of (is_closed (shape k)) (all is_closed (map shape ks)) h in
      and_from (is_closed (shape k)) (all is_closed (map shape (take n ks))) b.0 (take_closed n ks b.1)

  ---- Record types

  record_same : (r : ℕ) → record_at image strings r ≡ plain_record p.types (record_of p.types r)
  record_same r = index_map (plain_record p.types) p.types.records r no_record_type

  base_same : (r : ℕ) → (record_of p.types r).base ≡ (record_at image strings r).base
  base_same r = sym (ap (λ y. y.base) (record_same r))

  counted_same : (r : ℕ) → record_cells p.types r ≡ counted image strings r
  counted_same r = record_counts p well r ∙ sym (ap (λ y. y.cells) (record_same r))

  cells_same : (k : ℕ) → is_closed (shape k) ≡ true → cells p.types k ≡ size image strings (shape k)
  cells_same k h = same_cells p.types (types_are_fine p well) k h ∙ (λ i. shape_cells (λ r. counted_same r i) (shape k))

  cells_of_shapes : (ks : List ℕ) → AllClosed ks → map (cells p.types) ks ≡ map (size image strings) (map shape ks)
  cells_of_shapes [] h = refl
  cells_of_shapes (k ∷ ks) h =
      let b = and_of (is_closed (shape k)) (all is_closed (map shape ks)) h in
      ap₂ (λ n ns. n ∷ ns) (cells_same k b.0) (cells_of_shapes ks b.1)

  -- the cells of all of some types
  pub sizes_same : (ks : List ℕ) → AllClosed ks → cells_of_all p.types ks ≡ sizes image strings (map shape ks)
  sizes_same ks h = ap sum (cells_of_shapes ks h)

  front_same : (v : ℕ) (ks : List ℕ) (ss : List Shape) → AllClosed ks → map shape ks ≡ ss → cells_of_all p.types (take v ks) ≡ sizes image strings (take v ss)
  front_same v ks ss h e = sizes_same (take v ks) (take_closed v ks h) ∙ ap (λ xs. sizes image strings xs) (sym (take_map shape v ks) ∙ ap (λ xs. take v xs) e)

  fields_closed : (r : ℕ) → AllClosed (types_of (record_of p.types r).fields)
  fields_closed r =
      let fs = (record_of p.types r).fields in
      let own = all_index (λ (y : I.RecordType). all (λ x. is_closed x.shape) y.fields) image.records blank closed.fields refl r in
      let here = subst (λ (y : I.RecordType). all (λ x. is_closed x.shape) y.fields ≡ true) (record_same r) own in
      all_of_map is_closed shape (types_of fs) ∙ all_of_map (λ k. is_closed (shape k)) (λ (x : Field). x.type_number) fs ∙ sym (all_of_map (λ x. is_closed x.shape) (plain_field p.types) fs) ∙ here

  fields_same : (r : ℕ) → map shape (types_of (record_of p.types r).fields) ≡ fields_in image strings r
  fields_same r =
      let fs = (record_of p.types r).fields in
      map_map shape (λ (x : Field). x.type_number) fs ∙ sym (map_map (λ x. x.shape) (plain_field p.types) fs) ∙ sym (ap (λ (y : I.RecordType). map (λ f. f.shape) y.fields) (record_same r))

  place_same : (r i : ℕ) → field_place p.types r i ≡ place image strings r i
  place_same r i =
      let base : base_cells (record_of p.types r).base (record_cells p.types) ≡ base_cells (record_at image strings r).base (counted image strings) = λ k. base_cells (base_same r k) (λ b. counted_same b k) in
      ap₂ (λ m n. m + n) base (front_same i (types_of (record_of p.types r).fields) (fields_in image strings r) (fields_closed r) (fields_same r))

  extends_same : (depth r b : ℕ) → Layout.extends_within p.types depth r b ≡ extends_within image strings depth r b
  extends_same zero r b = refl
  extends_same (suc depth) r b = λ k. r == b || or_base (base_same r k) (λ a. extends_same depth a b k)

  records_many : length p.types.records ≡ length image.records
  records_many = sym (length-map p.types.records (plain_record p.types))

  ---- Modules

  module_same : (m : ℕ) → slice_index_or image.modules m no_module ≡ plain_module p.types sources (slice_index_or p.modules m (record { name = []; objects = []; variables = []; body = 0 }))
  module_same m = index_map (plain_module p.types sources) p.modules m (record { name = []; objects = []; variables = []; body = 0 })

  variables_same : (m : ℕ) → map shape (globals_of p m) ≡ variables_in image strings m
  variables_same m = sym (ap (λ y. y.variables) (module_same m))

  variables_closed : (m : ℕ) → AllClosed (globals_of p m)
  variables_closed m =
      subst (λ ss. all is_closed ss ≡ true) (sym (variables_same m))
      (all_index (λ (y : I.Module). all is_closed y.variables) image.modules no_module closed.variables refl m)

  zeros_same : (ms : List Module) → all (λ (y : I.Module). all is_closed y.variables) (map (plain_module p.types sources) ms) ≡ true
      → map (λ (m : Module). Meaning.zeros p m.variables) ms ≡ map (λ (m : I.Module). zeros image strings m.variables) (map (plain_module p.types sources) ms)
  zeros_same [] h = refl
  zeros_same (m ∷ ms) h =
      let b = and_of (all is_closed (map shape m.variables)) (all (λ (y : I.Module). all is_closed y.variables) (map (plain_module p.types sources) ms)) h in
      ap₂ (λ n rest. replicate n (Bits 0) ∷ rest) (sizes_same m.variables b.0) (zeros_same ms b.1)

  pub globals_same : map (λ (m : Module). Meaning.zeros p m.variables) p.modules ≡ map (λ (m : I.Module). zeros image strings m.variables) image.modules
  globals_same = zeros_same p.modules closed.variables

  pub strings_same : texts_of p.procedures ≡ flat_map (λ ts. ts) strings
  strings_same = sym (flat_of_map (λ (q : Procedure). q.texts) p.procedures)

  text_same : (f k : ℕ) → text_number p f k ≡ length (flat_map (λ ts. ts) (take f strings)) + k
  text_same f k =
      ap (λ xs. length xs + k) (sym (flat_of_map (λ (q : Procedure). q.texts) (take f p.procedures)) ∙ ap (λ yss. flat_map (λ ys. ys) yss) (sym (take_map (λ (q : Procedure). q.texts) f p.procedures)))

  ---- Procedures

  abbrev many : ℕ
  many = length (texts_of p.procedures)

  -- a procedure of the form
  abbrev pub form_of : Procedure → I.Procedure
  form_of q = plain_procedure p.types (numbered_procedure many q)

  -- what is the same of procedures that aren't there is the same of all
  of_procedures : {A : Type 0} (g : I.Procedure → A) → g no_form ≡ g (form_of no_procedure) → (qs : List Procedure) (f : ℕ)
      → g (slice_index_or (map (plain_procedure p.types) (map (numbered_procedure many) qs)) f no_form) ≡ g (form_of (slice_index_or qs f no_procedure))
  of_procedures g e [] f = e
  of_procedures g e (q ∷ qs) zero = refl
  of_procedures g e (q ∷ qs) (suc f) = of_procedures g e qs f

  pub of_procedure : {A : Type 0} (g : I.Procedure → A) → g no_form ≡ g (form_of no_procedure) → (f : ℕ) → g (procedure_at image strings f) ≡ g (form_of (procedure_of p f))
  of_procedure g e f = of_procedures g e p.procedures f

  formals_closed : (f : ℕ) → all (λ (y : Formal). is_closed (shape y.type_number)) (procedure_of p f).formals ≡ true
  formals_closed f =
      sym (all_of_map (λ (y : I.Formal). is_closed y.shape) (plain_formal p.types) (procedure_of p f).formals)
      ∙ sym (of_procedure (λ q. all (λ (y : I.Formal). is_closed y.shape) q.formals) refl f)
      ∙ all_index (λ (q : I.Procedure). all (λ (y : I.Formal). is_closed y.shape) q.formals) image.procedures no_form closed.formals refl f

  pub own_closed : (f : ℕ) → AllClosed (procedure_of p f).locals
  own_closed f =
      sym (of_procedure (λ q. all is_closed q.locals) refl f)
      ∙ all_index (λ (q : I.Procedure). all is_closed q.locals) image.procedures no_form closed.locals refl f

  abbrev values : Procedure → List Formal
  values q = filter (λ (y : Formal). is_value y.mode) q.formals

  locals_closed : (f : ℕ) → AllClosed (locals_of (procedure_of p f))
  locals_closed f =
      let q = procedure_of p f in
      let ks = map (λ (y : Formal). y.type_number) (values q) in
      ap (λ ss. all is_closed ss) (map_append shape ks q.locals)
      ∙ all_append is_closed (map shape ks) (map shape q.locals)
      (all_of_map is_closed shape ks ∙ all_of_map (λ k. is_closed (shape k)) (λ (y : Formal). y.type_number) (values q) ∙ all_filter (λ (y : Formal). is_closed (shape y.type_number)) (λ (y : Formal). is_value y.mode) q.formals (formals_closed f))
      (own_closed f)

  form_shapes : (q : Procedure) → map shape (locals_of q) ≡ local_shapes (form_of q)
  form_shapes q =
      let ks = map (λ (y : Formal). y.type_number) (values q) in
      map_append shape ks q.locals
      ∙ ap (λ ss. ss ++ map shape q.locals)
      (map_map shape (λ (y : Formal). y.type_number) (values q)
      ∙ sym (map_map (λ (y : I.Formal). y.shape) (plain_formal p.types) (values q))
      ∙ ap (λ ys. map (λ (y : I.Formal). y.shape) ys) (sym (filter_map (plain_formal p.types) (λ (y : I.Formal). is_value y.mode) q.formals)))

  local_same : (f v : ℕ) → cells_of_all p.types (take v (locals_of (procedure_of p f))) ≡ sizes image strings (take v (local_shapes (procedure_at image strings f)))
  local_same f v =
      front_same v (locals_of (procedure_of p f)) (local_shapes (procedure_at image strings f)) (locals_closed f)
      (form_shapes (procedure_of p f) ∙ sym (of_procedure (λ q. local_shapes q) refl f))

  pub own_same : (f : ℕ) → cells_of_all p.types (procedure_of p f).locals ≡ sizes image strings (procedure_at image strings f).locals
  own_same f = sizes_same (procedure_of p f).locals (own_closed f) ∙ sym (of_procedure (λ q. sizes image strings q.locals) refl f)

  structured_same : (k : ℕ) → is_closed (shape k) ≡ true → structured_by (kind_of p.types k) (cells p.types k) ≡ structured_in (shape k) (size image strings (shape k))
  structured_same k h =
      let s = number_stands p.types k in
      kind_structured p.types s.front s.pointer (kind_of p.types k) (cells p.types k) ∙ ap₂ (λ u n. structured_in u n) (sym s.shape) (cells_same k h)

  all_structured : (ks : List ℕ) → AllClosed ks → sum_by (λ k. structured_by (kind_of p.types k) (cells p.types k)) ks ≡ zeroed image strings (map shape ks)
  all_structured [] h = refl
  all_structured (k ∷ ks) h =
      let b = and_of (is_closed (shape k)) (all is_closed (map shape ks)) h in
      sum_by-cons (λ j. structured_by (kind_of p.types j) (cells p.types j)) k ks
      ∙ ap₂ (λ m n. m + n) (structured_same k b.0) (all_structured ks b.1)
      ∙ sym (sum_by-cons (λ s. structured_in s (size image strings s)) (shape k) (map shape ks))

  pub zeroed_same : (f : ℕ) → Meaning.zeroed p (procedure_of p f) ≡ zeroed image strings (procedure_at image strings f).locals
  zeroed_same f = all_structured (procedure_of p f).locals (own_closed f) ∙ sym (of_procedure (λ q. zeroed image strings q.locals) refl f)

  ---- Together

  pub answers : Answers p (asked image strings)
  answers = record {
    size = cells_same;
    whole = counted_same;
    place = place_same;
    extending = λ k r b. (ap (λ n. Layout.extends_within p.types n r b) records_many ∙ extends_same (length image.records) r b) k;
    global = λ m v. front_same v (globals_of p m) (variables_in image strings m) (variables_closed m) (variables_same m);
    local = local_same;
    text = text_same;
  }

  pub are_closed : (f : ℕ) → AreClosed p f
  are_closed f = record {
    field = λ r i k at. closed_at (types_of (record_of p.types r).fields) (fields_closed r) i k at;
    global = λ m v k at. closed_at (globals_of p m) (variables_closed m) v k at;
    variable = λ v k at. closed_at (locals_of (procedure_of p f)) (locals_closed f) v k at;
    formal = λ k x at. all_at (λ (y : Formal). is_closed (shape y.type_number)) (procedure_of p f).formals (formals_closed f) k x at;
  }
