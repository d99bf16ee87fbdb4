-- Tables that are made so are right.
use Rattle.std.proofs.Common.{◌≡◌, ℕ, zero, suc, ◌+◌, ◌*◌, ◌<◌, ◌≤◌, min, List, [], ◌∷◌, map, take, length, get_or, Option, Some, None, refl, sym, ap, ap₂, ◌∙◌, subst, arith, sum, ◌⊎◌, inl, inr}
use Rattle.std.specs.Prelude.{slice_get}
use Rattle.std.specs.List.{sum_by}
use Rattle.std.proofs.lemmas.List.{get_or-map, get_or_past}
use Rattle.std.proofs.lemmas.Option.{slice_get_within}
use Rattle.std.proofs.lemmas.List.Sums.{sum_by-cons, sum_by-take-le}
use Rattle.ob_types.specs.Table.{Table}
use Rattle.ob_types.specs.Layout.{no_record_type, record_of, types_of, base_cells, cells, cells_within, record_within, record_cells}
use Rattle.ob_types.specs.Meaning.{globals_of, texts_of, text_number}
use Rattle.ob_types.specs.Trees.{tree_extent, data_tree}
use Rattle.ob_types.specs.declared.types.Extent.{Extent}
use Rattle.ob_types.specs.declared.types.Formal.{Formal}
use Rattle.ob_types.specs.declared.types.RecordType.{RecordType}
use Rattle.ob_types.specs.declared.types.Mode.{Mode}
use Rattle.ob_types.specs.declared.types.Mode.TheVariants.{Value, Place, Record, Open}
use Rattle.ob_types.specs.declared.program.Module.{Module}
use Rattle.ob_types.specs.declared.program.Procedure.{Procedure}
use Rattle.ob_types.specs.declared.program.Program.{Program}
use Rattle.ob_types.proofs.Tests.{less_or_past}
use Rattle.ssa_lowered.specs.Data.{Layout, layout, room, room_of_all, rounded, modules_room, global_at, globals_room, text_room, text_at, within}
use Rattle.ssa_lowered.specs.Pieces.{give}
use Rattle.ssa_lowered.specs.Lowered.{here_of, by_mode, parameter_by}
use Rattle.ssa_lowered.specs.Variables.{words_by, words_of, Register}
use Rattle.ssa_lowered.specs.Variables.{Variable as VariableThere}
use Rattle.ssa_exprs.specs.Named.{named_of}
use Rattle.ssa_exprs.specs.Tables.{Serves, clamped, of_row, site_by, parameter_in, first_text_in}
use Rattle.ssa_exprs.specs.declared.tables.ProgramTables.{ProgramTables}
use Rattle.ssa_exprs.specs.declared.tables.Tables.{Tables}
use Rattle.ssa_tables.specs.Measured.{HasSizes}
use Rattle.ssa_tables.specs.Places.{starts, size_by, room_by, type_cells_by, extent_by, module_starts, module_finish, base_by, field_starts, string_size}
use Rattle.ssa_tables.specs.Shared.{ServesAll}
use Rattle.ssa_tables.specs.Strings.{first_strings}
use Rattle.ssa_tables.specs.Local.{seen, site_of, distance, name_by, parameters_from, AreLocals}
use Rattle.ssa_tables.specs.declared.locals.Variable.{Variable}
use Rattle.ssa_tables.specs.declared.locals.Locals.{Locals}
use Rattle.ssa_tables.proofs.Placing.{finish_is, starts_clamped, module_finish_is, module_starts_at, module_starts_length, within_on, take_all, take_nothing, at_inside, at_past}
use Rattle.ssa_tables.proofs.Extents.{whole_is, offset_is, offset_few}
use Rattle.ssa_tables.proofs.Texts.{first_is}

---- Parameters

name_is : (m : Mode) (w : ℕ) → by_mode m w ≡ named_of (name_by m w)
name_is Value w = refl
name_is Place w = refl
name_is Record w = refl
name_is Open w = refl

named_at : (w : ℕ) (xs : List Formal) (k : ℕ) → parameter_by (slice_get xs k) (w + words_of (take k xs)) ≡ parameter_in (slice_get (parameters_from w xs) k)
named_at w [] k = refl
named_at w (x ∷ xs) zero = let e : w + 0 ≡ w = omega arith in ap (λ n. give (by_mode x.mode n)) e ∙ ap give (name_is x.mode w)
named_at w (x ∷ xs) (suc k) =
    let s = sum_by-cons (λ (y : Formal). words_by y.mode) x (take k xs) in
    let e : w + words_of (x ∷ take k xs) ≡ (w + words_by x.mode) + words_of (take k xs) = omega (arith, s) in
    ap (λ n. parameter_by (slice_get xs k) n) e ∙ named_at (w + words_by x.mode) xs k

---- Variables

site_is : (bytes : ℕ) (o : Option ℕ) → distance bytes o ≡ site_by bytes (site_of o)
site_is bytes None = refl
site_is bytes (Some n) = refl

local_is : (bytes : ℕ) (vs : List Variable) (x : ℕ) → get_or (map (λ (v : Variable). distance bytes v.place) vs) x None ≡ site_by bytes (get_or (map seen vs) x (record { type_number = 0; word = None; site = Register })).site
local_is bytes [] x = refl
local_is bytes (v ∷ vs) zero = site_is bytes v.place
local_is bytes (v ∷ vs) (suc x) = local_is bytes vs x

---- What all procedures share

take_one : {A : Type 0} (f : A → ℕ) (xs : List A) (i : ℕ) (d : A) → i < length xs → sum_by f (take i xs) + f (get_or xs i d) ≤ sum_by f xs
take_one f [] i d lt = absurd (omega (arith, lt))
take_one f (x ∷ xs) zero d lt = let s = sum_by-cons f x xs in omega (arith, s)
take_one f (x ∷ xs) (suc i) d lt =
    let s = sum_by-cons f x xs in
    let r = sum_by-cons f x (take i xs) in
    let more = take_one f xs i d (omega (arith, lt)) in
    omega (arith, s, r, more)

module _ (p : Program) (sizes : List ℕ) (known : (k : ℕ) → size_by sizes k ≡ (layout p.types).bytes k) where
  abbrev t : Table
  t = p.types

  abbrev l : Layout
  l = layout t

  pub all_room : (ks : List ℕ) → sum_by (room_by sizes) ks ≡ room_of_all l ks
  all_room [] = refl
  all_room (k ∷ ks) =
      sum_by-cons (room_by sizes) k ks
      ∙ ap₂ (λ a b. a + b) (ap rounded (known k)) (all_room ks)
      ∙ sym (sum_by-cons (λ x. x) (room l k) (map (room l) ks))

  abbrev module_size : Module → ℕ
  module_size m = sum_by (room_by sizes) m.variables

  pub modules_are : (ms : List Module) → sum_by module_size ms ≡ sum_by (λ x. room_of_all l x.variables) ms
  modules_are [] = refl
  modules_are (m ∷ ms) =
      sum_by-cons module_size m ms
      ∙ ap₂ (λ a b. a + b) (all_room m.variables) (modules_are ms)
      ∙ sym (sum_by-cons (λ (x : Module). room_of_all l x.variables) m ms)

  -- where the globals end
  pub finish_globals : module_finish (room_by sizes) 8 p.modules ≡ within (globals_room p l)
  finish_globals =
      let a = modules_are p.modules in
      let b = ap (λ ms. sum_by (λ (x : Module). room_of_all l x.variables) ms) (take_all p.modules (length p.modules) (omega arith)) in
      module_finish_is (room_by sizes) 8 p.modules (omega arith) ∙ (omega (arith, a, b))

  pub globals_end : module_finish (room_by sizes) 8 p.modules ≤ 8388608 → module_finish (room_by sizes) 8 p.modules ≡ globals_room p l
  globals_end few = let a = finish_globals in omega (arith, a, few)

  module _ (few : module_finish (room_by sizes) 8 p.modules ≤ 8388608) where
    abbrev nothing_there : Module
    nothing_there = record { name = []; objects = []; variables = []; body = 0 }

    small : globals_room p l ≤ 8388608
    small = let e = globals_end few in omega (arith, e, few)

    modules_take : (m : ℕ) → sum_by module_size (take m p.modules) ≡ modules_room p l m
    modules_take m = modules_are (take m p.modules)

    pub global_is : (m v : ℕ) → of_row (module_starts (room_by sizes) 8 p.modules) m v (module_finish (room_by sizes) 8 p.modules) ≡ global_at p l m v
    global_is m v = by (less_or_past m (length p.modules))
      where
        n : length (module_starts (room_by sizes) 8 p.modules) ≡ length p.modules
        n = module_starts_length (room_by sizes) 8 p.modules

        by : (m < length p.modules) ⊎ (length p.modules ≤ m) → of_row (module_starts (room_by sizes) 8 p.modules) m v (module_finish (room_by sizes) 8 p.modules) ≡ global_at p l m v
        by (inl lt) =
            let ks = globals_of p m in
            let before = module_finish (room_by sizes) 8 (take m p.modules) in
            let a : before ≡ within (8 + sum_by module_size (take m p.modules)) = module_finish_is (room_by sizes) 8 (take m p.modules) (omega arith) in
            let b = modules_take m in
            let c = take_one module_size p.modules m nothing_there lt in
            let d = sum_by-take-le (room_by sizes) ks v in
            let e = modules_are p.modules in
            let f = small in
            let g = ap (λ ms. sum_by (λ (x : Module). room_of_all l x.variables) ms) (take_all p.modules (length p.modules) (omega arith)) in
            let h = all_room (take v ks) in
            let le : before ≤ 16777215 = omega (arith, a) in
            at_inside (module_starts (room_by sizes) 8 p.modules) m v (module_finish (room_by sizes) 8 p.modules) (subst (λ k. m < k) (sym n) lt)
            ∙ ap (λ r. clamped r v) (module_starts_at (room_by sizes) 8 p.modules m nothing_there lt)
            ∙ starts_clamped (room_by sizes) before ks v
            ∙ finish_is (room_by sizes) before (take v ks) le
            ∙ (omega (arith, a, b, c, d, e, f, g, h))
        by (inr le) =
            let none : globals_of p m ≡ [] = ap (λ (x : Module). x.variables) (get_or_past p.modules m nothing_there le) in
            let a = ap (room_of_all l) (ap (take v) none ∙ take_nothing v) in
            let b = ap (λ ms. sum_by (λ (x : Module). room_of_all l x.variables) ms) (take_all p.modules (length p.modules) (omega arith) ∙ sym (take_all p.modules m le)) in
            at_past (module_starts (room_by sizes) 8 p.modules) m v (module_finish (room_by sizes) 8 p.modules) (subst (λ k. k ≤ m) (sym n) le)
            ∙ globals_end few
            ∙ (omega (arith, a, b))

  ---- Records

  module _ (has : HasSizes t) where
    cells_is : (r : ℕ) → get_or (map (λ (x : RecordType). x.cells) t.records) r 0 ≡ record_cells t r
    cells_is r = by (less_or_past r (length t.records))
      where
        length_of : (xs : List RecordType) → length (map (λ (x : RecordType). x.cells) xs) ≡ length xs
        length_of [] = refl
        length_of (x ∷ xs) = ap suc (length_of xs)

        none : (r : ℕ) → length t.records ≤ r → record_cells t r ≡ 0
        none r le = ap (λ (x : RecordType). base_cells x.base (record_within t (length t.kinds + length t.records)) + sum (map (cells_within t (length t.kinds + length t.records)) (types_of x.fields))) (get_or_past t.records r no_record_type le)

        by : (r < length t.records) ⊎ (length t.records ≤ r) → get_or (map (λ (x : RecordType). x.cells) t.records) r 0 ≡ record_cells t r
        by (inl lt) = get_or-map (λ (x : RecordType). x.cells) t.records r no_record_type 0 lt ∙ has.records r lt
        by (inr le) = get_or_past (map (λ (x : RecordType). x.cells) t.records) r 0 (subst (λ n. n ≤ r) (sym (length_of t.records)) le) ∙ sym (none r le)

    level_is : (r : ℕ) → get_or (map (λ (x : RecordType). x.level) t.records) r 0 ≡ (record_of t r).level
    level_is r = by t.records r
      where
        by : (xs : List RecordType) (r : ℕ) → get_or (map (λ (x : RecordType). x.level) xs) r 0 ≡ (get_or xs r no_record_type).level
        by [] r = refl
        by (x ∷ xs) zero = refl
        by (x ∷ xs) (suc r) = by xs r

    one_room : (xs : List ℕ) → string_size xs ≡ text_room l xs
    one_room xs = omega arith

    texts_room : (xss : List (List ℕ)) → sum_by string_size xss ≡ sum_by (text_room l) xss
    texts_room [] = refl
    texts_room (xs ∷ xss) = sum_by-cons string_size xs xss ∙ ap₂ (λ a b. a + b) (one_room xs) (texts_room xss) ∙ sym (sum_by-cons (text_room l) xs xss)

    string_is : (first n : ℕ) → first ≡ within (module_finish (room_by sizes) 8 p.modules + 128 * length t.records) → module_finish (room_by sizes) 8 p.modules ≤ 8388608 → clamped (starts string_size first (texts_of p.procedures)) n ≡ within (text_at p l n)
    string_is first n is few =
        let e = globals_end few in
        let le : first ≤ 16777215 = omega (arith, is) in
        let rooms = texts_room (take n (texts_of p.procedures)) in
        starts_clamped string_size first (texts_of p.procedures) n
        ∙ finish_is string_size first (take n (texts_of p.procedures)) le
        ∙ ap (λ m. within (m + sum_by string_size (take n (texts_of p.procedures)))) (is ∙ ap (λ m. within (m + 128 * length t.records)) e)
        ∙ within_on (globals_room p l) (128 * length t.records) (sum_by string_size (take n (texts_of p.procedures)))
        ∙ omega (arith, rooms)

    -- all of them
    pub serves_all : (x : ProgramTables) (extents : List Extent) (first : ℕ) → ((k : ℕ) → extent_by extents k ≡ tree_extent (data_tree t k)) → module_finish (room_by sizes) 8 p.modules ≤ 8388608
        → x.globals ≡ module_starts (room_by sizes) 8 p.modules → x.descriptors ≡ module_finish (room_by sizes) 8 p.modules
        → x.levels ≡ map (λ (r : RecordType). r.level) t.records → x.sizes ≡ sizes → x.records ≡ map (λ (r : RecordType). r.extent.bytes) t.records → x.cells ≡ map (λ (r : RecordType). r.cells) t.records
        → ((k : ℕ) → type_cells_by x.type_cells k ≡ cells t k) → x.offsets ≡ map (λ (r : RecordType). field_starts (extent_by extents) (base_by (map (λ (y : RecordType). y.extent.bytes) t.records) r.base) (types_of r.fields)) t.records
        → first ≡ within (module_finish (room_by sizes) 8 p.modules + 128 * length t.records) → x.texts ≡ starts string_size first (texts_of p.procedures) → x.first_texts ≡ first_strings 0 p.procedures → ServesAll x p
    serves_all x extents first taken few globals descriptors levels all records cells_of_records cells_of_types offsets place texts firsts = record {
      global = λ m v. ap₂ (λ rows d. of_row rows m v d) globals descriptors ∙ global_is few m v;
      descriptor = λ r. ap (λ d. min (d + 128 * r) 16777215) (descriptors ∙ globals_end few);
      level = λ r. ap (λ xs. get_or xs r 0) levels ∙ level_is r;
      size = λ k. ap (λ xs. size_by xs k) all ∙ known k;
      whole = λ r. ap (λ xs. get_or xs r 0) records ∙ whole_is t has r;
      cells = λ r. ap (λ xs. get_or xs r 0) cells_of_records ∙ cells_is r;
      type_cells = cells_of_types;
      offset = λ r field. ap (λ rows. of_row rows r field 0) offsets ∙ offset_is t has extents taken r field;
      short = λ r field. let e = ap (λ rows. of_row rows r field 0) offsets in let f = offset_few t has extents taken r field in omega (arith, e, f);
      text = λ n. ap (λ xs. clamped xs n) texts ∙ string_is first n place few;
      first_text = λ f lt. let e = ap (λ xs. get_or xs f 0) firsts in let g = first_is 0 p.procedures f lt in omega (arith, e, g);
    }

-- and with what belongs to a procedure
pub serves_one : (y : Tables) (p : Program) (f : ℕ) (q : Procedure) (v : Locals) → ServesAll y.program.now p → slice_get p.procedures f ≡ Some q → AreLocals v p f q
    → y.first_text ≡ first_text_in y.program.now f → y.parameters ≡ parameters_from 0 q.formals → y.locals ≡ map (λ (w : Variable). distance v.bytes w.place) v.variables → Serves y p (here_of p (layout p.types) f q)
serves_one y p f q v all there are first parameters locals = record {
  global = all.global;
  descriptor = all.descriptor;
  level = all.level;
  size = all.size;
  whole = all.whole;
  cells = all.cells;
  offset = all.offset;
  short = all.short;
  text = λ k. ap (λ n. clamped y.program.now.texts (n + k)) (first ∙ all.first_text f (slice_get_within p.procedures f q there)) ∙ all.text (text_number p f k);
  parameter = λ k.
      let e : words_of (take k q.formals) ≡ 0 + words_of (take k q.formals) = omega arith in
      ap (λ n. parameter_by (slice_get q.formals k) n) e ∙ named_at 0 q.formals k ∙ ap (λ xs. parameter_in (slice_get xs k)) (sym parameters);
  local = λ z. ap (λ ds. get_or ds z None) locals ∙ local_is v.bytes v.variables z ∙ ap₂ (λ b vs. site_by b (get_or {A = VariableThere} vs z (record { type_number = 0; word = None; site = Register })).site) are.bytes are.variables;
}
