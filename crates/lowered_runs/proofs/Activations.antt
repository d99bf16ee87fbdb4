-- A procedure's call: its variables with their first values, its parameters, and the level that it adds.
use Rattle.std.proofs.Common.{◌≡◌, ◌≢◌, ℕ, zero, suc, ◌+◌, ◌*◌, ◌/◌, ◌^◌, ◌<◌, ◌≤◌, ◌⊎◌, inl, inr, ⊎_elim, List, [], ◌∷◌, ◌++◌, map, length, take, drop, replicate, filter, Bool, true, false, cond, ◌&&◌, slice_get, slice_index, refl, sym, ap, ap₂, ◌∙◌, subst, arith, Option, Some, None, length-append}
use Rattle.std.specs.Prelude.{◌||◌, is_some, nat_lt, slice_index_or, sum_by, if◌then◌else◌}
use Rattle.std.proofs.lemmas.Bool.{cases_lt}
use Rattle.std.proofs.lemmas.Bool.Decides.{nat_tests}
use Rattle.std.proofs.lemmas.List.{map-append}
use Rattle.std.proofs.lemmas.List.Sums.{sum_by-cons}
use Rattle.block_runs.specs.States.{Frame}
use Rattle.ob_types.specs.Forms.{Form, Zero, Truth, Small, Number, ToRecord, Routines, Exactly, scalar_form, form_or_zero, all, types_fine}
use Rattle.ob_types.specs.Layout.{kind_of, cells, cells_of_all}
use Rattle.ob_types.specs.LegalTypes.{formal_legal, mode_fits}
use Rattle.ob_types.specs.Meaning.{globals_of, locals_of, is_value, receives, received, zeroed, structured_by, texts_of}
use Rattle.ob_types.specs.Meaning.{procedure_of as declared_of}
use Rattle.ob_types.specs.Store.{Cell, Bits, Pointer, Code, Globals, Frames, Heap, Strings, Address, Handed, At as Addressed, Sized, Tagged, Value}
use Rattle.ob_types.specs.Store.{Store as Objects, Area as Kind_of_area}
use Rattle.ob_types.specs.Trees.{DataTree, Scalar, Array, Record, fits_byte, tree_bytes, data_tree, record_row}
use Rattle.ob_types.specs.WellFormed
use Rattle.ob_types.specs.WellFormed.{Named as Thing, Of, OpenOf, Dynamic, with_some, open_element, record_by}
use Rattle.ob_types.specs.declared.types.Formal.{Formal}
use Rattle.ob_types.specs.declared.types.Mode.{Mode}
use Rattle.ob_types.specs.declared.types.Mode.TheVariants.{Place}
use Rattle.ob_types.specs.declared.types.Mode.TheVariants.{Value as OfValue, Record as OfRecord, Open as OfOpen}
use Rattle.ob_types.specs.declared.types.TypeKind.{TypeKind}
use Rattle.ob_types.specs.declared.types.TypeKind.TheVariants.{Array as ArrayOf}
use Rattle.ob_types.specs.declared.types.TypeKind.TheVariants.{Record as RecordOf}
use Rattle.ob_types.specs.declared.program.Procedure.{Procedure as Declared}
use Rattle.ob_types.specs.declared.program.Program.{Program}
use Rattle.ob_types.proofs.DataTrees.{cells_are}
use Rattle.ob_types.proofs.Tests.{no, none_some, some_same, and_of}
use Rattle.ob_types.proofs.TreeBytes.{bytes_many}
use Rattle.ob_sound.proofs.Constructs.{with_is}
use Rattle.ob_sound.proofs.Handing.{Taken, AllTaken}
use Rattle.ob_sound.proofs.Typed.{Fits}
use Rattle.object_nodes.specs.Nodes.{VariableNode}
use Rattle.object_nodes.proofs.Designators.{trees_push}
use Rattle.object_nodes.proofs.Standing.{own_is}
use Rattle.object_bytes.specs.Objects.{limit}
use Rattle.a64_memory.specs.Areas.{data_base, heap_base}
use Rattle.ssa_lowered.specs.Pieces.{Mask}
use Rattle.ssa_lowered.specs.Values.{At, Beside}
use Rattle.ssa_lowered.specs.Data.{Layout, IsLayout, room, takes_a_byte, global_at, descriptor_at, within, text_at}
use Rattle.ssa_lowered.specs.Variables.{Site, Variable, is_structured, some_structured, structured_room, scalars_lent, placed, value_parameters, words_by, words_of, none, Register}
use Rattle.ssa_lowered.specs.Lowered.{Here, here_of, lent_in_body, zeroed_bytes, in_register, variable_of, by_mode}
use Rattle.object_nodes.specs.Addresses.{Sides}
use Rattle.held_stores.specs.Places.{start, trees}
use Rattle.held_stores.specs.Changes.{Laid, with_frame}
use Rattle.held_stores.proofs.Calls.{own_slot, other_slot}
use Rattle.lowered_runs.specs.Words.{Whole, Level, ground, active, ValueIs, AddressIs, Apart}
use Rattle.lowered_runs.proofs.Designators.{NamedIs, SecondIs}
use Rattle.lowered_runs.proofs.Levels.{Variables, LocalIs, Given, TellsExtensions}
use Rattle.lowered_runs.proofs.Calls.{OneIs, Words, Stacked}
use Rattle.lowered_runs.proofs.Frames.{Activation, call_of, above}
use Rattle.lowered_runs.proofs.Locals.{Pairs, types_in, tree, size, is_wide, form_in, single, wide_of, way, wide_in, lent_in, first, first_grows, wide_bytes, lent_words, words_fit, own_at, own_inside, own_apart, SiteIs, site_is, scalar_tree, room_fits, room_few, own_variable}
use Rattle.lowered_runs.proofs.Openings.{lent_memory, Firsts, WordsAmong, wide_some}

get_drop : (n : ℕ) (cs : List Cell) (d : ℕ) → slice_get (drop n cs) d ≡ slice_get cs (n + d)
get_drop zero cs d = let e : d ≡ 0 + d = omega arith in ap (slice_get cs) e
get_drop (suc n) [] d = refl
get_drop (suc n) (c ∷ cs) d = let e : suc (n + d) ≡ suc n + d = omega arith in get_drop n cs d ∙ ap (slice_get (c ∷ cs)) e

---- Variables

-- a procedure's variables
abbrev pub pairs_of : Declared → Pairs
pairs_of q = value_parameters 0 q.formals ++ map (λ k. (k, None)) q.locals

types_append : (xs ys : Pairs) → types_in (xs ++ ys) ≡ types_in xs ++ types_in ys
types_append xs ys = map-append (λ x. x.0) xs ys

types_values : (w : ℕ) (xs : List Formal) → types_in (value_parameters w xs) ≡ map (λ x. x.type_number) (filter (λ x. is_value x.mode) xs)
types_values w [] = refl
types_values w (x ∷ xs) = by (is_value x.mode) (types_values (w + words_by x.mode) xs)
  where
    by : (b : Bool) → types_in (value_parameters (w + words_by x.mode) xs) ≡ map (λ x. x.type_number) (filter (λ x. is_value x.mode) xs)
        → types_in ((if b then (x.type_number, Some w) ∷ [] else []) ++ value_parameters (w + words_by x.mode) xs) ≡ map (λ x. x.type_number) (cond b (x ∷ filter (λ x. is_value x.mode) xs) (filter (λ x. is_value x.mode) xs))
    by true e = ap (λ ks. x.type_number ∷ ks) e
    by false e = e

types_locals : (ks : List ℕ) → types_in (map (λ k. (k, None)) ks) ≡ ks
types_locals [] = refl
types_locals (k ∷ ks) = ap (λ xs. k ∷ xs) (types_locals ks)

pub types_are : (q : Declared) → types_in (pairs_of q) ≡ locals_of q
types_are q = types_append (value_parameters 0 q.formals) (map (λ k. (k, None)) q.locals) ∙ ap₂ (λ a b. a ++ b) (types_values 0 q.formals) (types_locals q.locals)

-- a parameter that is a value is one cell
scalar_not_wide : (kind : TypeKind) → is_some (scalar_form kind) ≡ true → is_structured kind ≡ false
scalar_not_wide (ArrayOf n e) h = no h
scalar_not_wide (RecordOf r) h = no h
scalar_not_wide _ h = refl

module _ (p : Program) where
  wide_is : (kind : TypeKind) (n : ℕ) → wide_of (way (is_structured kind) false) n ≡ structured_by kind n
  wide_is (ArrayOf k e) n = refl
  wide_is (RecordOf r) n = refl
  wide_is _ n = refl

  value_scalar : (x : Formal) → formal_legal p.types x ≡ true → is_value x.mode ≡ true → is_wide p x.type_number ≡ false
  value_scalar x legal value = by x.mode x.variable value legal
    where
      by : (m : Mode) (v : Bool) → is_value m ≡ true → mode_fits m v (kind_of p.types x.type_number) ≡ true → is_wide p x.type_number ≡ false
      by OfValue false value h = scalar_not_wide (kind_of p.types x.type_number) h
      by OfValue true value h = no h
      by Place v value h = no value
      by OfRecord v value h = no value
      by OfOpen v value h = no value

  cells_append : (xs ys : List ℕ) → cells_of_all p.types (xs ++ ys) ≡ cells_of_all p.types xs + cells_of_all p.types ys
  cells_append [] ys = omega arith
  cells_append (x ∷ xs) ys =
      let e = sum_by-cons (λ n. n) (cells p.types x) (map (cells p.types) (xs ++ ys)) in
      let f = sum_by-cons (λ n. n) (cells p.types x) (map (cells p.types) xs) in
      let g = cells_append xs ys in omega (arith, e, f, g)

  -- a structured variable is a local one
  pub wide_flag : (q : Declared) → all (formal_legal p.types) q.formals ≡ true → wide_some p (pairs_of q) ≡ true → some_structured p.types q.locals ≡ true
  wide_flag q legal e = in_values 0 q.formals legal e
    where
      in_locals : (ks : List ℕ) → wide_some p (map (λ k. (k, None)) ks) ≡ some_structured p.types ks
      in_locals [] = refl
      in_locals (k ∷ ks) = ap (λ b. is_structured (kind_of p.types k) || b) (in_locals ks)

      in_values : (v : ℕ) (xs : List Formal) → all (formal_legal p.types) xs ≡ true → wide_some p (value_parameters v xs ++ map (λ k. (k, None)) q.locals) ≡ true → some_structured p.types q.locals ≡ true
      in_values v [] h e = sym (in_locals q.locals) ∙ e
      in_values v (x ∷ xs) h e =
          let y = and_of (formal_legal p.types x) (all (formal_legal p.types) xs) h in
          by (is_value x.mode) refl (value_scalar x y.0) (λ f. in_values (v + words_by x.mode) xs y.1 f) e
        where
          by : (b : Bool) → is_value x.mode ≡ b → (is_value x.mode ≡ true → is_wide p x.type_number ≡ false) → (wide_some p (value_parameters (v + words_by x.mode) xs ++ map (λ k. (k, None)) q.locals) ≡ true → some_structured p.types q.locals ≡ true)
              → wide_some p (((if b then (x.type_number, Some v) ∷ [] else []) ++ value_parameters (v + words_by x.mode) xs) ++ map (λ k. (k, None)) q.locals) ≡ true → some_structured p.types q.locals ≡ true
          by true is scalar more e = more (sym (ap (λ t. t || wide_some p (value_parameters (v + words_by x.mode) xs ++ map (λ k. (k, None)) q.locals)) (scalar is)) ∙ e)
          by false is scalar more e = more e

module _ (p : Program) (lay : Layout) where
  -- the bytes for structured variables are those that are set to zero
  wide_append : (xs ys : Pairs) → wide_in p lay (xs ++ ys) ≡ wide_in p lay xs + wide_in p lay ys
  wide_append [] ys = omega arith
  wide_append (x ∷ xs) ys = let e = wide_append xs ys in omega (arith, e)

  wide_values : (w : ℕ) (xs : List Formal) → all (formal_legal p.types) xs ≡ true → wide_in p lay (value_parameters w xs) ≡ 0
  wide_values w [] h = refl
  wide_values w (x ∷ xs) h =
      let y = and_of (formal_legal p.types x) (all (formal_legal p.types) xs) h in
      by (is_value x.mode) refl (value_scalar p x y.0) (wide_values (w + words_by x.mode) xs y.1)
    where
      by : (b : Bool) → is_value x.mode ≡ b → (is_value x.mode ≡ true → is_wide p x.type_number ≡ false) → wide_in p lay (value_parameters (w + words_by x.mode) xs) ≡ 0 → wide_in p lay ((if b then (x.type_number, Some w) ∷ [] else []) ++ value_parameters (w + words_by x.mode) xs) ≡ 0
      by true is scalar e = let g = ap (λ t. wide_of (way t false) (room lay x.type_number)) (scalar is) in omega (arith, e, g)
      by false is scalar e = e

  wide_all : (q : Declared) → all (formal_legal p.types) q.formals ≡ true → wide_in p lay (pairs_of q) ≡ wide_in p lay (map (λ k. (k, None)) q.locals)
  wide_all q h = let e = wide_append (value_parameters 0 q.formals) (map (λ k. (k, None)) q.locals) in let f = wide_values 0 q.formals h in omega (arith, e, f)

  -- without structured variables nothing is set to zero
  none_wide : (ks : List ℕ) → some_structured p.types ks ≡ false → wide_in p lay (map (λ k. (k, None)) ks) ≡ 0
  none_wide [] h = refl
  none_wide (k ∷ ks) h =
      let y = both_false (is_structured (kind_of p.types k)) (some_structured p.types ks) h in
      let f = ap (λ t. wide_of (way t false) (room lay k)) y.0 in
      let g = none_wide ks y.1 in omega (arith, f, g)
    where
      both_false : (a b : Bool) → (a || b) ≡ false → (a ≡ false) × (b ≡ false)
      both_false true b h = no (sym h)
      both_false false b h = (refl, h)

  pub none_zeroed : (q : Declared) → all (formal_legal p.types) q.formals ≡ true → some_structured p.types q.locals ≡ false → wide_in p lay (pairs_of q) ≡ 0
  none_zeroed q legal h = wide_all q legal ∙ none_wide q.locals h

  -- they are so many words
  abbrev Words_of : ℕ → Type 0
  Words_of q = (n : ℕ) × (q ≡ 8 * n)

  wide_words : (xs : Pairs) → Words_of (wide_in p lay xs)
  wide_words [] = (0, refl)
  wide_words (x ∷ xs) = let h = wide_words xs in let e = h.1 in by (is_wide p x.0) h.0 e
    where
      by : (t : Bool) (n : ℕ) → wide_in p lay xs ≡ 8 * n → Words_of (wide_of (way t false) (room lay x.0) + wide_in p lay xs)
      by true n e = ((lay.bytes x.0 + 7) / 8 + n, omega (arith, e))
      by false n e = (n, omega (arith, e))

  module _ (packed : Bool) (fine : types_fine p.types ≡ true) (laid : IsLayout packed p.types lay) where
    -- a cell has a byte at least, and eight at most
    wide_cells : (ks : List ℕ) → (sum_by (λ k. structured_by (kind_of p.types k) (cells p.types k)) ks ≤ wide_in p lay (map (λ k. (k, None)) ks)) × (wide_in p lay (map (λ k. (k, None)) ks) ≤ 8 * sum_by (λ k. structured_by (kind_of p.types k) (cells p.types k)) ks)
    wide_cells [] = (omega arith, omega arith)
    wide_cells (k ∷ ks) =
        let h = wide_cells ks in let lo = h.0 in let hi = h.1 in
        let e = sum_by-cons (λ k. structured_by (kind_of p.types k) (cells p.types k)) k ks in
        let f = wide_is p (kind_of p.types k) (cells p.types k) in
        let fits = room_fits p packed lay fine laid k in let few = room_few p packed lay fine laid k in
        let many = bytes_many packed (tree p k) in let count = cells_are p.types k in
        let g = by (is_wide p k) (omega (arith, fits, many, count)) few in
        let least = g.0 in let most = g.1 in
        (omega (arith, e, f, lo, least), omega (arith, e, f, hi, most))
      where
        by : (t : Bool) → cells p.types k ≤ room lay k → room lay k ≤ 8 * cells p.types k → (wide_of (way t false) (cells p.types k) ≤ wide_of (way t false) (room lay k)) × (wide_of (way t false) (room lay k) ≤ 8 * wide_of (way t false) (cells p.types k))
        by true lo hi = (lo, hi)
        by false lo hi = (omega arith, omega arith)

    -- a turn for each cell that is set to zero is one for each word at least, and no more than one for each byte
    pub record ZeroedBy (bytes turns : ℕ) : Type 0 where
      pub words : ℕ
      pub whole : bytes ≡ 8 * words
      pub some : words ≤ turns
      pub many : turns ≤ bytes

    pub zeroed_by : (q : Declared) → all (formal_legal p.types) q.formals ≡ true → ZeroedBy (wide_in p lay (pairs_of q)) (zeroed p q)
    zeroed_by q legal =
        let words = wide_words (pairs_of q) in let e = wide_all q legal in let h = wide_cells q.locals in
        let whole = words.1 in let lo = h.0 in let hi = h.1 in
        record { words = words.0; whole = whole; some = omega (arith, whole, e, hi); many = omega (arith, e, lo) }

---- First values

module _ (w : Whole) (z : Objects) (args : List ℕ) where
  abbrev p : Program
  p = w.program

  zero_few : (b : Bool) → 0 < limit b
  zero_few true = omega arith
  zero_few false = omega arith

  zeros_first : (ks : List ℕ) (cs : List Cell) → ((c : ℕ) (v : Cell) → slice_get cs c ≡ Some v → v ≡ Bits 0) → Firsts w z args (map (λ k. (k, None)) ks) cs
  zeros_first [] cs zeros = tt
  zeros_first (k ∷ ks) cs zeros = (
    ((λ c v lt at. subst (λ v. ValueIs w z.tags v 0) (sym (zeros c v at)) (refl, omega arith)), (λ e. refl, (zero_few (w.layout.is_small (kind_of p.types k)), tt))),
    zeros_first ks (drop (size p k) cs) (λ c v at. zeros (size p k + c) v (sym (get_drop (size p k) cs c) ∙ at)),
  )

  some_cell : {x y : Cell} → Some x ≡ Some y → x ≡ y
  some_cell e = cc

  zero_cell : (n c : ℕ) (v : Cell) → slice_get (replicate n (Bits 0)) c ≡ Some v → v ≡ Bits 0
  zero_cell zero c v e = none_some v e
  zero_cell (suc n) zero v e = sym (some_cell e)
  zero_cell (suc n) (suc c) v e = zero_cell n c v e

  -- value parameters begin with their arguments
  module _ (l : Level) (fine : types_fine w.program.types ≡ true) (lays : IsLayout w.packed w.program.types w.layout) (few : (v : Cell) (x : ℕ) → ValueIs w z.tags v x → x < 2 ^ 64) where
    -- what is of a form that takes a byte is less than 256
    byte_fits : (f : Form) (c : Cell) (x : ℕ) → fits_byte f ≡ true → Fits p z.tags f c → ValueIs w z.tags c x → x < 256
    byte_fits Truth (Bits n) x is fit value = let e = value.0 in omega (arith, e, fit)
    byte_fits Truth (Pointer o) x is fit value = absurd fit
    byte_fits Truth (Code g) x is fit value = absurd fit
    byte_fits Small (Bits n) x is fit value = let e = value.0 in omega (arith, e, fit)
    byte_fits Small (Pointer o) x is fit value = absurd fit
    byte_fits Small (Code g) x is fit value = absurd fit
    byte_fits Zero c x is fit value = no is
    byte_fits Number c x is fit value = no is
    byte_fits (ToRecord r) c x is fit value = no is
    byte_fits (Routines k) c x is fit value = no is
    byte_fits (Exactly g) c x is fit value = no is

    -- a value parameter's number fits its bytes
    narrow : (k : ℕ) (c : Cell) (x : ℕ) → ((f : Form) → WellFormed.form_of p k ≡ Some f → Fits p z.tags f c) → ValueIs w z.tags c x → x < limit (w.layout.is_small (kind_of p.types k))
    narrow k c x fit value = by (scalar_form (kind_of p.types k)) refl (w.layout.is_small (kind_of p.types k)) (lays.is_small (kind_of p.types k))
      where
        and_right : (a b : Bool) → true ≡ (a && b) → b ≡ true
        and_right a b e = (and_of a b (sym e)).1

        by : (o : Option Form) → scalar_form (kind_of p.types k) ≡ o → (b : Bool) → b ≡ (w.packed && takes_a_byte (kind_of p.types k)) → x < limit b
        by o is false e = few c x value
        by None is true e = no (sym (ap (λ o. fits_byte (form_or_zero o)) is) ∙ and_right w.packed (takes_a_byte (kind_of p.types k)) e)
        by (Some f) is true e = byte_fits f c x (sym (ap (λ o. fits_byte (form_or_zero o)) is) ∙ and_right w.packed (takes_a_byte (kind_of p.types k)) e) (fit f is) value

    abbrev Following : ℕ → List ℕ → Type 0
    Following v us = ((a : ℕ) → a < length us → slice_index args (v + a) ≡ slice_index us a) × (v + length us ≤ length args)

    following_one : (v u : ℕ) (us : List ℕ) → Following v (u ∷ us) → (slice_index args v ≡ u) × ((v < length args) × Following (v + 1) us)
    following_one v u us h =
        let le = h.1 in
        let e : v ≡ v + 0 = omega arith in
        (ap (slice_index args) e ∙ h.0 0 (omega arith), (omega (arith, le), ((λ a lt. let f : v + 1 + a ≡ v + suc a = omega arith in ap (slice_index args) f ∙ h.0 (suc a) (omega (arith, lt))), omega (arith, le))))

    following_two : (v u t : ℕ) (us : List ℕ) → Following v (u ∷ t ∷ us) → Following (v + 2) us
    following_two v u t us h = let one = following_one v u (t ∷ us) h in let two = following_one (v + 1) t us one.1.1 in
        let f : v + 1 + 1 ≡ v + 2 = omega arith in subst (λ n. Following n us) f two.1.1

    one_first : (m : Mode) (k : ℕ) (h : Handed) (us : List ℕ) (v : ℕ) (on : List ℕ → Type 0) (xs ys : Pairs) (o : Option (List Cell)) (cs ds : List Cell) → receives m h o ≡ Some cs → OneIs w l z m k h us on → ((c : Cell) (x : ℕ) → m ≡ OfValue → h ≡ Value c → ValueIs w z.tags c x → x < limit (w.layout.is_small (kind_of p.types k))) → (is_value m ≡ true → is_wide p k ≡ false) → Following v us
        → ((vs : List ℕ) (es : List Cell) → o ≡ Some es → on vs → Following (v + words_by m) vs → Firsts w z args (xs ++ ys) (es ++ ds)) → Firsts w z args (((if is_value m then (k, Some v) ∷ [] else []) ++ xs) ++ ys) (cs ++ ds)
    one_first OfValue k (Value c) (u ∷ us) v on xs ys (Some es) cs ds is h small scalar after more =
        let one = single p k (scalar refl) in
        let f = following_one v u us after in
        subst (λ cs. Firsts w z args ((k, Some v) ∷ (xs ++ ys)) (cs ++ ds)) (sym (value_cells c es cs is)) (
          (
            (λ d e lt at. subst (λ y. ValueIs w z.tags y (slice_index args v)) (only d e c (es ++ ds) (omega (arith, lt, one)) at) (subst (λ y. ValueIs w z.tags c y) (sym f.0) h.0)),
            ((λ wide. no (sym (scalar refl) ∙ wide)), (small c (slice_index args v) refl refl (subst (λ y. ValueIs w z.tags c y) (sym f.0) h.0), f.1.0)),
          ),
          subst (λ n. Firsts w z args (xs ++ ys) (drop n (c ∷ (es ++ ds)))) (sym one) (more us es refl h.1 f.1.1),
        )
      where
        value_cells : (c : Cell) (es cs : List Cell) → Some (c ∷ es) ≡ Some cs → cs ≡ c ∷ es
        value_cells c es cs e = cc

        only : (d : ℕ) (e c : Cell) (es : List Cell) → d < 1 → slice_get (c ∷ es) d ≡ Some e → c ≡ e
        only zero e c es lt at = some_cell at
        only (suc d) e c es lt at = absurd (omega (arith, lt))
    one_first OfValue k (Value c) (u ∷ us) v on xs ys None cs ds is h small scalar after more = none_some cs is
    one_first OfValue k (Addressed a) us v on xs ys o cs ds is h small scalar after more = none_some cs is
    one_first OfValue k (Sized a n) us v on xs ys o cs ds is h small scalar after more = none_some cs is
    one_first OfValue k (Tagged a n) us v on xs ys o cs ds is h small scalar after more = none_some cs is
    one_first OfValue k (Value c) [] v on xs ys o cs ds is h small scalar after more = absurd h
    one_first Place k (Addressed a) (u ∷ us) v on xs ys o cs ds is h small scalar after more = more us cs is h.1 (following_one v u us after).1.1
    one_first OfRecord k (Tagged a t) (u ∷ t2 ∷ us) v on xs ys o cs ds is h small scalar after more = more us cs is h.1.1 (following_two v u t2 us after)
    one_first OfOpen k (Sized a n) (u ∷ t2 ∷ us) v on xs ys o cs ds is h small scalar after more = more us cs is h.1.1 (following_two v u t2 us after)
    one_first _ k _ _ v on xs ys o cs ds is h small scalar after more = absurd h

    values_first : (fs : List (List Form)) (v : ℕ) (xs : List Formal) (hs : List Handed) (us : List ℕ) (ys : Pairs) (cs ds : List Cell) → received xs hs ≡ Some cs → Words w l z xs hs us → AllTaken p fine fs z.tags xs hs → Following v us → all (formal_legal p.types) xs ≡ true → Firsts w z args ys ds → Firsts w z args (value_parameters v xs ++ ys) (cs ++ ds)
    values_first fs v [] [] [] ys cs ds is h taken after legal more = subst (λ cs. Firsts w z args ys (cs ++ ds)) (nothing cs is) more
      where
        nothing : (cs : List Cell) → Some [] ≡ Some cs → [] ≡ cs
        nothing cs e = cc
    values_first fs v [] [] (u ∷ us) ys cs ds is h taken after legal more = absurd h
    values_first fs v [] (x ∷ hs) us ys cs ds is h taken after legal more = absurd h
    values_first fs v (x ∷ xs) [] us ys cs ds is h taken after legal more = absurd h
    values_first fs v (x ∷ xs) (y ∷ hs) us ys cs ds is h taken after legal more =
        let g = and_of (formal_legal p.types x) (all (formal_legal p.types) xs) legal in
        one_first x.mode x.type_number y us v (λ rest. Words w l z xs hs rest) (value_parameters (v + words_by x.mode) xs) ys (received xs hs) cs ds is h (λ c n is_of is_value value. small x.mode x.type_number x.variable y c n is_of is_value taken.0 value) (value_scalar p x g.0) after
        (λ vs es e k following. values_first fs (v + words_by x.mode) xs hs vs ys es ds e k taken.1 following g.1 more)
      where
        small : (m : Mode) (k : ℕ) (var : Bool) (y : Handed) (c : Cell) (n : ℕ) → m ≡ OfValue → y ≡ Value c → Taken p fine fs z.tags m k var y → ValueIs w z.tags c n → n < limit (w.layout.is_small (kind_of p.types k))
        small m k var y c n is_of is_value t value = narrow k c n (subst (λ h. Taken p fine fs z.tags OfValue k var h) is_value (subst (λ m. Taken p fine fs z.tags m k var y) is_of t)) value

    pub all_first : (fs : List (List Form)) (q : Declared) (hs : List Handed) (cs : List Cell) (n : ℕ) → received q.formals hs ≡ Some cs → Words w l z q.formals hs args → AllTaken p fine fs z.tags q.formals hs → all (formal_legal p.types) q.formals ≡ true → Firsts w z args (pairs_of q) (cs ++ replicate n (Bits 0))
    all_first fs q hs cs n is words taken legal = values_first fs 0 q.formals hs args (map (λ k. (k, None)) q.locals) cs (replicate n (Bits 0)) is words taken ((λ a lt. let e : 0 + a ≡ a = omega arith in ap (slice_index args) e), omega arith) legal (zeros_first q.locals (replicate n (Bits 0)) (zero_cell n))

  -- their words are among the arguments
  pub among_firsts : (xs : Pairs) (cs : List Cell) → Firsts w z args xs cs → WordsAmong args xs
  among_firsts [] cs h = tt
  among_firsts (x ∷ xs) cs h = (h.0.1.1.1, among_firsts xs (drop (size p x.0) cs) h.1)

-- the cells of the value parameters
received_cells : (p : Program) (xs : List Formal) (hs : List Handed) (cs : List Cell) → received xs hs ≡ Some cs → all (formal_legal p.types) xs ≡ true → length cs ≡ cells_of_all p.types (map (λ x. x.type_number) (filter (λ x. is_value x.mode) xs))
received_cells p [] [] cs is legal = nothing cs is
  where
    nothing : (cs : List Cell) → Some [] ≡ Some cs → length cs ≡ 0
    nothing cs e = ap length (same cs e)
      where
        same : (cs : List Cell) → Some [] ≡ Some cs → cs ≡ []
        same cs e = cc
received_cells p [] (h ∷ hs) cs is legal = none_some cs is
received_cells p (x ∷ xs) [] cs is legal = none_some cs is
received_cells p (x ∷ xs) (h ∷ hs) cs is legal =
    let g = and_of (formal_legal p.types x) (all (formal_legal p.types) xs) legal in
    by x.mode h (received xs hs) refl is (value_scalar p x g.0) (λ es e. received_cells p xs hs es e g.1)
  where
    some_cells : {es cs : List Cell} → Some es ≡ Some cs → length cs ≡ length es
    some_cells e = ap length (same e)
      where
        same : {es cs : List Cell} → Some es ≡ Some cs → cs ≡ es
        same e = cc

    by : (m : Mode) (h : Handed) (o : Option (List Cell)) → received xs hs ≡ o → receives m h o ≡ Some cs → (is_value m ≡ true → is_wide p x.type_number ≡ false) → ((es : List Cell) → received xs hs ≡ Some es → length es ≡ cells_of_all p.types (map (λ x. x.type_number) (filter (λ x. is_value x.mode) xs)))
        → length cs ≡ cells_of_all p.types (map (λ x. x.type_number) (cond (is_value m) (x ∷ filter (λ x. is_value x.mode) xs) (filter (λ x. is_value x.mode) xs)))
    by OfValue (Value c) (Some es) e is scalar more =
        let f = more es e in let g = some_cells is in
        let one = single p x.type_number (scalar refl) in
        let k = sum_by-cons (λ n. n) (cells p.types x.type_number) (map (cells p.types) (map (λ x. x.type_number) (filter (λ x. is_value x.mode) xs))) in
        omega (arith, f, g, one, k)
    by Place (Addressed a) o e is scalar more = more cs (e ∙ is)
    by OfRecord (Tagged a t) o e is scalar more = more cs (e ∙ is)
    by OfOpen (Sized a n) o e is scalar more = more cs (e ∙ is)
    by OfValue (Value c) None e is scalar more = none_some cs is
    by _ _ o e is scalar more = none_some cs is

pub own_cells : (p : Program) (q : Declared) (hs : List Handed) (cs : List Cell) → received q.formals hs ≡ Some cs → all (formal_legal p.types) q.formals ≡ true → length cs + cells_of_all p.types q.locals ≡ cells_of_all p.types (locals_of q)
own_cells p q hs cs is legal =
    let e = received_cells p q.formals hs cs is legal in
    let f = cells_append p (map (λ x. x.type_number) (filter (λ x. is_value x.mode) q.formals)) q.locals in omega (arith, e, f)

---- The level of a call

abbrev pub no_variable : Variable
no_variable = record { type_number = 0; word = None; site = Register }

-- where descriptors are, and the data of modules, in whatever level
pub record DataPlaced (w : Whole) : Type 0 where
  pub descriptor : (r : ℕ) → w.descriptor r ≡ data_base + within (descriptor_at w.program w.layout r)
  pub text : (l : Level) (o : ℕ) (xs : List ℕ) → slice_get (texts_of w.program.procedures) o ≡ Some xs → (s : Objects) → AddressIs w l (record { area = Strings; object = o; cell = 0 }) (Array (suc (length xs)) (Scalar Small)) (data_base + within (text_at w.program w.layout o)) s
  pub tells : TellsExtensions w
  pub global : (l : Level) (m v k : ℕ) → slice_get (globals_of w.program m) v ≡ Some k → (s : Objects) → AddressIs w l (record { area = Globals; object = suc m; cell = cells_of_all w.program.types (take v (globals_of w.program m)) }) (data_tree w.program.types k) (data_base + global_at w.program w.layout m v) s
  pub done : (l : Level) (s : Objects) → AddressIs w l (record { area = Globals; object = 0; cell = 0 }) (Scalar Truth) (data_base + 0) s

-- a node of a variable of an active call: the call is there
node_there : (packed : Bool) (p : Program) (vs : List (List ℕ)) (o v c b : ℕ) (t : DataTree) → VariableNode packed (map (data_tree p.types) (slice_index_or vs o [])) v c b t → o < length vs
node_there packed p [] o v c b t node = absurd node
node_there packed p (x ∷ vs) zero v c b t node = omega arith
node_there packed p (x ∷ vs) (suc o) v c b t node = let lt = node_there packed p vs o v c b t node in omega (arith, lt)

-- the type of a variable of a call
type_of_tree : (f : ℕ → DataTree) (ks : List ℕ) (v : ℕ) (t : DataTree) → slice_get (map f ks) v ≡ Some t → (k : ℕ) × (slice_get ks v ≡ Some k) × (f k ≡ t)
type_of_tree f [] v t at = none_some t at
type_of_tree f (k ∷ ks) zero t at = (k, refl, some_same (f k) t at)
type_of_tree f (k ∷ ks) (suc v) t at = type_of_tree f ks v t at

module _ (w : Whole) (l : Level) (g : ℕ) (hs : List Handed) (xs : List ℕ) (caller : Frame) where
  abbrev pub q : Declared
  q = declared_of w.program g

  abbrev pub here : Here
  here = here_of w.program w.layout g q

  abbrev pub lent : Mask
  lent = lent_in_body q

  abbrev pub wide : ℕ
  wide = wide_in w.program w.layout (pairs_of q)

  abbrev pub activation : Activation
  activation = record {
    proc = g;
    args = xs;
    handed = hs;
    caller = caller;
    cells = cells_of_all w.program.types (locals_of q);
    bytes = wide + 8 * lent_in w.program lent (pairs_of q);
    own = own_at w.program w.layout l.local lent 0 wide (pairs_of q);
    types = locals_of q;
    count = length (locals_of q);
    in_register = λ x. nat_lt x (length (locals_of q)) && in_register w.program w.layout here (variable_of w.program w.layout here x).site;
    cell = λ x. cells_of_all w.program.types (take x (locals_of q));
  }

  -- the bytes of its local data
  pub zeroed_is : zeroed_bytes w.program w.layout q ≡ wide
  zeroed_is = ap (structured_room w.program.types w.layout) (sym (types_are q)) ∙ wide_bytes w.program w.layout (pairs_of q)

  pub bytes_are : here.bytes ≡ activation.bytes
  bytes_are =
      let e = zeroed_is in
      let f = ap (scalars_lent w.program.types w.layout lent) (sym (types_are q)) ∙ lent_words w.program w.layout lent (pairs_of q) in
      omega (arith, e, f)

  pub variables_are : here.variables ≡ placed w.program.types w.layout lent 0 wide (pairs_of q)
  variables_are = ap (λ n. placed w.program.types w.layout lent 0 n (pairs_of q)) zeroed_is

  -- a variable's type, among its pairs
  pair_type : (v k : ℕ) → slice_get (locals_of q) v ≡ Some k → slice_get (types_in (pairs_of q)) v ≡ Some k
  pair_type v k at = ap (λ ks. slice_get ks v) (types_are q) ∙ at

  module _ (fine : types_fine w.program.types ≡ true) (lays : IsLayout w.packed w.program.types w.layout) where
    among : (v k x : ℕ) → slice_get (locals_of q) v ≡ Some k → activation.own v ≡ Some x → (l.local ≤ x) × (x + tree_bytes w.packed (tree w.program k) ≤ l.local + activation.bytes)
    among v k x type at = elim (own_inside w.program w.packed w.layout fine lays l.local lent 0 wide (pairs_of q) v k x (pair_type v k type) at) [
      | inl h ↦ (let lo = h.0 in let hi = h.1 in (omega (arith, lo), omega (arith, hi)))
      | inr h ↦ (let lo = h.0 in let hi = h.1 in (omega (arith, lo), omega (arith, hi)))
    ]

    pub laid : Laid (ground w) l.local (call_of activation)
    laid = record {
      inside = λ v x t type at.
          let k = type_of_tree (tree w.program) (locals_of q) v t type in
          subst (λ t. (l.local ≤ x) × (x + tree_bytes w.packed t ≤ l.local + activation.bytes)) k.2 (among v k.0 x k.1 at);
      apart = λ v z x y t u type other at to.
          let k = type_of_tree (tree w.program) (locals_of q) v t type in
          let m = type_of_tree (tree w.program) (locals_of q) z u other in
          subst (λ t. (v ≡ z) ⊎ Sides x (tree_bytes w.packed t) y (tree_bytes w.packed u)) k.2 (subst (λ u. (v ≡ z) ⊎ Sides x (tree_bytes w.packed (tree w.program k.0)) y (tree_bytes w.packed u)) m.2
          (own_apart w.program w.packed w.layout fine lays l.local lent 0 wide (pairs_of q) v z k.0 m.0 x y (omega arith) (pair_type v k.0 k.1) (pair_type z m.0 m.1) at to));
      fits = let e = words_fit w.program w.packed w.layout fine lays lent (pairs_of q) in let f = ap (cells_of_all w.program.types) (types_are q) in omega (arith, e, f);
    }

  module _ (s : Objects) where
    abbrev pub u : Level
    u = above l activation s

    pub stacked_above : Stacked l → Stacked u
    stacked_above h = record {
      deep = let d = h.depth in let e = length-append l.sizes (activation.cells ∷ []) in omega (arith, d, e);
      own = λ x lt. let d = h.depth in let e = length-append l.sizes (activation.cells ∷ []) in omega (arith, d, e);
      depth = let d = h.depth in let e = length-append l.sizes (activation.cells ∷ []) in let f = length-append l.types (activation.types ∷ []) in omega (arith, d, e, f);
    }

    below_get : (ks : List ℕ) (x : ℕ) → x < length ks → (k : ℕ) × (slice_get ks x ≡ Some k)
    below_get [] x lt = absurd (omega (arith, lt))
    below_get (k ∷ ks) zero lt = (k, refl)
    below_get (k ∷ ks) (suc x) lt = below_get ks x (omega (arith, lt))

    pub type_at : (x : ℕ) → x < length (locals_of q) → (k : ℕ) × (slice_get (types_in (pairs_of q)) x ≡ Some k)
    type_at x lt = let e = ap length (types_are q) in below_get (types_in (pairs_of q)) x (omega (arith, lt, e))

    pub cell_is : (x : ℕ) → activation.cell x ≡ first w.program (pairs_of q) x
    cell_is x = ap (λ ks. cells_of_all w.program.types (take x ks)) (sym (types_are q))

    abbrev SiteOf : (fine : types_fine w.program.types ≡ true) (lays : IsLayout w.packed w.program.types w.layout) (x k : ℕ) → Site → Type 0
    SiteOf fine lays x k site = SiteIs w.program w.packed w.layout fine lays l.local (activation.own x) k site

    -- where each variable is
    site_at : (fine : types_fine w.program.types ≡ true) (lays : IsLayout w.packed w.program.types w.layout) (x k : ℕ) → slice_get (types_in (pairs_of q)) x ≡ Some k → SiteOf fine lays x k (variable_of w.program w.layout here x).site
    site_at fine lays x k at = subst (λ vs. SiteOf fine lays x k (slice_index_or vs x no_variable).site) (sym variables_are) (site_is w.program w.packed w.layout fine lays l.local lent 0 wide (pairs_of q) x k no_variable at)

    in_site : (x : ℕ) → activation.in_register x ≡ true → in_register w.program w.layout here (variable_of w.program w.layout here x).site ≡ true
    in_site x reg = (and_of (nat_lt x (length (locals_of q))) (in_register w.program w.layout here (variable_of w.program w.layout here x).site) reg).1

    module _ (fine : types_fine w.program.types ≡ true) (lays : IsLayout w.packed w.program.types w.layout) (depth : length l.types ≡ length l.sizes) where
      -- where one of its variables begins
      own_begins : (x : ℕ) → u.slot u.frame x ≡ activation.own x
      own_begins x = own_slot (ground w) (active l) (call_of activation) depth (length l.types) x refl

      -- the types of its variables
      pub own_types : slice_index_or u.types u.frame [] ≡ locals_of q
      own_types = own_is w.program w.packed l.types (locals_of q)

      own_node : (x k : ℕ) → slice_get (locals_of q) x ≡ Some k → VariableNode w.packed (map (data_tree w.program.types) (slice_index_or u.types u.frame [])) x (activation.cell x) 0 (data_tree w.program.types k)
      own_node x k at = subst (λ ks. VariableNode w.packed (map (data_tree w.program.types) ks) x (activation.cell x) 0 (data_tree w.program.types k)) (sym own_types) (own_variable w.program w.packed (locals_of q) x k at)

      pub apart_above : Apart w u
      apart_above = record {
        registers = λ x lt reg. let k = type_at x lt in elim (site_at fine lays x k.0 k.1) [
          | inl h ↦ own_begins x ∙ h.2
          | inr h ↦ no (sym (ap (in_register w.program w.layout here) h.1) ∙ in_site x reg)
        ];
        scalars = λ x lt reg. let k = type_at x lt in elim (site_at fine lays x k.0 k.1) [
          | inl h ↦ (
            form_in w.program k.0,
            subst (λ t. VariableNode w.packed (map (data_tree w.program.types) (slice_index_or u.types u.frame [])) x (activation.cell x) 0 t) (scalar_tree w.program w.packed w.layout fine lays k.0 h.1)
                (own_node x k.0 (sym (ap (λ ks. slice_get ks x) (types_are q)) ∙ k.1)),
          )
          | inr h ↦ no (sym (ap (in_register w.program w.layout here) h.1) ∙ in_site x reg)
        ];
        cells = λ x y ne lt less reg reg2 e.
            let k = type_at x lt in let j = type_at y less in
            ⊎_elim (λ (up : x < y). differs x y k.0 k.1 up reg (sym (cell_is x) ∙ e ∙ cell_is y))
            (λ (ge : y ≤ x). differs y x j.0 j.1 (strictly x y ne ge) reg2 (sym (cell_is y) ∙ sym e ∙ cell_is x)) (cases_lt x y);
      }
        where
          strictly : (x y : ℕ) → x ≢ y → y ≤ x → y < x
          strictly x y ne le = ⊎_elim (λ (lt : y < x). lt) (λ (ge : x ≤ y). absurd (ne (omega (arith, ge, le)))) (cases_lt y x)

          differs : (x y k : ℕ) → slice_get (types_in (pairs_of q)) x ≡ Some k → x < y → activation.in_register x ≡ true → first w.program (pairs_of q) x ≡ first w.program (pairs_of q) y → ⊥
          differs x y k at lt reg e =
              let grows = first_grows w.program (pairs_of q) x y k lt at in
              elim (site_at fine lays x k at) [
                | inl h ↦ (let one = single w.program k h.1 in absurd (omega (arith, grows, one, e)))
                | inr h ↦ no (sym (ap (in_register w.program w.layout here) h.1) ∙ in_site x reg)
              ]

      pub variables_above : DataPlaced w → l.local + activation.bytes ≤ heap_base → Variables w u
      variables_above placed_data few = record {
        cell = λ x. refl;
        count = refl;
        local = λ x k at. by x k at (there (locals_of q) x k at) (site_at fine lays x k (pair_type x k at));
        global = λ m v k at t. placed_data.global u m v k at t;
        descriptor = placed_data.descriptor;
        text = λ o xs is t. placed_data.text u o xs is t;
        types = own_types;
        tells = placed_data.tells;
        done = λ t. placed_data.done u t;
      }
        where
          there : (ks : List ℕ) (x k : ℕ) → slice_get ks x ≡ Some k → nat_lt x (length ks) ≡ true
          there ks x k at = less x (length ks) (below ks x k at)
            where
              less : (a b : ℕ) → a < b → nat_lt a b ≡ true
              less a b h = grind (arith, nat_tests)

              below : (ks : List ℕ) (x k : ℕ) → slice_get ks x ≡ Some k → x < length ks
              below [] x k e = none_some k e
              below (y ∷ ks) zero k e = omega arith
              below (y ∷ ks) (suc x) k e = let h = below ks x k e in omega (arith, h)

          outside : (b : Bool) → (b && false) ≡ false
          outside true = refl
          outside false = refl

          by : (x k : ℕ) → slice_get (locals_of q) x ≡ Some k → nat_lt x (length (locals_of q)) ≡ true → SiteOf fine lays x k (variable_of w.program w.layout here x).site → LocalIs w u x k
          by x k at lt (inl h) = inl (h.0, ap₂ (λ a b. a && b) lt (ap (in_register w.program w.layout here) h.0), h.1)
          by x k at lt (inr h) =
              let inside = among fine lays x k (l.local + h.0) at h.2 in
              let low = inside.0 in let high = inside.1 in let bytes = bytes_are in inr (
                h.0,
                h.1,
                ap (λ s. nat_lt x (length (locals_of q)) && in_register w.program w.layout here s) h.1 ∙ outside (nat_lt x (length (locals_of q))),
                λ t. record {
                  variable = x;
                  byte = 0;
                  from = l.local + h.0;
                  node = own_node x k at;
                  begins = own_begins x ∙ h.2;
                  is = omega (arith, high, bytes, few);
                },
              )

    -- a variable whose address is made is in memory
    pub lent_above : (x : ℕ) → lent x ≡ true → u.in_register x ≡ false
    lent_above x e = by (nat_lt x (length (locals_of q))) refl
      where
        less : (a b : ℕ) → nat_lt a b ≡ true → a < b
        less a b h = grind (arith, nat_tests)

        by : (t : Bool) → nat_lt x (length (locals_of q)) ≡ t → (t && in_register w.program w.layout here (variable_of w.program w.layout here x).site) ≡ false
        by false h = refl
        by true h = subst (λ vs. in_register w.program w.layout here (slice_index_or vs x no_variable).site ≡ false) (sym variables_are) (lent_memory w.program w.layout here lent 0 wide (pairs_of q) x no_variable e (let f = ap length (types_are q) in let lt = less x (length (locals_of q)) h in omega (arith, f, lt)))

    -- addresses that were handed over
    address_above : Stacked l → (cs : List Cell) (t : Objects) (a : Address) (d : DataTree) (x : ℕ) → AddressIs w l a d x t → AddressIs w u a d x (with_frame cs t)
    address_above stacked cs t a d x h = record {
      variable = h.variable;
      byte = h.byte;
      from = h.from;
      node = trees_push w.program w.packed l.types (locals_of q) t.tags a.area a.object h.variable a.cell h.byte d h.node;
      begins = moved a.area a.object h.variable a.cell h.byte d h.from h.node h.begins;
      is = h.is;
    }
      where
        moved : (area : Kind_of_area) (o v c b : ℕ) (d : DataTree) (i : ℕ) → VariableNode w.packed (trees (ground w) (active l) t.tags area o) v c b d → start (ground w) (active l) t.tags area o v ≡ Some i → start (ground w) (active u) t.tags area o v ≡ Some i
        moved Globals o v c b d i node e = e
        moved Heap o v c b d i node e = e
        moved Strings o v c b d i node e = e
        moved Frames o v c b d i node e =
            let lt = node_there w.packed w.program l.types o v c b d node in
            other_slot (ground w) (active l) (call_of activation) stacked.depth o v (λ f. absurd (omega (arith, f, lt))) ∙ e

    -- parameters that are addresses
    module _ (good : types_fine w.program.types ≡ true) (stacked : Stacked l) (cs : List Cell) (t : Objects) (n : ℕ) (f : ℕ → ℕ) where
      abbrev Holding : ℕ → List ℕ → Type 0
      Holding v us = ((a : ℕ) → a < length us → f (v + a) ≡ slice_index us a) × (v + length us ≤ n)

      one_given : (m : Mode) (k : ℕ) (var : Bool) (h : Handed) (us : List ℕ) (on : List ℕ → Type 0) (v : ℕ) (d : Thing) → OneIs w l t m k h us on → WellFormed.parameter_by w.program m k var ≡ Some d → Holding v us → NamedIs w u none d h (by_mode m v) n f (with_frame cs t)
      one_given OfValue k var h us on v d words is holding = none_some d is
      one_given Place k var (Addressed a) (x ∷ us) on v d words is holding =
          let le = holding.1 in let e : v ≡ v + 0 = omega arith in
          subst (λ d. NamedIs w u none d (Addressed a) (At v) n f (with_frame cs t)) (some_same (Of k var) d is)
          (omega (arith, le), (a, refl, subst (λ y. AddressIs w u a (data_tree w.program.types k) y (with_frame cs t)) (sym (ap f e ∙ holding.0 0 (omega arith))) (address_above stacked cs t a (data_tree w.program.types k) x words.0)))
      one_given OfRecord k var (Tagged a r) (x ∷ y ∷ us) on v d words is holding =
          let le = holding.1 in let e : v ≡ v + 0 = omega arith in let e2 : suc v ≡ v + 1 = omega arith in
          let z = with_is w.program good (record_by (kind_of w.program.types k)) (λ r. Some (Dynamic r)) d is in
          subst (λ d. NamedIs w u none d (Tagged a r) (Beside v (suc v)) n f (with_frame cs t)) (some_same (Dynamic z.0) d z.2) (
            omega (arith, le),
            (
              omega (arith, le),
              (
                a,
                refl,
                subst (λ y. AddressIs w u a (Record (record_row w.program.types r)) y (with_frame cs t)) (sym (ap f e ∙ holding.0 0 (omega arith))) (address_above stacked cs t a (Record (record_row w.program.types r)) x words.0),
                subst (λ y. SecondIs w u (Tagged a r) y) (sym (ap f e2 ∙ holding.0 1 (omega arith))) words.1.0,
              ),
            ),
          )
      one_given OfOpen k var (Sized a m) (x ∷ y ∷ us) on v d words is holding =
          let le = holding.1 in let e : v ≡ v + 0 = omega arith in let e2 : suc v ≡ v + 1 = omega arith in
          let z = with_is w.program good (open_element (kind_of w.program.types k)) (λ e. Some (OpenOf e var)) d is in
          subst (λ d. NamedIs w u none d (Sized a m) (Beside v (suc v)) n f (with_frame cs t)) (some_same (OpenOf z.0 var) d z.2) (
            omega (arith, le),
            (
              omega (arith, le),
              (
                a,
                refl,
                subst (λ y. AddressIs w u a (Array m (data_tree w.program.types z.0)) y (with_frame cs t)) (sym (ap f e ∙ holding.0 0 (omega arith))) (address_above stacked cs t a (Array m (data_tree w.program.types z.0)) x (words.0 z.0 z.1)),
                ap f e2 ∙ holding.0 1 (omega arith) ∙ words.1.0,
              ),
            ),
          )
      one_given _ k var _ _ on v d words is holding = absurd words

      one_on : (v x : ℕ) (us : List ℕ) → Holding v (x ∷ us) → Holding (v + 1) us
      one_on v x us h = let le = h.1 in ((λ a lt. let e : v + 1 + a ≡ v + suc a = omega arith in ap f e ∙ h.0 (suc a) (omega (arith, lt))), omega (arith, le))

      two_on : (v x y : ℕ) (us : List ℕ) → Holding v (x ∷ y ∷ us) → Holding (v + 2) us
      two_on v x y us h = let le = h.1 in ((λ a lt. let e : v + 2 + a ≡ v + suc (suc a) = omega arith in ap f e ∙ h.0 (suc (suc a)) (omega (arith, lt))), omega (arith, le))

      -- the words behind an argument's
      behind_one : (m : Mode) (k : ℕ) (h : Handed) (us : List ℕ) (on : List ℕ → Type 0) (v : ℕ) → OneIs w l t m k h us on → Holding v us → (vs : List ℕ) × on vs × Holding (v + words_by m) vs
      behind_one OfValue k (Value c) (x ∷ us) on v words holding = (us, words.1, one_on v x us holding)
      behind_one Place k (Addressed a) (x ∷ us) on v words holding = (us, words.1, one_on v x us holding)
      behind_one OfRecord k (Tagged a r) (x ∷ y ∷ us) on v words holding = (us, words.1.1, two_on v x y us holding)
      behind_one OfOpen k (Sized a m) (x ∷ y ∷ us) on v words holding = (us, words.1.1, two_on v x y us holding)
      behind_one _ k _ _ on v words holding = absurd words

      all_given : (ys : List Formal) (hs : List Handed) (us : List ℕ) (v i : ℕ) (x : Formal) (h : Handed) (d : Thing) → Words w l t ys hs us → Holding v us → slice_get ys i ≡ Some x → slice_get hs i ≡ Some h → WellFormed.parameter_by w.program x.mode x.type_number x.variable ≡ Some d
          → NamedIs w u none d h (by_mode x.mode (v + words_of (take i ys))) n f (with_frame cs t)
      all_given [] hs us v i x h d words holding at is by = none_some x at
      all_given (y ∷ ys) [] us v i x h d words holding at is by = absurd words
      all_given (y ∷ ys) (g ∷ gs) us v zero x h d words holding at is by =
          let e : v ≡ v + 0 = omega arith in
          subst (λ a. NamedIs w u none d h (by_mode x.mode a) n f (with_frame cs t)) e
          (subst (λ h. NamedIs w u none d h (by_mode x.mode v) n f (with_frame cs t)) (some_same g h is)
          (subst (λ (z : Formal). WellFormed.parameter_by w.program z.mode z.type_number z.variable ≡ Some d → NamedIs w u none d g (by_mode z.mode v) n f (with_frame cs t)) (some_same y x at)
          (λ e. one_given y.mode y.type_number y.variable g us (λ rest. Words w l t ys gs rest) v d words e holding) by))
      all_given (y ∷ ys) (g ∷ gs) us v (suc i) x h d words holding at is by =
          let z = behind_one y.mode y.type_number g us (λ rest. Words w l t ys gs rest) v words holding in
          let e : v + words_by y.mode + words_of (take i ys) ≡ v + words_of (take (suc i) (y ∷ ys)) = let k = sum_by-cons (λ (x : Formal). words_by x.mode) y (take i ys) in omega (arith, k) in
          subst (λ a. NamedIs w u none d h (by_mode x.mode a) n f (with_frame cs t)) e (all_given ys gs z.0 (v + words_by y.mode) i x h d z.1 z.2 at is by)

      pub given_above : Words w l t q.formals hs xs → ((a : ℕ) → a < length xs → f a ≡ slice_index xs a) → length xs ≤ n → Given w u n f (with_frame cs t)
      given_above words values le i x h d at is by = let z : 0 + words_of (take i q.formals) ≡ words_of (take i q.formals) = omega arith in subst (λ a. NamedIs w u none d h (by_mode x.mode a) n f (with_frame cs t)) z (all_given q.formals hs xs 0 i x h d words ((λ a lt. let e : 0 + a ≡ a = omega arith in ap f e ∙ values a lt), omega (arith, le)) at is by)
