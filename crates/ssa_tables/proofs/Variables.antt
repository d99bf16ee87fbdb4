-- A procedure's variables: what is declared, whose addresses are made, and where they stand.
use Rattle.std.proofs.Common.{◌≡◌, ◌≢◌, ℕ, zero, suc, ◌+◌, ◌*◌, ◌<◌, ◌≤◌, List, [], ◌∷◌, ◌++◌, map, drop, set, replicate, length, get_or, Bool, true, false, cond, not, ◌||◌, ◌&&◌, Option, Some, None, eqb-true, refl, sym, ap, ap₂, ◌∙◌, subst, arith, append_assoc}
use Rattle.std.specs.Prelude.{◌==◌, if◌then◌else◌}
use Rattle.std.specs.List.{sum_by, filter}
use Rattle.std.proofs.lemmas.Bool.{eq-eqb}
use Rattle.std.proofs.lemmas.List.{drop_more, get_or-set_same, get_or-set_other, length-set, get_or-replicate}
use Rattle.std.proofs.lemmas.List.Sums.{sum_by-cons}
use Rattle.ob_types.specs.Table.{Table}
use Rattle.ob_types.specs.Layout.{kind_of, cells, cells_by, cells_within, record_within, cells_of_all}
use Rattle.ob_types.specs.Meaning.{is_value, locals_of}
use Rattle.ob_types.specs.declared.types.TypeKind.{TypeKind}
use Rattle.ob_types.specs.declared.types.TypeKind.TheVariants.{Array}
use Rattle.ob_types.specs.declared.types.TypeKind.TheVariants.{Record as RecordOf}
use Rattle.ob_types.specs.declared.types.Formal.{Formal}
use Rattle.ob_types.specs.declared.program.Procedure.{Procedure}
use Rattle.ob_types.specs.declared.program.Program.{Program}
use Rattle.ob_types.proofs.Tests.{no}
use Rattle.ssa_assigned.specs.Assigned.{has}
use Rattle.ssa_assigned.proofs.Noting.{or_assoc, or_false}
use Rattle.ssa_lowered.specs.Data.{Layout, layout, room, rounded, within}
use Rattle.ssa_lowered.specs.Pieces.{Mask, rest}
use Rattle.ssa_lowered.specs.Lowered.{lent_in_body}
use Rattle.ssa_lowered.specs.Variables.{Site, Register, Memory, is_structured, structured_room, scalars_lent, placed, value_parameters, words_by}
use Rattle.ssa_lowered.specs.Variables.{Variable as VariableThere}
use Rattle.ssa_tables.specs.Places.{finish, size_by, room_by, type_cells_by}
use Rattle.ssa_tables.specs.Local.{pair_of, declared_in, seen, marked, place_in, ends_behind, placed_by, ends_by, structured_size, AreLocals}
use Rattle.ssa_tables.specs.declared.locals.Variable.{Variable}
use Rattle.ssa_tables.specs.declared.locals.Locals.{Locals}
use Rattle.ssa_tables.specs.declared.locals.Ends.{Ends}
use Rattle.ssa_tables.proofs.Placing.{finish_is}
use Rattle.ssa_tables.proofs.Rooms.{room_few}

abbrev type_in : Variable → ℕ
type_in v = v.type_number

---- What is declared

one_parameter : (b : Bool) (n w : ℕ) (vs : List (ℕ × Option ℕ)) (x : Formal) (xs : List Formal) → map (λ y. y.0) vs ≡ map (λ (y : Formal). y.type_number) xs → map (λ y. y.0) ((if b then (x.type_number, Some w) ∷ [] else []) ++ vs) ≡ map (λ (y : Formal). y.type_number) (cond b (x ∷ xs) xs)
one_parameter true n w vs x xs e = ap (λ ks. x.type_number ∷ ks) e
one_parameter false n w vs x xs e = e

value_types : (w : ℕ) (xs : List Formal) → map (λ y. y.0) (value_parameters w xs) ≡ map (λ (y : Formal). y.type_number) (filter (λ y. is_value y.mode) xs)
value_types w [] = refl
value_types w (x ∷ xs) = one_parameter (is_value x.mode) 0 w (value_parameters (w + words_by x.mode) xs) x (filter (λ y. is_value y.mode) xs) (value_types (w + words_by x.mode) xs)

map_append : {A B : Type 0} (f : A → B) (xs ys : List A) → map f (xs ++ ys) ≡ map f xs ++ map f ys
map_append f [] ys = refl
map_append f (x ∷ xs) ys = ap (λ l. f x ∷ l) (map_append f xs ys)

local_types : (ks : List ℕ) → map (λ (y : ℕ × Option ℕ). y.0) (map (λ k. (k, None)) ks) ≡ ks
local_types [] = refl
local_types (k ∷ ks) = ap (λ l. k ∷ l) (local_types ks)

pair_types : (vs : List Variable) → map type_in vs ≡ map (λ y. y.0) (map pair_of vs)
pair_types [] = refl
pair_types (v ∷ vs) = ap (λ l. v.type_number ∷ l) (pair_types vs)

pub declared_types : (q : Procedure) (vs : List Variable) → map pair_of vs ≡ declared_in q → map type_in vs ≡ locals_of q
declared_types q vs is =
    pair_types vs
    ∙ ap (λ l. map (λ (y : ℕ × Option ℕ). y.0) l) is
    ∙ map_append (λ (y : ℕ × Option ℕ). y.0) (value_parameters 0 q.formals) (map (λ k. (k, None)) q.locals)
    ∙ ap₂ (λ a b. a ++ b) (value_types 0 q.formals) (local_types q.locals)

---- Marks

pub marked_length : (xs : List ℕ) (ms : List Bool) → length (marked xs ms) ≡ length ms
marked_length [] ms = refl
marked_length (x ∷ xs) ms = marked_length xs (set ms x true) ∙ length-set ms x true

set_at : (ms : List Bool) (y x : ℕ) → x < length ms → get_or (set ms y true) x false ≡ (get_or ms x false || (y == x))
set_at ms y x lt = by (y == x) refl
  where
    or_true : (b : Bool) → (b || true) ≡ true
    or_true true = refl
    or_true false = refl

    other : (y == x) ≡ false → x ≢ y
    other is e = absurd (bad (sym (ap (λ n. n == x) e) ∙ eq-eqb x x refl))
      where
        bad : (y == x) ≡ true → ⊥
        bad h = no (sym is ∙ h)

    by : (b : Bool) → (y == x) ≡ b → get_or (set ms y true) x false ≡ (get_or ms x false || b)
    by true is = ap (λ n. get_or (set ms n true) x false) (eqb-true y x is) ∙ get_or-set_same ms x true false lt ∙ sym (or_true (get_or ms x false))
    by false is = get_or-set_other ms y x true false (other is) ∙ sym (or_false (get_or ms x false))

marked_on : (xs : List ℕ) (ms : List Bool) (x : ℕ) → x < length ms → get_or (marked xs ms) x false ≡ (get_or ms x false || has xs x)
marked_on [] ms x lt = sym (or_false (get_or ms x false))
marked_on (y ∷ ys) ms x lt =
    marked_on ys (set ms y true) x (subst (λ n. x < n) (sym (length-set ms y true)) lt)
    ∙ ap (λ b. b || has ys x) (set_at ms y x lt)
    ∙ or_assoc (get_or ms x false) (y == x) (has ys x)

length_replicate : (n : ℕ) → length (replicate n false) ≡ n
length_replicate zero = refl
length_replicate (suc n) = ap suc (length_replicate n)

pub marks_length : (xs : List ℕ) (n : ℕ) → length (marked xs (replicate n false)) ≡ n
marks_length xs n = marked_length xs (replicate n false) ∙ length_replicate n

pub marks_at : (xs : List ℕ) (n x : ℕ) → x < n → get_or (marked xs (replicate n false)) x false ≡ has xs x
marks_at xs n x lt =
    marked_on xs (replicate n false) x (subst (λ k. x < k) (sym (length_replicate n)) lt)
    ∙ ap (λ b. b || has xs x) (get_or-replicate n x false false lt)

pub marked_more : (xs : List ℕ) (i x : ℕ) (old new all : List Bool) → i < length xs → x ≡ get_or xs i x → new ≡ set old x true → marked (drop i xs) old ≡ all → marked (drop (i + 1) xs) new ≡ all
marked_more xs i x old new all lt is more before =
    let e : drop i xs ≡ x ∷ drop (i + 1) xs = drop_more xs i x lt ∙ ap (λ y. y ∷ drop (i + 1) xs) (sym is) in
    ap (λ ms. marked (drop (i + 1) xs) ms) more ∙ sym (ap (λ ys. marked ys old) e) ∙ before

pub set_past : (ms : List Bool) (x : ℕ) → length ms ≤ x → set ms x true ≡ ms
set_past [] x le = refl
set_past (m ∷ ms) zero le = absurd (omega (arith, le))
set_past (m ∷ ms) (suc x) le = ap (λ l. m ∷ l) (set_past ms x (omega (arith, le)))

---- Places

single_by : (f w : ℕ → ℕ) (kind : TypeKind) → is_structured kind ≡ false → cells_by f w kind ≡ 1
single_by f w (Array n e) h = no (sym h)
single_by f w (RecordOf r) h = no (sym h)
single_by f w _ h = refl

module _ (t : Table) (sizes : List ℕ) (known : (k : ℕ) → size_by sizes k ≡ (layout t).bytes k) where
  abbrev l : Layout
  l = layout t

  room_is : (k : ℕ) → room l k ≡ room_by sizes k
  room_is k = ap rounded (sym (known k))

  -- how many cells are scalars in memory, one of which is this
  abbrev scalar : Mask → ℕ → ℕ
  scalar lent k = cond (lent 0 && not (is_structured (kind_of t k))) 1 0

  sizes_cons : (k : ℕ) (ks : List ℕ) → structured_room t l (k ∷ ks) ≡ (if is_structured (kind_of t k) then room l k else 0) + structured_room t l ks
  sizes_cons k ks = sum_by-cons (λ j. if is_structured (kind_of t j) then room l j else 0) k ks

  one_fits : (k : ℕ) (b lent : Bool) → is_structured (kind_of t k) ≡ b → (if b then room l k else 0) + 8 * cond (lent && not b) 1 0 ≤ 8 * cells t k
  one_fits k true true is = let e = room_few t k in omega (arith, e)
  one_fits k true false is = let e = room_few t k in omega (arith, e)
  one_fits k false true is = let e : cells t k ≡ 1 = single_by (cells_within t (length t.kinds + length t.records)) (record_within t (length t.kinds + length t.records)) (kind_of t k) is in omega (arith, e)
  one_fits k false false is = omega arith

  -- what is in memory is part of all variables
  pub memory_fits : (lent : Mask) (ks : List ℕ) → structured_room t l ks + 8 * scalars_lent t l lent ks ≤ 8 * cells_of_all t ks
  memory_fits lent [] = omega arith
  memory_fits lent (k ∷ ks) =
      let one = one_fits k (is_structured (kind_of t k)) (lent 0) refl in
      let more = memory_fits (rest lent) ks in
      let a = sizes_cons k ks in
      let b = sum_by-cons (λ x. x) (cells t k) (map (cells t) ks) in
      omega (arith, one, more, a, b)

  structured_bytes : (vs : List Variable) → sum_by (structured_size t sizes) vs ≡ structured_room t l (map type_in vs)
  structured_bytes [] = refl
  structured_bytes (v ∷ vs) =
      sum_by-cons (structured_size t sizes) v vs
      ∙ ap₂ (λ a b. (if is_structured (kind_of t v.type_number) then a else 0) + b) (sym (room_is v.type_number)) (structured_bytes vs)
      ∙ sym (sizes_cons v.type_number (map type_in vs))

  pub structured_finish_is : (vs : List Variable) → structured_room t l (map type_in vs) ≤ 8388608 → finish (structured_size t sizes) 0 vs ≡ structured_room t l (map type_in vs)
  structured_finish_is vs few = let e = structured_bytes vs in finish_is (structured_size t sizes) 0 vs (omega arith) ∙ (omega (arith, e, few))

  -- variables one after the other, where all that is in memory is in range
  abbrev Range : Mask → ℕ → ℕ → List Variable → Type 0
  Range lent a b vs = (a + structured_room t l (map type_in vs) ≤ 16777215) × (b + 8 * scalars_lent t l lent (map type_in vs) ≤ 16777215)

  abbrev Marks : List Bool → Mask → List Variable → Type 0
  Marks ms lent vs = (i : ℕ) → i < length vs → get_or ms i false ≡ lent i

  abbrev ends : ℕ → ℕ → Ends
  ends a b = record { structured = a; scalar = b }

  -- where the next ones stand
  range_on : (lent : Mask) (a b : ℕ) (v : Variable) (vs : List Variable) (s m : Bool) → is_structured (kind_of t v.type_number) ≡ s → m ≡ lent 0 → Range lent a b (v ∷ vs)
      → ends_behind s m (room_by sizes v.type_number) (ends a b) ≡ (if s then ends (a + room l v.type_number) b else (if m then ends a (b + 8) else ends a b))
  range_on lent a b v vs true m is same range =
      let one = sizes_cons v.type_number (map type_in vs) ∙ ap (λ z. (if z then room l v.type_number else 0) + structured_room t l (map type_in vs)) is in
      let e = room_is v.type_number in
      let n : within (a + room_by sizes v.type_number) ≡ a + room l v.type_number = omega (arith, one, e, range.0) in
      ap (λ z. ends z b) n
  range_on lent a b v vs false true is same range =
      let one : scalars_lent t l lent (map type_in (v ∷ vs)) ≡ 1 + scalars_lent t l (rest lent) (map type_in vs) = ap₂ (λ x y. cond (x && not y) 1 0 + scalars_lent t l (rest lent) (map type_in vs)) (sym same) is in
      let n : within (b + 8) ≡ b + 8 = omega (arith, one, range.1) in
      ap (λ z. ends a z) n
  range_on lent a b v vs false false is same range = refl

  range_rest : (lent : Mask) (a b : ℕ) (v : Variable) (vs : List Variable) (s m : Bool) → is_structured (kind_of t v.type_number) ≡ s → m ≡ lent 0 → Range lent a b (v ∷ vs)
      → Range (rest lent) (if s then a + room l v.type_number else a) (if s then b else (if m then b + 8 else b)) vs
  range_rest lent a b v vs true m is same range =
      let one = sizes_cons v.type_number (map type_in vs) ∙ ap (λ z. (if z then room l v.type_number else 0) + structured_room t l (map type_in vs)) is in
      (omega (arith, one, range.0), omega (arith, range.1))
  range_rest lent a b v vs false true is same range =
      let one = sizes_cons v.type_number (map type_in vs) ∙ ap (λ z. (if z then room l v.type_number else 0) + structured_room t l (map type_in vs)) is in
      let two : scalars_lent t l lent (map type_in (v ∷ vs)) ≡ 1 + scalars_lent t l (rest lent) (map type_in vs) = ap₂ (λ x y. cond (x && not y) 1 0 + scalars_lent t l (rest lent) (map type_in vs)) (sym same) is in
      (omega (arith, one, range.0), omega (arith, two, range.1))
  range_rest lent a b v vs false false is same range =
      let one = sizes_cons v.type_number (map type_in vs) ∙ ap (λ z. (if z then room l v.type_number else 0) + structured_room t l (map type_in vs)) is in
      (omega (arith, one, range.0), omega (arith, range.1))

  -- a variable that is placed, and the variables behind it, by whether it is structured and whether its address is made
  abbrev there : Variable → Site → VariableThere
  there v where_it_is = record { type_number = v.type_number; word = v.word; site = where_it_is }

  abbrev whole : Mask → Variable → List Variable → ℕ → ℕ → Bool → Bool → List VariableThere
  whole lent v vs a b x y =
      if x then there v (Memory a) ∷ placed t l (rest lent) (a + room l v.type_number) b (map pair_of vs)
      else if y then there v (Memory b) ∷ placed t l (rest lent) a (b + 8) (map pair_of vs)
      else there v Register ∷ placed t l (rest lent) a b (map pair_of vs)

  abbrev behind : List Bool → List Variable → Ends → List VariableThere
  behind ms vs e = map seen (placed_by t sizes ms e vs)

  abbrev end_behind : List Bool → List Variable → Ends → ℕ
  end_behind ms vs e = (ends_by t sizes ms e vs).scalar

  -- a variable's place, and those of the variables behind it
  one_placed : (ms : List Bool) (lent : Mask) (v : Variable) (vs : List Variable) (a b : ℕ) → Range lent a b (v ∷ vs)
      → ((c d : ℕ) → Range (rest lent) c d vs → map seen (placed_by t sizes ms (ends c d) vs) ≡ placed t l (rest lent) c d (map pair_of vs))
      → (s n : Bool) → is_structured (kind_of t v.type_number) ≡ s → n ≡ lent 0
      → seen (record v { place = place_in s n (ends a b) }) ∷ map seen (placed_by t sizes ms (ends_behind s n (room_by sizes v.type_number) (ends a b)) vs) ≡ placed t l lent a b (map pair_of (v ∷ vs))
  one_placed ms lent v vs a b range more s n is at = by s n is at ∙ sym (ap₂ (whole lent v vs a b) is (sym at))
    where
      by : (x y : Bool) → is_structured (kind_of t v.type_number) ≡ x → y ≡ lent 0 → seen (record v { place = place_in x y (ends a b) }) ∷ behind ms vs (ends_behind x y (room_by sizes v.type_number) (ends a b)) ≡ whole lent v vs a b x y
      by true y is at = ap (λ r. there v (Memory a) ∷ r) (ap (behind ms vs) (range_on lent a b v vs true y is at range) ∙ more (a + room l v.type_number) b (range_rest lent a b v vs true y is at range))
      by false true is at = ap (λ r. there v (Memory b) ∷ r) (ap (behind ms vs) (range_on lent a b v vs false true is at range) ∙ more a (b + 8) (range_rest lent a b v vs false true is at range))
      by false false is at = ap (λ r. there v Register ∷ r) (more a b (range_rest lent a b v vs false false is at range))

  pub placed_is : (ms : List Bool) (lent : Mask) (vs : List Variable) (a b : ℕ) → length ms ≡ length vs → Marks ms lent vs → Range lent a b vs → map seen (placed_by t sizes ms (ends a b) vs) ≡ placed t l lent a b (map pair_of vs)
  placed_is [] lent [] a b same marks range = refl
  placed_is [] lent (v ∷ vs) a b same marks range = absurd (omega (arith, same))
  placed_is (m ∷ ms) lent [] a b same marks range = refl
  placed_is (m ∷ ms) lent (v ∷ vs) a b same marks range =
      one_placed ms lent v vs a b range (λ c d r. placed_is ms (rest lent) vs c d (omega (arith, same)) (λ i lt. marks (suc i) (omega (arith, lt))) r) (is_structured (kind_of t v.type_number)) m refl (marks 0 (omega arith))

  one_end : (ms : List Bool) (lent : Mask) (v : Variable) (vs : List Variable) (a b : ℕ) → Range lent a b (v ∷ vs)
      → ((c d : ℕ) → Range (rest lent) c d vs → (ends_by t sizes ms (ends c d) vs).scalar ≡ d + 8 * scalars_lent t l (rest lent) (map type_in vs))
      → (s n : Bool) → is_structured (kind_of t v.type_number) ≡ s → n ≡ lent 0
      → (ends_by t sizes ms (ends_behind s n (room_by sizes v.type_number) (ends a b)) vs).scalar ≡ b + 8 * scalars_lent t l lent (map type_in (v ∷ vs))
  one_end ms lent v vs a b range more s n is at = by s n is at
    where
      by : (x y : Bool) → is_structured (kind_of t v.type_number) ≡ x → y ≡ lent 0 → end_behind ms vs (ends_behind x y (room_by sizes v.type_number) (ends a b)) ≡ b + 8 * scalars_lent t l lent (map type_in (v ∷ vs))
      by true true is at =
          let one : scalars_lent t l lent (map type_in (v ∷ vs)) ≡ 0 + scalars_lent t l (rest lent) (map type_in vs) = ap₂ (λ x y. cond (x && not y) 1 0 + scalars_lent t l (rest lent) (map type_in vs)) (sym at) is in
          let e = ap (end_behind ms vs) (range_on lent a b v vs true true is at range) ∙ more (a + room l v.type_number) b (range_rest lent a b v vs true true is at range) in
          omega (arith, one, e)
      by true false is at =
          let one : scalars_lent t l lent (map type_in (v ∷ vs)) ≡ 0 + scalars_lent t l (rest lent) (map type_in vs) = ap₂ (λ x y. cond (x && not y) 1 0 + scalars_lent t l (rest lent) (map type_in vs)) (sym at) is in
          let e = ap (end_behind ms vs) (range_on lent a b v vs true false is at range) ∙ more (a + room l v.type_number) b (range_rest lent a b v vs true false is at range) in
          omega (arith, one, e)
      by false true is at =
          let one : scalars_lent t l lent (map type_in (v ∷ vs)) ≡ 1 + scalars_lent t l (rest lent) (map type_in vs) = ap₂ (λ x y. cond (x && not y) 1 0 + scalars_lent t l (rest lent) (map type_in vs)) (sym at) is in
          let e = ap (end_behind ms vs) (range_on lent a b v vs false true is at range) ∙ more a (b + 8) (range_rest lent a b v vs false true is at range) in
          omega (arith, one, e)
      by false false is at =
          let one : scalars_lent t l lent (map type_in (v ∷ vs)) ≡ 0 + scalars_lent t l (rest lent) (map type_in vs) = ap₂ (λ x y. cond (x && not y) 1 0 + scalars_lent t l (rest lent) (map type_in vs)) (sym at) is in
          let e = more a b (range_rest lent a b v vs false false is at range) in
          omega (arith, one, e)

  pub ends_is : (ms : List Bool) (lent : Mask) (vs : List Variable) (a b : ℕ) → length ms ≡ length vs → Marks ms lent vs → Range lent a b vs → (ends_by t sizes ms (ends a b) vs).scalar ≡ b + 8 * scalars_lent t l lent (map type_in vs)
  ends_is [] lent [] a b same marks range = omega arith
  ends_is [] lent (v ∷ vs) a b same marks range = absurd (omega (arith, same))
  ends_is (m ∷ ms) lent [] a b same marks range = omega arith
  ends_is (m ∷ ms) lent (v ∷ vs) a b same marks range =
      one_end ms lent v vs a b range (λ c d r. ends_is ms (rest lent) vs c d (omega (arith, same)) (λ i lt. marks (suc i) (omega (arith, lt))) r) (is_structured (kind_of t v.type_number)) m refl (marks 0 (omega arith))

  -- a procedure's variables
  module _ (p : Program) (f : ℕ) (q : Procedure) (of_table : p.types ≡ t) where
    pub locals_are : (x : Locals) (vs : List Variable) (ms : List Bool) → map pair_of vs ≡ declared_in q → length ms ≡ length vs → Marks ms (lent_in_body q) vs → x.cells ≡ cells_of_all t (map type_in vs) → x.cells ≤ 1048576
        → x.variables ≡ placed_by t sizes ms (ends 0 x.structured) vs → x.bytes ≡ (ends_by t sizes ms (ends 0 x.structured) vs).scalar → x.structured ≡ finish (structured_size t sizes) 0 vs → AreLocals x p f q
    locals_are x vs ms declared same marks counted few variables bytes structured =
        let lent = lent_in_body q in
        let types = declared_types q vs declared in
        let fits = memory_fits lent (map type_in vs) in
        let zeroed : x.structured ≡ structured_room t l (map type_in vs) = structured ∙ structured_finish_is vs (omega (arith, counted, few, fits)) in
        let range : Range lent 0 x.structured vs = (omega (arith, counted, few, fits), omega (arith, counted, few, fits, zeroed)) in
        let whole : x.structured ≡ structured_room t l (locals_of q) = zeroed ∙ ap (structured_room t l) types in
        let ended : x.bytes ≡ x.structured + 8 * scalars_lent t l lent (map type_in vs) = bytes ∙ ends_is ms lent vs 0 x.structured same marks range in
        record {
          variables = ap (map seen) variables ∙ placed_is ms lent vs 0 x.structured same marks range ∙ ap₂ (λ n ps. placed t l lent 0 n ps) whole declared ∙ sym (ap (λ u. placed u (layout u) lent 0 (structured_room u (layout u) (locals_of q)) (declared_in q)) of_table);
          cells = counted ∙ ap₂ (λ u ks. cells_of_all u ks) (sym of_table) types;
          bytes = ended ∙ ap₂ (λ n ks. n + 8 * scalars_lent t l lent ks) whole types ∙ sym (ap (λ u. structured_room u (layout u) (locals_of q) + 8 * scalars_lent u (layout u) lent (locals_of q)) of_table);
          structured = whole ∙ sym (ap (λ u. structured_room u (layout u) (locals_of q)) of_table);
        }

-- the cells of a procedure's variables
module _ (t : Table) (counts : List ℕ) (counted : (k : ℕ) → type_cells_by counts k ≡ cells t k) where
  abbrev counted_in : Variable → ℕ
  counted_in v = type_cells_by counts v.type_number

  all_counted : (vs : List Variable) → sum_by counted_in vs ≡ cells_of_all t (map type_in vs)
  all_counted [] = refl
  all_counted (v ∷ vs) = sum_by-cons counted_in v vs ∙ ap₂ (λ a b. a + b) (counted v.type_number) (all_counted vs) ∙ sym (sum_by-cons (λ x. x) (cells t v.type_number) (map (cells t) (map type_in vs)))

  pub declared_cells_are : (vs : List Variable) → finish counted_in 0 vs ≡ within (cells_of_all t (map type_in vs))
  declared_cells_are vs = let e = all_counted vs in finish_is counted_in 0 vs (omega arith) ∙ omega (arith, e)

-- a loop's step over marks and variables
module _ (t : Table) (sizes : List ℕ) where
  pub place_more : (ms : List Bool) (vs : List Variable) (i : ℕ) (m : Bool) (v w : Variable) (e next : Ends) (old new all : List Variable) (last : Ends) → i < length ms → i < length vs → m ≡ get_or ms i m → v ≡ get_or vs i v
      → new ≡ old ++ w ∷ [] → w ≡ record v { place = place_in (is_structured (kind_of t v.type_number)) m e } → next ≡ ends_behind (is_structured (kind_of t v.type_number)) m (room_by sizes v.type_number) e
      → (old ++ placed_by t sizes (drop i ms) e (drop i vs) ≡ all) × (ends_by t sizes (drop i ms) e (drop i vs) ≡ last)
      → (new ++ placed_by t sizes (drop (i + 1) ms) next (drop (i + 1) vs) ≡ all) × (ends_by t sizes (drop (i + 1) ms) next (drop (i + 1) vs) ≡ last)
  place_more ms vs i m v w e next old new all last ltm ltv mis vis more one there before =
      let a : drop i ms ≡ m ∷ drop (i + 1) ms = drop_more ms i m ltm ∙ ap (λ y. y ∷ drop (i + 1) ms) (sym mis) in
      let b : drop i vs ≡ v ∷ drop (i + 1) vs = drop_more vs i v ltv ∙ ap (λ y. y ∷ drop (i + 1) vs) (sym vis) in (
        ap₂ (λ l n. l ++ placed_by t sizes (drop (i + 1) ms) n (drop (i + 1) vs)) (more ∙ ap (λ x. old ++ x ∷ []) one) there
            ∙ append_assoc old (record v { place = place_in (is_structured (kind_of t v.type_number)) m e } ∷ []) (placed_by t sizes (drop (i + 1) ms) (ends_behind (is_structured (kind_of t v.type_number)) m (room_by sizes v.type_number) e) (drop (i + 1) vs))
            ∙ sym (ap₂ (λ x y. old ++ placed_by t sizes x e y) a b)
            ∙ before.0,
        ap (λ n. ends_by t sizes (drop (i + 1) ms) n (drop (i + 1) vs)) there ∙ sym (ap₂ (λ x y. ends_by t sizes x e y) a b) ∙ before.1,
      )
