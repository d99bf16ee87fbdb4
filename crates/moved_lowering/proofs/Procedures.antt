-- What lowering makes of a procedure, where another program's record types begin with its own.
use Rattle.std.proofs.Common.{◌≡◌, ℕ, zero, suc, ◌+◌, ◌*◌, ◌<◌, Bool, true, false, not, cond, List, [], ◌∷◌, ◌++◌, map, length, sum, filter, take, Option, Some, None, refl, sym, ap, ap₂, subst, ◌∙◌}
use Rattle.std.specs.Prelude.{slice_get, slice_index_or, if◌then◌else◌, ◌&&◌, ◌-◌}
use Rattle.std.specs.List.{list_any}
use Rattle.std.proofs.lemmas.List.Sums.{sum_by-cons}
use Rattle.ob_types.specs.Meaning.{is_value}
use Rattle.ob_types.specs.Trees.{round_up, with_part, in_a_row}
use Rattle.ob_types.specs.declared.types.Extent.{Extent}
use Rattle.block_runs.specs.declared.end.End.{End}
use Rattle.block_runs.specs.declared.end.End.TheVariants.{Return}
use Rattle.ssa_core.specs.declared.procedure.Op.{Op}
use Rattle.ssa_lowered.specs.Data.{rounded}
use Rattle.ssa_lowered.specs.Pieces.{Start, Piece, Appends, Closes, Low, ◌>>=◌, Mask, rest, blocks_of}
use Rattle.ssa_lowered.specs.Variables.{words_by, Register, Memory, further, zeroing}
use Rattle.ssa_lowered.specs.Statements.{Deed}
use Rattle.ssa_lowered.specs.Lowered.{entry, at_entry}
use Rattle.ob_judge.specs.Shapes.{Shape, Nothing, Array, Record, Added}
use Rattle.ob_judge.specs.Image as I
use Rattle.one_lowering.proofs.Sizes.{small_shape, structured_shape}
use Rattle.one_lowering.proofs.Middle.{low_statements, low_answer}
use Rattle.one_lowering.proofs.Whole.{Facts, Slot, no_slot, word_count, local_shapes, value_slots, in_register, local_by, parameter_by, store_slots, open_slots, enter, record_at, counted, cells_in, taken, extent_in, size, base_extent, with_parts, place, room, structured_room, scalars_lent, placed, lent_in, zeroed, slots, bytes, site_of, asked, low_whole, low_made, low_procedure, low_procedures}
use Rattle.moved_code.specs.Procedures.{unplaced_op, unplaced_block, AreAlikeProcs}
use Rattle.moved_lowering.specs.Within.{IsWithin, AllWithin, FormalsWithin, FieldsWithin, BaseWithin, RecordTypeWithin, ProcedureWithin, ProceduresWithin}
use Rattle.moved_lowering.specs.Starts.{AllAlikeProcs}
use Rattle.moved_lowering.proofs.Making.{bare, AreAlike, alike, alike_by, and_then}
use Rattle.moved_lowering.proofs.Trees.{Agree, statements_alike, answer_alike}

---- Blocks

ops_more : (ops : List Op) (op : Op) → map unplaced_op (ops ++ op ∷ []) ≡ map unplaced_op ops ++ unplaced_op op ∷ []
ops_more [] op = refl
ops_more (x ∷ ops) op = ap (λ xs. unplaced_op x ∷ xs) (ops_more ops op)

blocks_bare : (s : Start) (ops : List Op) (last : End) (ps : List Piece) → map unplaced_block (blocks_of s ops last ps) ≡ blocks_of s (map unplaced_op ops) last (bare ps)
blocks_bare s ops last [] = refl
blocks_bare s ops last (Appends b i op ∷ more) = blocks_bare s (ops ++ op ∷ []) last more ∙ ap (λ xs. blocks_of s xs last (bare more)) (ops_more ops op)
blocks_bare s ops last (Closes b i end next ∷ more) = ap (λ bs. record { params = s.params; ops = map unplaced_op ops; end = end; freq = s.freq; enter = s.enter } ∷ bs) (blocks_bare next [] last more)

---- Two programs

-- record types of so many numbers are the same in both, and name no others
pub record Share (x y : Facts) : Type 0 where
  pub front : (r : ℕ) → r < length x.records → record_at x r ≡ record_at y r
  pub within : (r : ℕ) → r < length x.records → RecordTypeWithin (length x.records) (record_at x r)

module _ (x y : Facts) (share : Share x y) where
  abbrev n : ℕ
  n = length x.records

  whole_same : (r : ℕ) → r < n → counted x r ≡ counted y r
  whole_same r l = ap (λ t. t.cells) (share.front r l)

  cells_same : (s : Shape) → IsWithin n s → cells_in x s ≡ cells_in y s
  cells_same (Array k s) i = ap (λ m. k * m) (cells_same s i)
  cells_same (Record r) i = whole_same r i
  cells_same s i = refl

  taken_same : (r : ℕ) → r < n → taken x r ≡ taken y r
  taken_same r l = ap (λ t. t.extent) (share.front r l)

  extent_same : (s : Shape) → IsWithin n s → extent_in x s ≡ extent_in y s
  extent_same (Array k s) i = ap (in_a_row k) (extent_same s i)
  extent_same (Record r) i = taken_same r i
  extent_same s i = refl

  size_same : (s : Shape) → IsWithin n s → size x s ≡ size y s
  size_same s i = ap (λ e. e.bytes) (extent_same s i)

  room_same : (s : Shape) → IsWithin n s → room x s ≡ room y s
  room_same s i = ap rounded (size_same s i)

  base_same : (o : Option ℕ) → BaseWithin n o → base_extent x o ≡ base_extent y o
  base_same None i = refl
  base_same (Some b) i = taken_same b i

  abbrev shapes_of : List Added → List Shape
  shapes_of fs = map (λ (f : Added). f.shape) fs

  -- what takes as much takes as much with fields behind it
  fields_same : (d e : Extent) → d ≡ e → (i : ℕ) (fs : List Added) → FieldsWithin n fs → with_parts x d (take i (shapes_of fs)) ≡ with_parts y e (take i (shapes_of fs))
  fields_same d e g zero fs h = g
  fields_same d e g (suc i) [] h = g
  fields_same d e g (suc i) (f ∷ fs) h = fields_same (with_part d (extent_in x f.shape)) (with_part e (extent_in y f.shape)) (ap₂ with_part g (extent_same f.shape h.0)) i fs h.1

  -- a field, or where there is none what stands for it
  field_same : (i : ℕ) (fs : List Added) → FieldsWithin n fs → extent_in x (slice_index_or (shapes_of fs) i Nothing) ≡ extent_in y (slice_index_or (shapes_of fs) i Nothing)
  field_same i [] h = refl
  field_same zero (f ∷ fs) h = extent_same f.shape h.0
  field_same (suc i) (f ∷ fs) h = field_same i fs h.1

  abbrev place_in : Facts → I.RecordType → ℕ → ℕ
  place_in z t i = round_up (extent_in z (slice_index_or (shapes_of t.fields) i Nothing)).wide (with_parts z (base_extent z t.base) (take i (shapes_of t.fields))).bytes

  place_same : (r i : ℕ) → r < n → place x r i ≡ place y r i
  place_same r i l =
      let t = record_at x r in
      let w = share.within r l in
      ap₂ (λ (d e : Extent). round_up d.wide e.bytes) (field_same i t.fields w.fields) (fields_same (base_extent x t.base) (base_extent y t.base) (base_same t.base w.base) i t.fields w.fields)
      ∙ ap (λ u. place_in y u i) (share.front r l)

  ---- variables

  one_room : (s : Shape) → IsWithin n s → (if structured_shape s then room x s else 0) ≡ (if structured_shape s then room y s else 0)
  one_room s i = ap (λ (m : ℕ). if structured_shape s then m else 0) (room_same s i)

  rooms_same : (ss : List Shape) → AllWithin n ss → structured_room x ss ≡ structured_room y ss
  rooms_same [] i = refl
  rooms_same (s ∷ ss) i =
      sum_by-cons (λ t. if structured_shape t then room x t else 0) s ss
      ∙ (ap₂ (λ a b. a + b) (one_room s i.0) (rooms_same ss i.1) ∙ sym (sum_by-cons (λ t. if structured_shape t then room y t else 0) s ss))

  all_cells : (ss : List Shape) → AllWithin n ss → map (cells_in x) ss ≡ map (cells_in y) ss
  all_cells [] i = refl
  all_cells (s ∷ ss) i = ap₂ (λ a b. a ∷ b) (cells_same s i.0) (all_cells ss i.1)

  scalars_same : (lent : Mask) (ss : List Shape) → scalars_lent x lent ss ≡ scalars_lent y lent ss
  scalars_same lent [] = refl
  scalars_same lent (s ∷ ss) = ap (λ m. cond (lent 0 && not (structured_shape s)) 1 0 + m) (scalars_same (rest lent) ss)

  abbrev SlotsWithin : List (Shape × Option ℕ) → Type 0
  SlotsWithin [] = Unit {0}
  SlotsWithin (z ∷ zs) = IsWithin n z.0 × SlotsWithin zs

  placed_same : (lent : Mask) (a b : ℕ) (zs : List (Shape × Option ℕ)) → SlotsWithin zs → placed x lent a b zs ≡ placed y lent a b zs
  placed_same lent a b [] i = refl
  placed_same lent a b (z ∷ zs) i =
      let one = ap (λ m. placed x (rest lent) (a + m) b zs) (room_same z.0 i.0) ∙ placed_same (rest lent) (a + room y z.0) b zs i.1 in
      let two = placed_same (rest lent) a (b + 8) zs i.1 in
      let three = placed_same (rest lent) a b zs i.1 in
      λ k.
      if structured_shape z.0 then record { word = z.1; structured = structured_shape z.0; small = small_shape z.0; site = Memory a } ∷ one k
      else if lent 0 then record { word = z.1; structured = structured_shape z.0; small = small_shape z.0; site = Memory b } ∷ two k
      else record { word = z.1; structured = structured_shape z.0; small = small_shape z.0; site = Register } ∷ three k

  and_slots : (xs ys : List (Shape × Option ℕ)) → SlotsWithin xs → SlotsWithin ys → SlotsWithin (xs ++ ys)
  and_slots [] ys i j = j
  and_slots (z ∷ zs) ys i j = (i.0, and_slots zs ys i.1 j)

  and_all : (xs ys : List Shape) → AllWithin n xs → AllWithin n ys → AllWithin n (xs ++ ys)
  and_all [] ys i j = j
  and_all (z ∷ zs) ys i j = (i.0, and_all zs ys i.1 j)

  local_slots : (ss : List Shape) → AllWithin n ss → SlotsWithin (map (λ s. (s, None)) ss)
  local_slots [] i = tt
  local_slots (s ∷ ss) i = (i.0, local_slots ss i.1)

  abbrev one_slot : Bool → Shape → ℕ → List (Shape × Option ℕ)
  one_slot c s w = if c then (s, Some w) ∷ [] else []

  slot_within : (c : Bool) (s : Shape) (w : ℕ) → IsWithin n s → SlotsWithin (one_slot c s w)
  slot_within true s w i = (i, tt)
  slot_within false s w i = tt

  values_within : (w : ℕ) (xs : List I.Formal) → FormalsWithin n xs → SlotsWithin (value_slots w xs)
  values_within w [] i = tt
  values_within w (z ∷ zs) i = and_slots (one_slot (is_value z.mode) z.shape w) (value_slots (w + words_by z.mode) zs) (slot_within (is_value z.mode) z.shape w i.0) (values_within (w + words_by z.mode) zs i.1)

  abbrev value_shapes : List I.Formal → List Shape
  value_shapes xs = map (λ (z : I.Formal). z.shape) (filter (λ (z : I.Formal). is_value z.mode) xs)

  shapes_within : (xs : List I.Formal) → FormalsWithin n xs → AllWithin n (value_shapes xs)
  shapes_within [] i = tt
  shapes_within (z ∷ zs) i = by (is_value z.mode) (shapes_within zs i.1)
    where
      by : (c : Bool) → AllWithin n (value_shapes zs) → AllWithin n (map (λ (w : I.Formal). w.shape) (if c then z ∷ filter (λ (w : I.Formal). is_value w.mode) zs else filter (λ (w : I.Formal). is_value w.mode) zs))
      by true h = (i.0, h)
      by false h = h

  ---- a procedure

  module _ (f : ℕ) (q : I.Procedure) (i : ProcedureWithin n q) where
    locals_within : AllWithin n (local_shapes q)
    locals_within = and_all (value_shapes q.formals) q.locals (shapes_within q.formals i.formals) i.locals

    zeroed_same : zeroed x f q ≡ zeroed y f q
    zeroed_same = rooms_same (local_shapes q) locals_within

    bytes_same : bytes x f q ≡ bytes y f q
    bytes_same = ap₂ (λ a b. a + 8 * b) zeroed_same (scalars_same (lent_in x f q) (local_shapes q))

    slots_same : slots x f q ≡ slots y f q
    slots_same =
        ap (λ z. placed x (lent_in x f q) 0 z (value_slots 0 q.formals ++ map (λ s. (s, None)) q.locals)) zeroed_same
        ∙ placed_same (lent_in x f q) 0 (zeroed y f q) (value_slots 0 q.formals ++ map (λ s. (s, None)) q.locals) (and_slots (value_slots 0 q.formals) (map (λ s. (s, None)) q.locals) (values_within 0 q.formals i.formals) (local_slots q.locals i.locals))

    site_same : (v : ℕ) → site_of x f q v ≡ site_of y f q v
    site_same v = ap (λ (zs : List Slot). (slice_index_or zs v no_slot).site) slots_same

    agree : Agree n (asked x f q) (asked y f q)
    agree = record {
      size = size_same;
      char = refl;
      nothing = refl;
      whole = whole_same;
      whole_bytes = λ r l. ap (λ e. e.bytes) (taken_same r l);
      level = λ r l. ap (λ (t : I.RecordType). t.level) (share.front r l);
      place = place_same;
      parameter = λ k. alike (parameter_by (slice_get q.formals k) (word_count (take k q.formals)));
      local = λ v. alike_by (local_by (bytes x f q) (site_of x f q v) v) (local_by (bytes y f q) (site_of y f q v) v) (ap₂ (λ b s. local_by b s v) bytes_same (site_same v));
      register = λ v. ap in_register (site_same v);
    }

    abbrev whole_with : ℕ → ℕ → List Slot → Deed → Low (Option ℕ) → Low (Option ℕ)
    whole_with all none zs body answer =
        further 4 (word_count q.formals - 4) >>= λ a. zeroing (list_any structured_shape q.locals) all none >>= λ b. store_slots all zs >>= λ c. open_slots zs >>= λ env. enter env >>= λ d. body >>= λ e. answer

    whole_alike : AreAlike (low_whole x f q (word_count q.formals)) (low_whole y f q (word_count q.formals))
    whole_alike =
        let a = asked x f q in
        let b = asked y f q in
        let inner = statements_alike n a b agree q.body i.body in
        let last = answer_alike n a b agree q.answer i.answer in
        let moved : whole_with (bytes x f q) (zeroed x f q) (slots x f q) (low_statements b q.body) (low_answer b q.answer) ≡ low_whole y f q (word_count q.formals) =
        λ k. whole_with (bytes_same k) (zeroed_same k) (slots_same k) (low_statements b q.body) (low_answer b q.answer) in
        subst (AreAlike (low_whole x f q (word_count q.formals))) moved
        (and_then (alike (further 4 (word_count q.formals - 4))) (λ u1.
        and_then (alike (zeroing (list_any structured_shape q.locals) (bytes x f q) (zeroed x f q))) (λ u2.
        and_then (alike (store_slots (bytes x f q) (slots x f q))) (λ u3.
        and_then (alike (open_slots (slots x f q))) (λ env.
        and_then (alike (enter env)) (λ u4.
        and_then inner (λ u5. last)))))))

    pub procedure_alike : AreAlikeProcs (low_procedure x f q) (low_procedure y f q)
    procedure_alike =
        let words = word_count q.formals in
        let m = low_made x f q in
        let w = low_made y f q in
        let made = whole_alike.each (at_entry words) in
        let blocks : map unplaced_block (blocks_of (entry words) [] (Return m.result) m.pieces) ≡ map unplaced_block (blocks_of (entry words) [] (Return w.result) w.pieces) =
        blocks_bare (entry words) [] (Return m.result) m.pieces
        ∙ (ap₂ (λ r ps. blocks_of (entry words) [] (Return r) ps) made.result made.pieces ∙ sym (blocks_bare (entry words) [] (Return w.result) w.pieces)) in
        let cells : sum (map (cells_in x) (local_shapes q)) ≡ sum (map (cells_in y) (local_shapes q)) = ap sum (all_cells (local_shapes q) locals_within) in
        record {
          same = λ k. record {
            blocks = blocks k;
            values = (made.after k).values;
            args = words;
            counted = not q.is_body;
            local_cells = cells k;
            local_bytes = bytes_same k;
          };
        }

  pub procedures_alike : (f : ℕ) (qs : List I.Procedure) → ProceduresWithin n qs → AllAlikeProcs (low_procedures x f qs) (low_procedures y f qs)
  procedures_alike f [] i = tt
  procedures_alike f (q ∷ qs) i = (procedure_alike f q i.0, procedures_alike (suc f) qs i.1)
